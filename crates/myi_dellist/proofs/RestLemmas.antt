-- What a row's last block leaves over is released as the definitions on lists say.
use Rattle.std.proofs.Common.{◌≡◌, ℕ, ◌+◌, ◌<◌, inl, inr, Bool, true, false, List, [], ◌∷◌, ◌++◌, length, Option, Some, None, Result, Ok, Err, refl, sym, ap, subst, ◌∙◌, arith, append_assoc}
use Rattle.std.specs.Prelude.{◌==◌, nat_le, if◌then◌else◌}
use Rattle.std.specs.Option.{option_map}
use Rattle.std.specs.List.{AllByRecursion}
use Rattle.std.proofs.lemmas.Bool.{eq-eqb, eqb-true}
use Rattle.std.proofs.lemmas.List.{length-append}
use Rattle.myi_frames.specs.declared.head.Head.{Head}
use Rattle.myi_dellist.specs.declared.linked.Linked.{Linked}
use Rattle.myi_dellist.specs.declared.linked.ReleasePlan.{ReleasePlan}
use Rattle.myi_dellist.specs.declared.pieces.Piece.{Piece}
use Rattle.myi_dellist.specs.Areas.{Area, IsApart, AreApart}
use Rattle.myi_dellist.specs.Releasing.{most_size, hole_at, without, joined, release_one, IsHole}
use Rattle.myi_dellist.specs.Standing.{hole_block, first_or, last_or, IsPart, HasList, with_first, without_block, before, behind, without_at, joined_bytes, release_one_bytes}
use Rattle.myi_dellist.specs.Freeing.{hole_in, same_link, block_linked, linked_by, block_before, block_named, if_short, hole_behind, without_prev, taken_off_bytes, put_first_bytes, plan_bytes}
use Rattle.myi_dellist.specs.Merging.{merge_by, some_linked, merge_in}
use Rattle.myi_dellist.specs.Planning.{is_taken, past_taken, link_past, first_past, rest_plan, alone_by}
use Rattle.myi_dellist.proofs.LinkLemmas.{part_split, all_split, apart_split}
use Rattle.myi_dellist.proofs.ReleasedLemmas.{SplitsAt, found_splits, both}
use Rattle.myi_dellist.proofs.SeenLemmas.{the_head, first_of, last_head, last_of, the_link}
use Rattle.myi_dellist.proofs.PlanLemmas.{link_is, off_is, put_is, none_before, past_is, split_behind}
use Rattle.myi_dellist.proofs.MergeLemmas.{merge_none, merge_some}
use Rattle.myi_dellist.proofs.TakeLemmas.{head_at}

-- none of these begins at this place
abbrev pub NoneAt : ℕ → List Area → Type 0
NoneAt p xs = AllByRecursion (λ (x : Area). (x.at == p) ≡ false) xs

pub none_at : (a : Area) (xs : List Area) → 0 < a.size → AllByRecursion IsHole xs → AllByRecursion (IsApart a) xs → NoneAt a.at xs
none_at a [] some sizes far = tt
none_at a (x ∷ xs) some sizes far = (by_test (x.at == a.at) refl, none_at a xs some sizes.1 far.1)
  where
    by_side : IsApart a x → x.at ≡ a.at → ⊥
    by_side (inl le) e = omega arith
    by_side (inr le) e = omega (arith, sizes.0.least)

    by_test : (b : Bool) → (x.at == a.at) ≡ b → b ≡ false
    by_test true t = absurd (by_side far.0 (eqb-true _ _ t))
    by_test false t = refl

-- ---- the block before the one that is joined

keeps_prev : (last : ℕ) (prev : Option ℕ) (x : Area) (xs : List Area) (next : Option ℕ) → same_link prev (Some last) ≡ false → NoneAt last (x ∷ xs) → past_taken last (last_head prev x xs next) ≡ last_head prev x xs next
keeps_prev last prev x [] next e away = ap (λ (b : Bool). if b then the_head x next None else the_head x next prev) e
keeps_prev last prev x (y ∷ xs) next e away = keeps_prev last (Some x.at) y xs next away.0 away.1

drops_prev : (last : ℕ) (x : Area) (xs : List Area) (next : Option ℕ) → NoneAt last (x ∷ xs) → past_taken last (last_head (Some last) x xs next) ≡ last_head None x xs next
drops_prev last x [] next away = ap (λ (b : Bool). if b then the_head x next None else the_head x next (Some last)) (eq-eqb last last refl)
drops_prev last x (y ∷ xs) next away = keeps_prev last (Some x.at) y xs next away.0 away.1

head_join : (prev : Option ℕ) (z : Area) (zs : List Area) (x : Area) (xs : List Area) (next : Option ℕ) → last_head prev z (zs ++ x ∷ xs) next ≡ last_head (last_or (z ∷ zs) prev) x xs next
head_join prev z [] x xs next = refl
head_join prev z (w ∷ zs) x xs next = head_join (Some z.at) w zs x xs next

of_join : (zs : List Area) (last : ℕ) (x : Area) (xs : List Area) (next : Option ℕ) → last_or zs None ≡ Some last → last_of (zs ++ x ∷ xs) next ≡ Some (last_head (Some last) x xs next)
of_join [] last x xs next e = absurd cc
of_join (z ∷ zs) last x xs next e = ap (λ (h : Head). Some h) (head_join None z zs x xs next ∙ ap (λ (o : Option ℕ). last_head o x xs next) e)

or_join : (zs : List Area) (x : Area) (xs : List Area) (prev : Option ℕ) → last_or (zs ++ x ∷ xs) prev ≡ last_or xs (Some x.at)
or_join [] x xs prev = refl
or_join (z ∷ zs) x xs prev = or_join zs x xs (Some z.at)

other_last : (last : ℕ) (x : Area) (xs : List Area) → NoneAt last (x ∷ xs) → same_link (last_or xs (Some x.at)) (Some last) ≡ false
other_last last x [] away = away.0
other_last last x (y ∷ xs) away = other_last last y xs away.1

-- the block that is joined, by where it names the one before it
abbrev past_by : ℕ → Area → List Area → Option ℕ → Option Head → Linked
past_by last h ys prev b = link_past last (record { before = b; hole = the_head h (first_or ys None) prev; behind = first_of (Some h.at) ys })

link_first : (last : ℕ) (zs : List Area) (h : Area) (ys : List Area) → last_or zs None ≡ Some last → link_past last (the_link zs h ys) ≡ the_link [] h ys
link_first last zs h ys e =
    ap (λ (o : Option ℕ). past_by last h ys o (last_of zs (Some h.at))) e
    ∙ ap (λ (b : Bool). by_test b (last_of zs (Some h.at))) (eq-eqb last last refl)
  where
    by_test : Bool → Option Head → Linked
    by_test b o = record { before = if b then None else option_map (past_taken last) o; hole = if b then the_head h (first_or ys None) None else the_head h (first_or ys None) (Some last); behind = first_of (Some h.at) ys }

link_rest : (last : ℕ) (zs : List Area) (x : Area) (xs : List Area) (h : Area) (ys : List Area) → last_or zs None ≡ Some last → NoneAt last (x ∷ xs) → link_past last (the_link (zs ++ x ∷ xs) h ys) ≡ the_link (x ∷ xs) h ys
link_rest last zs x xs h ys e away =
    ap (λ (o : Option ℕ). past_by last h ys o (last_of (zs ++ x ∷ xs) (Some h.at))) (or_join zs x xs None)
    ∙ ap (past_by last h ys (last_or xs (Some x.at))) (of_join zs last x xs (Some h.at) e)
    ∙ ap by_test (other_last last x xs away)
    ∙ ap (λ (b : Head). record { before = Some b; hole = the_head h (first_or ys None) (last_or xs (Some x.at)); behind = first_of (Some h.at) ys }) (drops_prev last x xs (Some h.at) away)
  where
    by_test : Bool → Linked
    by_test b = record { before = if b then None else Some (past_taken last (last_head (Some last) x xs (Some h.at))); hole = if b then the_head h (first_or ys None) None else the_head h (first_or ys None) (last_or xs (Some x.at)); behind = first_of (Some h.at) ys }

link_after : (last : ℕ) (zs xs : List Area) (h : Area) (ys : List Area) → last_or zs None ≡ Some last → NoneAt last xs → link_past last (the_link (zs ++ xs) h ys) ≡ the_link xs h ys
link_after last zs [] h ys e away = ap (λ (l : List Area). link_past last (the_link l h ys)) (Rattle.std.proofs.lemmas.List.append-nil zs) ∙ link_first last zs h ys e
link_after last zs (x ∷ xs) h ys e away = link_rest last zs x xs h ys e away

pub alone_first : (last : ℕ) (rest : List Area) → without_prev (first_of (Some last) rest) ≡ first_of None rest
alone_first last [] = refl
alone_first last (r ∷ rest) = refl

first_after : (last : ℕ) (xs : List Area) (h : Area) (ys : List Area) → AllByRecursion IsHole xs → AreApart xs → first_past (first_of (Some last) (xs ++ h ∷ ys)) (the_link xs h ys) ≡ first_of None (xs ++ ys)
first_after last [] h ys sizes apart = none_before h ys
first_after last (x ∷ xs) h ys sizes apart = past_is x xs h ys sizes apart.0

-- ---- the block behind

same_joined : (r : Result (Option Linked) ℕ) (j k : Option Linked) → r ≡ Ok j → r ≡ Ok k → j ≡ k
same_joined r j k e f = cc

-- one that is joined stands there
joined_at : (d : List ℕ) (head : Option ℕ) (at size : ℕ) (l : Linked) → merge_in (hole_in d) head at size ≡ Ok (Some l) → hole_in d (at + size) ≡ Some l.hole
unfolding merge_in hole_behind block_linked
joined_at d head at size l e = by_hole (hole_in d (at + size)) refl e
  where
    by_links : (g : Head) (b c : Result (Option Head) ℕ) → some_linked (linked_by g b c) ≡ Ok (Some l) → Some g ≡ Some l.hole
    by_links g (Ok b) (Ok c) e = let same : record { before = b; hole = g; behind = c } ≡ l = cc in ap (λ (x : Linked). Some x.hole) same
    by_links g (Ok b) (Err p) e = absurd cc
    by_links g (Err p) c e = absurd cc

    by_short : (g : Head) (b : Bool) → merge_by (hole_in d) head (if b then Some g else None) ≡ Ok (Some l) → Some g ≡ Some l.hole
    by_short g true e = by_links g (block_before (hole_in d) head g) (block_named (hole_in d) (Some g.at) g.next) e
    by_short g false e = absurd cc

    by_hole : (o : Option Head) → hole_in d (at + size) ≡ o → merge_by (hole_in d) head (if_short size o) ≡ Ok (Some l) → o ≡ Some l.hole
    by_hole None s e = absurd cc
    by_hole (Some g) s e = by_short g (nat_le (size + g.size) most_size) e

in_first : (p : ℕ) (zs rest : List Area) → hole_at p rest ≡ None → hole_at p zs ≡ None → hole_at p (zs ++ rest) ≡ None
in_first p [] rest e f = e
in_first p (z ∷ zs) rest e f = by_test (z.at == p) f (in_first p zs rest e)
  where
    by_test : (b : Bool) → (if b then Some z else hole_at p zs) ≡ None → (hole_at p zs ≡ None → hole_at p (zs ++ rest) ≡ None) → (if b then Some z else hole_at p (zs ++ rest)) ≡ None
    by_test true f ih = absurd cc
    by_test false f ih = ih f

-- ---- the whole

-- an area, the blocks that are taken, and those that stay on the list
pub record IsSpare (d : List ℕ) (s : Area) (zs rest : List Area) (last : ℕ) (qs : List Piece) (j : Option Linked) : Type 0 where
  pub list : HasList d (zs ++ rest)
  pub last_is : last_or zs None ≡ Some last
  pub away : NoneAt last rest
  pub free : AllByRecursion (λ (r : Area). is_taken r.at qs ≡ false) rest
  pub taken : (h : Area) → hole_at (s.at + s.size) zs ≡ Some h → is_taken (s.at + s.size) qs ≡ true
  pub behind : hole_at (s.at + s.size) (zs ++ rest) ≡ None → hole_in d (s.at + s.size) ≡ None
  pub found : merge_in (hole_in d) (first_or (zs ++ rest) None) s.at s.size ≡ Ok j

abbrev plan_of : List Piece → ℕ → List Area → Option Linked → ReleasePlan
plan_of qs last rest j = rest_plan qs last (first_of (Some last) rest) j

-- one that joins nothing
abbrev alone_plan : ℕ → List Area → ReleasePlan
alone_plan last rest = record { joined = None; first = without_prev (first_of (Some last) rest) }

alone_bytes : (s : Area) (last : ℕ) (rest : List Area) (x : List ℕ) → plan_bytes (alone_plan last rest) s.at s.size x ≡ with_first s rest x
alone_bytes s last rest x = ap (λ (o : Option Head). put_first_bytes s o x) (alone_first last rest) ∙ put_is s rest x

none_plan : (d : List ℕ) (s : Area) (zs rest : List Area) (last : ℕ) (qs : List Piece) (j : Option Linked) → IsSpare d s zs rest last qs j → hole_at (s.at + s.size) rest ≡ None → plan_of qs last rest j ≡ alone_plan last rest
none_plan d s zs rest last qs None i e = refl
none_plan d s zs rest last qs (Some l) i e =
    ap (λ (b : Bool). if b then alone_plan last rest else record { joined = Some (link_past last l); first = first_past (first_of (Some last) rest) (link_past last l) }) (by_zs (hole_at (s.at + s.size) zs) refl)
  where
    here : hole_in d (s.at + s.size) ≡ Some l.hole
    here = joined_at d (first_or (zs ++ rest) None) s.at s.size l i.found

    by_zs : (o : Option Area) → hole_at (s.at + s.size) zs ≡ o → is_taken l.hole.at qs ≡ true
    by_zs None f = let no_hole = i.behind (in_first (s.at + s.size) zs rest e f) in let two : None ≡ Some l.hole = sym no_hole ∙ here in absurd cc
    by_zs (Some h) f = ap (λ (p : ℕ). is_taken p qs) (head_at d (s.at + s.size) l.hole here) ∙ i.taken h f

-- one that joins a block of the list, where both together are not too long
abbrev split_plan : Bool → ℕ → List Area → Area → List Area → ReleasePlan
split_plan true last xs h ys = record { joined = Some (the_link xs h ys); first = first_of None (xs ++ ys) }
split_plan false last xs h ys = alone_plan last (xs ++ h ∷ ys)

some_plan : (d : List ℕ) (s : Area) (zs xs : List Area) (h : Area) (ys : List Area) (last : ℕ) (qs : List Piece) (j : Option Linked) → IsSpare d s zs (xs ++ h ∷ ys) last qs j → h.at ≡ s.at + s.size → (b : Bool) → nat_le (s.size + h.size) most_size ≡ b → plan_of qs last (xs ++ h ∷ ys) j ≡ split_plan b last xs h ys
some_plan d s zs xs h ys last qs j i at b t = by_test b t
  where
    all : zs ++ (xs ++ h ∷ ys) ≡ (zs ++ xs) ++ h ∷ ys
    all = sym (append_assoc zs xs (h ∷ ys))

    list : HasList d ((zs ++ xs) ++ h ∷ ys)
    list = subst (λ (hs : List Area). HasList d hs) all i.list

    head : Option ℕ
    head = first_or ((zs ++ xs) ++ h ∷ ys) None

    found : merge_in (hole_in d) head s.at s.size ≡ Ok j
    found = ap (λ (hs : List Area). merge_in (hole_in d) (first_or hs None) s.at s.size) (sym all) ∙ i.found

    the : Head
    the = the_head h (first_or ys None) (last_or (zs ++ xs) None)

    behind_is : hole_behind (hole_in d) s.at s.size ≡ (if nat_le (s.size + h.size) most_size then Some the else None)
    behind_is = split_behind d s h (first_or ys None) (last_or (zs ++ xs) None) at (part_split d None None (zs ++ xs) (h ∷ ys) list.linked).1.0

    parts : AllByRecursion IsHole xs × AreApart xs
    parts =
        let sizes = all_split IsHole zs (xs ++ h ∷ ys) i.list.sizes in
        let aparts = apart_split zs (xs ++ h ∷ ys) i.list.apart in
        ((all_split IsHole xs (h ∷ ys) sizes.1).0, (apart_split xs (h ∷ ys) aparts.1).0)

    by_test : (b : Bool) → nat_le (s.size + h.size) most_size ≡ b → plan_of qs last (xs ++ h ∷ ys) j ≡ split_plan b last xs h ys
    by_test false t =
        let none : j ≡ None = same_joined (merge_in (hole_in d) head s.at s.size) j None found (merge_none d head s.at s.size None (sym (behind_is ∙ ap (λ (b : Bool). if b then Some the else None) t)) refl) in
        ap (λ (k : Option Linked). plan_of qs last (xs ++ h ∷ ys) k) none
    by_test true t =
        let link = the_link (zs ++ xs) h ys in
        let is : j ≡ Some link = same_joined (merge_in (hole_in d) head s.at s.size) j (Some link) found
        (merge_some d head s.at s.size (Some the) the (sym (behind_is ∙ ap (λ (b : Bool). if b then Some the else None) t)) refl ∙ ap some_linked (link_is d (zs ++ xs) h ys list.linked)) in
        let free = (all_split (λ (r : Area). is_taken r.at qs ≡ false) xs (h ∷ ys) i.free).1.0 in
        let away = (all_split (λ (r : Area). (r.at == last) ≡ false) xs (h ∷ ys) i.away).0 in
        let next = first_of (Some last) (xs ++ h ∷ ys) in
        let past = link_after last zs xs h ys i.last_is away in
        ap (λ (k : Option Linked). plan_of qs last (xs ++ h ∷ ys) k) is
        ∙ ap (λ (b : Bool). if b then alone_plan last (xs ++ h ∷ ys) else record { joined = Some (link_past last link); first = first_past next (link_past last link) }) free
        ∙ ap (λ (l : Linked). record { joined = Some l; first = first_past next l }) past
        ∙ ap (λ (o : Option Head). record { joined = Some (the_link xs h ys); first = o }) (first_after last xs h ys parts.0 parts.1)

split_bytes : (s : Area) (last : ℕ) (xs : List Area) (h : Area) (ys : List Area) (x : List ℕ) (b : Bool) → plan_bytes (split_plan b last xs h ys) s.at s.size x ≡ (if b then with_first (both s h) (xs ++ ys) (without_block xs ys x) else with_first s (xs ++ h ∷ ys) x)
split_bytes s last xs h ys x true = put_is (both s h) (xs ++ ys) (taken_off_bytes (the_link xs h ys) x) ∙ ap (with_first (both s h) (xs ++ ys)) (off_is x xs h ys)
split_bytes s last xs h ys x false = alone_bytes s last (xs ++ h ∷ ys) x

pub rest_released : (d : List ℕ) (s : Area) (zs rest : List Area) (last : ℕ) (qs : List Piece) (j : Option Linked) (x : List ℕ) → IsSpare d s zs rest last qs j → plan_bytes (plan_of qs last rest j) s.at s.size x ≡ release_one_bytes s rest x
unfolding release_one_bytes
rest_released d s zs rest last qs j x i = by_found (hole_at (s.at + s.size) rest) refl
  where
    q : ℕ
    q = s.at + s.size

    by_found : (o : Option Area) → hole_at (s.at + s.size) rest ≡ o → plan_bytes (plan_of qs last rest j) s.at s.size x ≡ joined_bytes s rest x o
    by_found None e = ap (λ (p : ReleasePlan). plan_bytes p s.at s.size x) (none_plan d s zs rest last qs j i e) ∙ alone_bytes s last rest x
    by_found (Some h) e = by_test (nat_le (s.size + h.size) most_size) refl
      where
        t : SplitsAt (s.at + s.size) rest h
        t = found_splits (s.at + s.size) rest h e

        xs : List Area
        xs = before (s.at + s.size) rest

        ys : List Area
        ys = Rattle.myi_dellist.specs.Standing.behind (s.at + s.size) rest

        same : (b : Bool) → (if b then with_first (both s h) (xs ++ ys) (without_block xs ys x) else with_first s (xs ++ h ∷ ys) x) ≡ (if b then with_first (both s h) (without h.at rest) (without_at h.at rest x) else with_first s rest x)
        same true =
            ap (λ (hs : List Area). with_first (both s h) hs (without_block xs ys x)) (sym (ap (λ (q : ℕ). without q rest) t.at ∙ t.rest))
            ∙ ap (λ (q : ℕ). with_first (both s h) (without h.at rest) (without_at q rest x)) (sym t.at)
        same false = ap (λ (hs : List Area). with_first s hs x) (sym t.all)

        by_test : (b : Bool) → nat_le (s.size + h.size) most_size ≡ b → plan_bytes (plan_of qs last rest j) s.at s.size x ≡ (if b then with_first (both s h) (without h.at rest) (without_at h.at rest x) else with_first s rest x)
        by_test b w =
            ap (λ (hs : List Area). plan_bytes (plan_of qs last hs j) s.at s.size x) t.all
            ∙ ap (λ (p : ReleasePlan). plan_bytes p s.at s.size x) (some_plan d s zs xs h ys last qs j (subst (λ (hs : List Area). IsSpare d s zs hs last qs j) t.all i) t.at b w)
            ∙ split_bytes s last xs h ys x b
            ∙ same b

-- ---- how many blocks that makes

-- the list has one more, unless what is left over is joined
pub rest_counts : (d : List ℕ) (s : Area) (zs rest : List Area) (last : ℕ) (qs : List Piece) (j : Option Linked) → IsSpare d s zs rest last qs j → length (release_one s rest) ≡ length rest + alone_by (rest_plan qs last (first_of (Some last) rest) j).joined
unfolding release_one
rest_counts d s zs rest last qs j i = by_found (hole_at (s.at + s.size) rest) refl
  where
    by_found : (o : Option Area) → hole_at (s.at + s.size) rest ≡ o → length (joined s rest o) ≡ length rest + alone_by (plan_of qs last rest j).joined
    by_found None e = omega (arith, ap (λ (p : ReleasePlan). alone_by p.joined) (none_plan d s zs rest last qs j i e))
    by_found (Some h) e = by_test (nat_le (s.size + h.size) most_size) refl
      where
        t : SplitsAt (s.at + s.size) rest h
        t = found_splits (s.at + s.size) rest h e

        xs : List Area
        xs = before (s.at + s.size) rest

        ys : List Area
        ys = Rattle.myi_dellist.specs.Standing.behind (s.at + s.size) rest

        plan : (b : Bool) → nat_le (s.size + h.size) most_size ≡ b → alone_by (plan_of qs last rest j).joined ≡ alone_by (split_plan b last xs h ys).joined
        plan b w = ap (λ (hs : List Area). alone_by (plan_of qs last hs j).joined) t.all ∙ ap (λ (p : ReleasePlan). alone_by p.joined) (some_plan d s zs xs h ys last qs j (subst (λ (hs : List Area). IsSpare d s zs hs last qs j) t.all i) t.at b w)

        by_test : (b : Bool) → nat_le (s.size + h.size) most_size ≡ b → length (if b then record { at = s.at; size = s.size + h.size } ∷ without h.at rest else s ∷ rest) ≡ length rest + alone_by (plan_of qs last rest j).joined
        by_test true w =
            let whole : length rest ≡ length xs + length (h ∷ ys) = ap (λ (hs : List Area). length hs) t.all ∙ length-append xs (h ∷ ys) in
            let less : length (without h.at rest) ≡ length xs + length ys = ap (λ (hs : List Area). length hs) (ap (λ (q : ℕ). without q rest) t.at ∙ t.rest) ∙ length-append xs ys in
            omega (arith, whole, less, plan true w)
        by_test false w = omega (arith, plan false w)
