-- In a file that has a list, a release finds what the list says and writes what the definitions say.
use Rattle.std.proofs.Common.{◌≡◌, ℕ, ◌+◌, ◌<◌, ◌≤◌, inl, inr, Bool, true, false, List, [], ◌∷◌, ◌++◌, length, Option, Some, None, Result, Ok, Err, refl, sym, ap, subst, ◌∙◌, arith}
use Rattle.std.specs.Prelude.{◌==◌, nat_le, if◌then◌else◌}
use Rattle.std.specs.List.{AllByRecursion}
use Rattle.std.proofs.lemmas.Bool.{eq-eqb, eqb-true}
use Rattle.std.proofs.lemmas.List.{length-append}
use Rattle.myi_frames.specs.declared.head.Head.{Head}
use Rattle.myi_frames.specs.Block.{block_of}
use Rattle.myi_dellist.specs.declared.linked.ReleasePlan.{ReleasePlan}
use Rattle.myi_dellist.specs.Areas.{Area, IsApart, AreApart}
use Rattle.myi_dellist.specs.Releasing.{most_size, hole_at, without, joined, release_one, IsHole}
use Rattle.myi_dellist.specs.Standing.{hole_block, first_or, last_or, IsPart, HasList, with_head, with_next, with_prev, without_block, with_first, before, behind, without_at, joined_bytes, release_one_bytes}
use Rattle.myi_dellist.specs.Freeing.{hole_in, same_link, if_says, names_next, names_prev, block_before, block_named, block_linked, if_short, hole_behind, first_without, without_prev, next_past, with_joined, plan_linked, plan_in, area_at, behind_bytes, taken_off_bytes, put_first_bytes, plan_bytes, joined_size, place_at, first_head}
use Rattle.myi_dellist.specs.Heads.{over}
use Rattle.myi_dellist.specs.Several.{joined_heads, first_heads, plan_heads}
use Rattle.myi_dellist.specs.Planning.{alone_by}
use Rattle.myi_dellist.proofs.LinkLemmas.{all_split, all_join, apart_split}
use Rattle.myi_dellist.proofs.ReleasedLemmas.{SplitsAt, found_splits, both}
use Rattle.myi_dellist.proofs.NeedLemmas.{given_ok, before_none, before_some, named_none, named_some, first_none, first_ok, link_both, plan_none, plan_some}
use Rattle.myi_dellist.proofs.SeenLemmas.{the_head, hole_on, AreSeen, part_seen, seen_split, SeesList, list_seen, first_of, last_head, last_of, the_link, else_of, distinct_of, over-append, AreNotAt, not_both, off_seen, first_seen, not_at, off_not, first_not}

link_same : (p : Option ℕ) → same_link p p ≡ true
link_same None = refl
link_same (Some p) = eq-eqb p p refl

-- ---- the first block

says_so : (says : Head → Bool) (p : ℕ) (o : Option Head) (h : Head) → o ≡ Some h → says h ≡ true → if_says says p o ≡ Ok h
says_so says p o h e t = ap (if_says says p) e ∙ ap (λ (b : Bool). if b then given_head else Err p) t
  where
    given_head : Result Head ℕ
    given_head = Ok h

seen_first : (s : ℕ → Option Head) (prev : Option ℕ) (ys : List Area) → AreSeen s prev ys None → block_named s prev (first_or ys None) ≡ Ok (first_of prev ys)
seen_first s prev [] h = named_none s prev None refl
seen_first s prev (y ∷ ys) h =
    sym (named_some s prev (Some y.at) y.at refl)
    ∙ given_ok (the_head y (first_or ys None) prev) (if_says (names_prev prev) y.at (s y.at))
    (says_so (names_prev prev) y.at (s y.at) (the_head y (first_or ys None) prev) h.0 (link_same prev))

pub named_first : (d : List ℕ) (prev : Option ℕ) (ys : List Area) → IsPart d prev ys None → block_named (hole_in d) prev (first_or ys None) ≡ Ok (first_of prev ys)
named_first d prev ys h = seen_first (hole_in d) prev ys (part_seen d prev ys None h)

-- ---- the last block of a part

last_at : (prev : Option ℕ) (x : Area) (xs : List Area) (next : Option ℕ) → last_or (x ∷ xs) prev ≡ Some (last_head prev x xs next).at
last_at prev x [] next = refl
last_at prev x (y ∷ xs) next = last_at (Some x.at) y xs next

last_on : (s : ℕ → Option Head) (prev : Option ℕ) (x : Area) (xs : List Area) (next : Option ℕ) → AreSeen s prev (x ∷ xs) next → s (last_head prev x xs next).at ≡ Some (last_head prev x xs next)
last_on s prev x [] next h = h.0
last_on s prev x (y ∷ xs) next h = last_on s (Some x.at) y xs next h.1

last_next : (prev : Option ℕ) (x : Area) (xs : List Area) (next : Option ℕ) → (last_head prev x xs next).next ≡ next
last_next prev x [] next = refl
last_next prev x (y ∷ xs) next = last_next (Some x.at) y xs next

last_bytes : (d : List ℕ) (prev : Option ℕ) (x : Area) (xs : List Area) (next other : Option ℕ) → with_head (area_at (last_head prev x xs next)) other (last_head prev x xs next).prev d ≡ with_next (x ∷ xs) prev other d
last_bytes d prev x [] next other = refl
last_bytes d prev x (y ∷ xs) next other = last_bytes d (Some x.at) y xs next other

last_apart : (a : Area) (prev : Option ℕ) (x : Area) (xs : List Area) (next : Option ℕ) → 20 ≤ a.size → AllByRecursion IsHole (x ∷ xs) → AllByRecursion (IsApart a) (x ∷ xs) → (a.at == (last_head prev x xs next).at) ≡ false
last_apart a prev x [] next some s far = by_test (a.at == x.at) refl
  where
    by_side : IsApart a x → a.at ≡ x.at → ⊥
    by_side (inl le) e = omega arith
    by_side (inr le) e = omega (arith, s.0.least)

    by_test : (b : Bool) → (a.at == x.at) ≡ b → b ≡ false
    by_test true t = absurd (by_side far.0 (eqb-true _ _ t))
    by_test false t = refl
last_apart a prev x (y ∷ xs) next some s far = last_apart a (Some x.at) y xs next some s.1 far.1

-- ---- a block that is taken off

before_is : (s : ℕ → Option Head) (xs : List Area) (h : Area) (ys : List Area) → AreSeen s None xs (Some h.at) → block_before s (first_or (xs ++ h ∷ ys) None) (the_head h (first_or ys None) (last_or xs None)) ≡ Ok (last_of xs (Some h.at))
before_is s [] h ys part = before_none s (Some h.at) (the_head h (first_or ys None) None) refl true (link_same (Some h.at))
before_is s (x ∷ xs) h ys part =
    let l = last_head None x xs (Some h.at) in
    sym (before_some s (Some x.at) (the_head h (first_or ys None) (last_or (x ∷ xs) None)) l.at (last_at None x xs (Some h.at)))
    ∙ given_ok l (if_says (names_next (Some h.at)) l.at (s l.at))
    (says_so (names_next (Some h.at)) l.at (s l.at) l (last_on s None x xs (Some h.at) part) (ap (λ (o : Option ℕ). same_link o (Some h.at)) (last_next None x xs (Some h.at)) ∙ link_same (Some h.at)))

link_seen : (s : ℕ → Option Head) (xs : List Area) (h : Area) (ys : List Area) → AreSeen s None (xs ++ h ∷ ys) None → block_linked s (first_or (xs ++ h ∷ ys) None) (the_head h (first_or ys None) (last_or xs None)) ≡ Ok (the_link xs h ys)
link_seen s xs h ys list =
    let parts = seen_split s None None xs (h ∷ ys) list in
    link_both s (first_or (xs ++ h ∷ ys) None) (the_head h (first_or ys None) (last_or xs None)) (last_of xs (Some h.at)) (first_of (Some h.at) ys) (before_is s xs h ys parts.0) (seen_first s (Some h.at) ys parts.1.1)

pub link_is : (d : List ℕ) (xs : List Area) (h : Area) (ys : List Area) → IsPart d None (xs ++ h ∷ ys) None → block_linked (hole_in d) (first_or (xs ++ h ∷ ys) None) (the_head h (first_or ys None) (last_or xs None)) ≡ Ok (the_link xs h ys)
link_is d xs h ys list = link_seen (hole_in d) xs h ys (part_seen d None (xs ++ h ∷ ys) None list)

behind_is : (prev : Option ℕ) (h : Area) (ys : List Area) (e : List ℕ) → behind_bytes (the_head h (first_or ys None) prev) (first_of (Some h.at) ys) e ≡ with_prev ys prev None e
behind_is prev h [] e = refl
behind_is prev h (y ∷ ys) e = refl

pub off_is : (d : List ℕ) (xs : List Area) (h : Area) (ys : List Area) → taken_off_bytes (the_link xs h ys) d ≡ without_block xs ys d
off_is d [] h ys = behind_is None h ys d
off_is d (x ∷ xs) h ys =
    behind_is (last_or (x ∷ xs) None) h ys _ ∙ ap (with_prev ys (last_or (x ∷ xs) None) None) (last_bytes d None x xs (Some h.at) (first_or ys None))

pub none_before : (h : Area) (ys : List Area) → without_prev (first_of (Some h.at) ys) ≡ first_of None ys
none_before h [] = refl
none_before h (y ∷ ys) = refl

pub past_is : (x : Area) (xs : List Area) (h : Area) (ys : List Area) → AllByRecursion IsHole (x ∷ xs) → AllByRecursion (IsApart x) xs → next_past (last_head None x xs (Some h.at)) (the_head h (first_or ys None) (last_or (x ∷ xs) None)) (first_of None (x ∷ xs ++ h ∷ ys)) ≡ first_of None (x ∷ xs ++ ys)
past_is x [] h ys s far = ap (λ (b : Bool). if b then Some (the_head x (first_or ys None) None) else Some (the_head x (Some h.at) None)) (eq-eqb x.at x.at refl)
past_is x (y ∷ xs) h ys s far = ap (λ (b : Bool). if b then Some (the_head x (first_or ys None) None) else Some (the_head x (Some y.at) None)) (last_apart x (Some x.at) y xs (Some h.at) s.0.least s.1 far)

first_is : (s : ℕ → Option Head) (xs : List Area) (h : Area) (ys : List Area) → AllByRecursion IsHole xs → AreApart xs → AreSeen s None (xs ++ h ∷ ys) None → first_without s (first_or (xs ++ h ∷ ys) None) (the_link xs h ys) ≡ Ok (first_of None (xs ++ ys))
first_is s [] h ys sizes far list = first_none s (Some h.at) (the_link [] h ys) refl ∙ ap Ok (none_before h ys)
first_is s (x ∷ xs) h ys sizes far list =
    first_ok s (Some x.at) (the_link (x ∷ xs) h ys) (last_head None x xs (Some h.at)) (first_of None (x ∷ xs ++ h ∷ ys)) refl (seen_first s None (x ∷ xs ++ h ∷ ys) list)
    ∙ ap Ok (past_is x xs h ys sizes far.0)

-- ---- the head

pub put_is : (a : Area) (hs : List Area) (e : List ℕ) → put_first_bytes a (first_of None hs) e ≡ with_first a hs e
put_is a [] e = refl
put_is a (h ∷ hs) e = refl

-- ---- the whole

pub record Plans (s : ℕ → Option Head) (a : Area) (holes left : List Area) (bytes : List ℕ → List ℕ) : Type 0 where
  pub plan : ReleasePlan
  pub found : plan_in s (first_or holes None) a.at a.size ≡ Ok plan
  pub bytes_are : (x : List ℕ) → plan_bytes plan a.at a.size x ≡ bytes x
  pub rest : List Area
  pub shape : left ≡ record { at = a.at; size = joined_size a.size plan.joined } ∷ rest
  pub next : place_at plan.first ≡ first_or rest None
  pub counts : length left ≡ length holes + alone_by plan.joined
  pub seen_then : 0 < a.size → AllByRecursion (IsApart a) holes → (t : ℕ → Option Head) → AreSeen t None holes None → AreSeen (over (plan_heads a plan) t) None left None
  pub not_there : (p : ℕ) → hole_at p left ≡ None → AreNotAt p (plan_heads a plan)

place_first : (hs : List Area) → place_at (first_of None hs) ≡ first_or hs None
place_first [] = refl
place_first (h ∷ hs) = refl

alone_plans : (s : ℕ → Option Head) (a : Area) (holes : List Area) → None ≡ hole_behind s a.at a.size → SeesList s holes → Plans s a holes (a ∷ holes) (with_first a holes)
alone_plans s a holes none l = record {
  plan = record { joined = None; first = first_of None holes };
  found = plan_none s (first_or holes None) a.at a.size None none refl ∙ ap (with_joined None) (seen_first s None holes l.linked);
  bytes_are = λ x. put_is a holes x;
  rest = holes;
  shape = refl;
  next = place_first holes;
  counts = omega arith;
  seen_then = λ some far t seen. first_seen t a holes (else_of a holes some l.sizes far) (distinct_of holes l.sizes l.apart) seen;
  not_there = λ p e. first_not p a holes (not_at p (a ∷ holes) e);
}

seen_behind : (s : ℕ → Option Head) (a h : Area) (next prev : Option ℕ) → h.at ≡ a.at + a.size → s h.at ≡ Some (the_head h next prev) → hole_behind s a.at a.size ≡ (if nat_le (a.size + h.size) most_size then Some (the_head h next prev) else None)
unfolding hole_behind
seen_behind s a h next prev at here = ap (λ p. if_short a.size (s p)) (sym at) ∙ ap (if_short a.size) here

pub split_behind : (d : List ℕ) (a h : Area) (next prev : Option ℕ) → h.at ≡ a.at + a.size → block_of d h.at ≡ Some (hole_block h next prev) → hole_behind (hole_in d) a.at a.size ≡ (if nat_le (a.size + h.size) most_size then Some (the_head h next prev) else None)
split_behind d a h next prev at here = seen_behind (hole_in d) a h next prev at (hole_on d h next prev here)

apart_without : (xs : List Area) (h : Area) (ys : List Area) → AreApart (xs ++ h ∷ ys) → AreApart (xs ++ ys)
apart_without [] h ys a = a.1
apart_without (x ∷ xs) h ys a = let far = all_split (IsApart x) xs (h ∷ ys) a.0 in (all_join (IsApart x) xs ys far.0 far.1.1, apart_without xs h ys a.1)

split_plans : (s : ℕ → Option Head) (a h : Area) (xs ys : List Area) → h.at ≡ a.at + a.size → SeesList s (xs ++ h ∷ ys) → (b : Bool) → nat_le (a.size + h.size) most_size ≡ b → Plans s a (xs ++ h ∷ ys) (if b then both a h ∷ xs ++ ys else a ∷ xs ++ h ∷ ys) (λ x. if b then with_first (both a h) (xs ++ ys) (without_block xs ys x) else with_first a (xs ++ h ∷ ys) x)
split_plans s a h xs ys at l true t =
    let parts = seen_split s None None xs (h ∷ ys) l.linked in
    let behind = seen_behind s a h (first_or ys None) (last_or xs None) at parts.1.0 ∙ ap (λ (b : Bool). if b then Some (the_head h (first_or ys None) (last_or xs None)) else None) t in
    let sizes = all_split IsHole xs (h ∷ ys) l.sizes in
    let aparts = apart_split xs (h ∷ ys) l.apart in
    let head = first_or (xs ++ h ∷ ys) None in
    record {
      plan = record { joined = Some (the_link xs h ys); first = first_of None (xs ++ ys) };
      found = plan_some s head a.at a.size (Some (the_head h (first_or ys None) (last_or xs None))) (the_head h (first_or ys None) (last_or xs None)) (sym behind) refl
          ∙ ap (plan_linked s head) (link_seen s xs h ys l.linked)
          ∙ ap (with_joined (Some (the_link xs h ys))) (first_is s xs h ys sizes.0 aparts.0 l.linked);
      bytes_are = λ x. put_is (both a h) (xs ++ ys) (taken_off_bytes (the_link xs h ys) x) ∙ ap (with_first (both a h) (xs ++ ys)) (off_is x xs h ys);
      rest = xs ++ ys;
      shape = refl;
      next = place_first (xs ++ ys);
      counts = omega (arith, length-append xs ys, length-append xs (h ∷ ys));
      seen_then = λ some far t seen.
          let off = off_seen t xs h ys (distinct_of (xs ++ h ∷ ys) l.sizes l.apart) seen in
          let fars = all_split (IsApart a) xs (h ∷ ys) far in
          let left = all_join IsHole xs ys sizes.0 sizes.1.1 in
          let away = else_of a (xs ++ ys) some left (all_join (IsApart a) xs ys fars.0 fars.1.1) in
          let heads = joined_heads (Some (the_link xs h ys)) in
          subst (λ (u : ℕ → Option Head). AreSeen u None (both a h ∷ xs ++ ys) None) (sym (over-append heads (first_head (both a h) (place_at (first_of None (xs ++ ys))) ∷ first_heads a.at (first_of None (xs ++ ys))) t))
          (first_seen (over heads t) (both a h) (xs ++ ys) away (distinct_of (xs ++ ys) left (apart_without xs h ys l.apart)) off);
      not_there = λ p e.
          let away = not_at p (both a h ∷ xs ++ ys) e in
          not_both p (joined_heads (Some (the_link xs h ys))) (first_head (both a h) (place_at (first_of None (xs ++ ys))) ∷ first_heads a.at (first_of None (xs ++ ys))) (off_not p xs h ys away.1) (first_not p (both a h) (xs ++ ys) away);
    }
split_plans s a h xs ys at l false t =
    let parts = seen_split s None None xs (h ∷ ys) l.linked in
    let behind = seen_behind s a h (first_or ys None) (last_or xs None) at parts.1.0 ∙ ap (λ (b : Bool). if b then Some (the_head h (first_or ys None) (last_or xs None)) else None) t in
    alone_plans s a (xs ++ h ∷ ys) (sym behind) l

met_plans : (s : ℕ → Option Head) (a h : Area) (holes : List Area) → hole_at (a.at + a.size) holes ≡ Some h → SeesList s holes → Plans s a holes (joined a holes (Some h)) (λ x. joined_bytes a holes x (Some h))
met_plans s a h holes e l = by_test (nat_le (a.size + h.size) most_size) refl
  where
    t : SplitsAt (a.at + a.size) holes h
    t = found_splits (a.at + a.size) holes h e

    by_test : (b : Bool) → nat_le (a.size + h.size) most_size ≡ b → Plans s a holes (if b then both a h ∷ without h.at holes else a ∷ holes) (λ x. if b then with_first (both a h) (without h.at holes) (without_at h.at holes x) else with_first a holes x)
    by_test b u =
        let q = a.at + a.size in
        let xs = before q holes in
        let ys = behind q holes in
        let t_all = t.all in
        let p = split_plans s a h xs ys t.at (subst (λ (hs : List Area). SeesList s hs) t.all l) b u in
        record {
          plan = p.plan;
          found = ap (λ (hs : List Area). plan_in s (first_or hs None) a.at a.size) t.all ∙ p.found;
          bytes_are = λ x. p.bytes_are x ∙ same b x;
          rest = p.rest;
          shape = sym (same_list b) ∙ p.shape;
          next = p.next;
          counts = omega (arith, ap (λ (hs : List Area). length hs) (same_list b), p.counts, ap (λ (hs : List Area). length hs) t_all);
          seen_then = λ some far t seen. subst (λ (hs : List Area). AreSeen (over (plan_heads a p.plan) t) None hs None) (same_list b) (p.seen_then some (subst (λ (hs : List Area). AllByRecursion (IsApart a) hs) t_all far) t (subst (λ (hs : List Area). AreSeen t None hs None) t_all seen));
          not_there = λ q e. p.not_there q (ap (hole_at q) (same_list b) ∙ e);
        }
      where
        same_list : (b : Bool) → (if b then both a h ∷ before (a.at + a.size) holes ++ behind (a.at + a.size) holes else a ∷ before (a.at + a.size) holes ++ h ∷ behind (a.at + a.size) holes) ≡ (if b then both a h ∷ without h.at holes else a ∷ holes)
        same_list true = ap (λ (hs : List Area). both a h ∷ hs) (sym (ap (λ (q : ℕ). without q holes) t.at ∙ t.rest))
        same_list false = ap (λ (hs : List Area). a ∷ hs) (sym t.all)

        same : (b : Bool) (x : List ℕ) → (if b then with_first (both a h) (before (a.at + a.size) holes ++ behind (a.at + a.size) holes) (without_block (before (a.at + a.size) holes) (behind (a.at + a.size) holes) x) else with_first a (before (a.at + a.size) holes ++ h ∷ behind (a.at + a.size) holes) x) ≡ (if b then with_first (both a h) (without h.at holes) (without_at h.at holes x) else with_first a holes x)
        same true x =
            ap (λ (hs : List Area). with_first (both a h) hs (without_block (before (a.at + a.size) holes) (behind (a.at + a.size) holes) x)) (sym (ap (λ (q : ℕ). without q holes) t.at ∙ t.rest))
            ∙ ap (λ (q : ℕ). with_first (both a h) (without h.at holes) (without_at q holes x)) (sym t.at)
        same false x = ap (λ (hs : List Area). with_first a hs x) (sym t.all)

pub seen-plans : (s : ℕ → Option Head) (a : Area) (holes : List Area) → SeesList s holes → (hole_at (a.at + a.size) holes ≡ None → s (a.at + a.size) ≡ None) → Plans s a holes (release_one a holes) (release_one_bytes a holes)
unfolding release_one_bytes release_one
seen-plans s a holes l none = by_found (hole_at (a.at + a.size) holes) refl
  where
    by_found : (o : Option Area) → hole_at (a.at + a.size) holes ≡ o → Plans s a holes (joined a holes o) (λ x. joined_bytes a holes x o)
    by_found None e = alone_plans s a holes (Rattle.myi_dellist.proofs.NeedLemmas.behind_none s a.at a.size (s (a.at + a.size)) refl (none e)) l
    by_found (Some h) e = met_plans s a h holes e l

pub release-plans : (d : List ℕ) (a : Area) (holes : List Area) → HasList d holes → (hole_at (a.at + a.size) holes ≡ None → hole_in d (a.at + a.size) ≡ None) → Plans (hole_in d) a holes (release_one a holes) (release_one_bytes a holes)
release-plans d a holes l none = seen-plans (hole_in d) a holes (list_seen d holes l) none
