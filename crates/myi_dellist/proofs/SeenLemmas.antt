-- What is seen of a list, and what is seen of it once headers of its blocks are planned to be written.
use Rattle.std.proofs.Common.{◌≡◌, ℕ, ◌<◌, inl, inr, Bool, true, false, List, [], ◌∷◌, ◌++◌, Option, Some, None, refl, sym, ap, subst, ◌∙◌, arith}
use Rattle.std.specs.Prelude.{◌==◌, if◌then◌else◌}
use Rattle.std.specs.Option.{option_map}
use Rattle.std.specs.List.{AllByRecursion}
use Rattle.std.proofs.lemmas.Bool.{eq-eqb, eqb-true}
use Rattle.myi_frames.specs.declared.form.FrameKind.TheVariants.{Deleted}
use Rattle.myi_frames.specs.declared.head.Head.{Head}
use Rattle.myi_frames.specs.Block.{block_of, head_of}
use Rattle.myi_dellist.specs.declared.linked.Linked.{Linked}
use Rattle.myi_dellist.specs.Areas.{Area, IsApart, AreApart}
use Rattle.myi_dellist.specs.Releasing.{hole_at, IsHole}
use Rattle.myi_dellist.specs.Standing.{hole_block, first_or, last_or, IsPart, HasList}
use Rattle.myi_dellist.specs.Freeing.{if_deleted, hole_in, place_at, first_head}
use Rattle.myi_dellist.specs.Heads.{put_over, over}
use Rattle.myi_dellist.specs.Several.{before_heads, behind_heads, joined_heads, first_heads}
use Rattle.myi_dellist.proofs.LinkLemmas.{all_split}

-- the header of a block on the list
abbrev pub the_head : Area → Option ℕ → Option ℕ → Head
the_head a next prev = record { kind = Deleted; at = a.at; size = a.size; rec_len = 0; next = next; prev = prev }

pub hole_on : (d : List ℕ) (a : Area) (next prev : Option ℕ) → block_of d a.at ≡ Some (hole_block a next prev) → hole_in d a.at ≡ Some (the_head a next prev)
unfolding hole_in
hole_on d a next prev e = ap (λ o. if_deleted (option_map head_of o)) e

-- ---- what is seen

-- a part of the list is seen so, from one block to the next
abbrev pub AreSeen : (ℕ → Option Head) → Option ℕ → List Area → Option ℕ → Type 0
AreSeen seen prev [] next = Unit {0}
AreSeen seen prev (a ∷ areas) next = (seen a.at ≡ Some (the_head a (first_or areas next) prev)) × AreSeen seen (Some a.at) areas next

pub part_seen : (d : List ℕ) (prev : Option ℕ) (areas : List Area) (next : Option ℕ) → IsPart d prev areas next → AreSeen (hole_in d) prev areas next
part_seen d prev [] next h = tt
part_seen d prev (a ∷ areas) next h = (hole_on d a (first_or areas next) prev h.0, part_seen d (Some a.at) areas next h.1)

pub seen_split : (seen : ℕ → Option Head) (prev next : Option ℕ) (xs ys : List Area) → AreSeen seen prev (xs ++ ys) next → AreSeen seen prev xs (first_or ys next) × AreSeen seen (last_or xs prev) ys next
seen_split seen prev next [] ys h = (tt, h)
seen_split seen prev next (x ∷ []) ys h = ((h.0, tt), h.1)
seen_split seen prev next (x ∷ y ∷ xs) ys h = let more = seen_split seen (Some x.at) next (y ∷ xs) ys h.1 in ((h.0, more.0), more.1)

pub seen_join : (seen : ℕ → Option Head) (prev next : Option ℕ) (xs ys : List Area) → AreSeen seen prev xs (first_or ys next) → AreSeen seen (last_or xs prev) ys next → AreSeen seen prev (xs ++ ys) next
seen_join seen prev next [] ys h k = k
seen_join seen prev next (x ∷ []) ys h k = (h.0, k)
seen_join seen prev next (x ∷ y ∷ xs) ys h k = (h.0, seen_join seen (Some x.at) next (y ∷ xs) ys h.1 k)

-- the list is seen whole
pub record SeesList (seen : ℕ → Option Head) (holes : List Area) : Type 0 where
  pub linked : AreSeen seen None holes None
  pub sizes : AllByRecursion IsHole holes
  pub apart : AreApart holes

pub list_seen : (d : List ℕ) (holes : List Area) → HasList d holes → SeesList (hole_in d) holes
list_seen d holes l = record { linked = part_seen d None holes None l.linked; sizes = l.sizes; apart = l.apart }

-- ---- the blocks beside one of them

abbrev pub first_of : Option ℕ → List Area → Option Head
first_of prev [] = None
first_of prev (g ∷ rest) = Some (the_head g (first_or rest None) prev)

abbrev pub last_head : Option ℕ → Area → List Area → Option ℕ → Head
last_head prev x [] next = the_head x next prev
last_head prev x (y ∷ xs) next = last_head (Some x.at) y xs next

-- the block before it
abbrev pub last_of : List Area → Option ℕ → Option Head
last_of [] next = None
last_of (x ∷ xs) next = Some (last_head None x xs next)

abbrev pub the_link : List Area → Area → List Area → Linked
the_link xs h ys = record { before = last_of xs (Some h.at); hole = the_head h (first_or ys None) (last_or xs None); behind = first_of (Some h.at) ys }

-- ---- places that differ

-- none of these begins at this place
abbrev pub AreElse : ℕ → List Area → Type 0
AreElse p xs = AllByRecursion (λ (x : Area). ((x.at == p) ≡ false) × ((p == x.at) ≡ false)) xs

abbrev pub AreDistinct : List Area → Type 0
AreDistinct [] = Unit {0}
AreDistinct (x ∷ xs) = AreElse x.at xs × AreDistinct xs

other_place : (p q : ℕ) → (p ≡ q → ⊥) → (p == q) ≡ false
other_place p q differ = by_test (p == q) refl
  where
    by_test : (b : Bool) → (p == q) ≡ b → b ≡ false
    by_test true t = absurd (differ (eqb-true _ _ t))
    by_test false t = refl

pub else_of : (a : Area) (xs : List Area) → 0 < a.size → AllByRecursion IsHole xs → AllByRecursion (IsApart a) xs → AreElse a.at xs
else_of a [] some sizes far = tt
else_of a (x ∷ xs) some sizes far =
    ((other_place x.at a.at (by_side far.0), other_place a.at x.at (λ e. by_side far.0 (sym e))), else_of a xs some sizes.1 far.1)
  where
    by_side : IsApart a x → x.at ≡ a.at → ⊥
    by_side (inl le) e = omega arith
    by_side (inr le) e = omega (arith, sizes.0.least)

pub distinct_of : (xs : List Area) → AllByRecursion IsHole xs → AreApart xs → AreDistinct xs
distinct_of [] sizes apart = tt
distinct_of (x ∷ xs) sizes apart = (else_of x xs (omega (arith, sizes.0.least)) sizes.1 apart.0, distinct_of xs sizes.1 apart.1)

-- each of the second has another place than each of the first
abbrev AreCrossElse : List Area → List Area → Type 0
AreCrossElse xs ys = AllByRecursion (λ (x : Area). AreElse x.at ys) xs

distinct_split : (xs ys : List Area) → AreDistinct (xs ++ ys) → AreDistinct xs × AreDistinct ys × AreCrossElse xs ys
distinct_split [] ys h = (tt, h, tt)
distinct_split (x ∷ xs) ys h =
    let far = all_split (λ (y : Area). ((y.at == x.at) ≡ false) × ((x.at == y.at) ≡ false)) xs ys h.0 in
    let more = distinct_split xs ys h.1 in
    ((far.0, more.0), more.1, (far.1, more.2))

cross_rest : (xs : List Area) (y : Area) (ys : List Area) → AreCrossElse xs (y ∷ ys) → AreElse y.at xs × AreCrossElse xs ys
cross_rest [] y ys h = (tt, tt)
cross_rest (x ∷ xs) y ys h = let more = cross_rest xs y ys h.1 in (((h.0.0.1, h.0.0.0), more.0), (h.0.1, more.1))

last_test : (p : ℕ) (prev : Option ℕ) (x : Area) (xs : List Area) (next : Option ℕ) → AreElse p (x ∷ xs) → ((last_head prev x xs next).at == p) ≡ false
last_test p prev x [] next h = h.0.0
last_test p prev x (y ∷ xs) next h = last_test p (Some x.at) y xs next h.1

last_cross : (prev : Option ℕ) (x : Area) (xs : List Area) (next : Option ℕ) (ys : List Area) → AreCrossElse (x ∷ xs) ys → AreElse (last_head prev x xs next).at ys
last_cross prev x [] next ys h = h.0
last_cross prev x (y ∷ xs) next ys h = last_cross (Some x.at) y xs next ys h.1

last_with : (prev : Option ℕ) (x : Area) (xs : List Area) (next other : Option ℕ) → record (last_head prev x xs next) { next = other } ≡ last_head prev x xs other
last_with prev x [] next other = refl
last_with prev x (y ∷ xs) next other = last_with (Some x.at) y xs next other

-- ---- one header

put_here : (h : Head) (t : ℕ → Option Head) → put_over h t h.at ≡ Some h
put_here h t = ap (λ (b : Bool). if b then Some h else t h.at) (eq-eqb h.at h.at refl)

put_away : (h : Head) (t : ℕ → Option Head) (p : ℕ) → (h.at == p) ≡ false → put_over h t p ≡ t p
put_away h t p e = ap (λ (b : Bool). if b then Some h else t p) e

put_far : (h : Head) (t : ℕ → Option Head) (prev : Option ℕ) (xs : List Area) (next : Option ℕ) → AreElse h.at xs → AreSeen t prev xs next → AreSeen (put_over h t) prev xs next
put_far h t prev [] next far s = tt
put_far h t prev (x ∷ xs) next far s = (put_away h t x.at far.0.1 ∙ s.0, put_far h t (Some x.at) xs next far.1 s.1)

next_seen : (t : ℕ → Option Head) (prev : Option ℕ) (x : Area) (xs : List Area) (old next : Option ℕ) → AreDistinct (x ∷ xs) → AreSeen t prev (x ∷ xs) old → AreSeen (put_over (last_head prev x xs next) t) prev (x ∷ xs) next
next_seen t prev x [] old next d s = (put_here (the_head x next prev) t, tt)
next_seen t prev x (y ∷ xs) old next d s =
    (put_away (last_head (Some x.at) y xs next) t x.at (last_test x.at (Some x.at) y xs next d.0) ∙ s.0, next_seen t (Some x.at) y xs old next d.1 s.1)

prev_seen : (t : ℕ → Option Head) (old prev : Option ℕ) (y : Area) (ys : List Area) (next : Option ℕ) → AreElse y.at ys → AreSeen t old (y ∷ ys) next → AreSeen (put_over (the_head y (first_or ys next) prev) t) prev (y ∷ ys) next
prev_seen t old prev y ys next far s =
    let h = the_head y (first_or ys next) prev in
    (put_here h t, put_far h t (Some y.at) ys next far s.1)

-- ---- one header after the other

pub over-append : (xs ys : List Head) (t : ℕ → Option Head) → over (xs ++ ys) t ≡ over ys (over xs t)
over-append [] ys t = refl
over-append (x ∷ xs) ys t = over-append xs ys (put_over x t)

abbrev pub AreNotAt : ℕ → List Head → Type 0
AreNotAt p heads = AllByRecursion (λ (h : Head). (h.at == p) ≡ false) heads

pub over-skips : (heads : List Head) (t : ℕ → Option Head) (p : ℕ) → AreNotAt p heads → over heads t p ≡ t p
over-skips [] t p far = refl
over-skips (h ∷ heads) t p far = over-skips heads (put_over h t) p far.1 ∙ put_away h t p far.0

pub not_both : (p : ℕ) (xs ys : List Head) → AreNotAt p xs → AreNotAt p ys → AreNotAt p (xs ++ ys)
not_both p [] ys h k = k
not_both p (x ∷ xs) ys h k = (h.0, not_both p xs ys h.1 k)

-- ---- a block is taken off

-- both parts of a list, beside a block between them
record BothSeen (t : ℕ → Option Head) (xs ys : List Area) (next prev : Option ℕ) : Type 0 where
  front : AreSeen t None xs next
  back : AreSeen t prev ys None

before_seen : (t : ℕ → Option Head) (xs : List Area) (h : Area) (ys : List Area) → AreDistinct xs → AreCrossElse xs ys → AreSeen t None xs (Some h.at) → AreSeen t (Some h.at) ys None → BothSeen (over (before_heads (the_head h (first_or ys None) (last_or xs None)) (last_of xs (Some h.at))) t) xs ys (first_or ys None) (Some h.at)
before_seen t [] h ys d c front back = record { front = tt; back = back }
before_seen t (x ∷ xs) h ys d c front back =
    let next = first_or ys None in
    subst (λ (g : Head). BothSeen (put_over g t) (x ∷ xs) ys next (Some h.at)) (sym (last_with None x xs (Some h.at) next)) (record {
      front = next_seen t None x xs (Some h.at) next d front;
      back = put_far (last_head None x xs next) t (Some h.at) ys None (last_cross None x xs next ys c) back;
    })

behind_seen : (t : ℕ → Option Head) (xs : List Area) (h : Area) (ys : List Area) → AreDistinct ys → AreCrossElse xs ys → BothSeen t xs ys (first_or ys None) (Some h.at) → BothSeen (over (behind_heads (the_head h (first_or ys None) (last_or xs None)) (first_of (Some h.at) ys)) t) xs ys (first_or ys None) (last_or xs None)
behind_seen t xs h [] d c b = record { front = b.front; back = tt }
behind_seen t xs h (y ∷ ys) d c b =
    let g = the_head y (first_or ys None) (last_or xs None) in
    record {
      front = put_far g t None xs (Some y.at) (cross_rest xs y ys c).0 b.front;
      back = prev_seen t (Some h.at) (last_or xs None) y ys None d.0 b.back;
    }

pub off_seen : (t : ℕ → Option Head) (xs : List Area) (h : Area) (ys : List Area) → AreDistinct (xs ++ h ∷ ys) → AreSeen t None (xs ++ h ∷ ys) None → AreSeen (over (joined_heads (Some (the_link xs h ys))) t) None (xs ++ ys) None
off_seen t xs h ys d s =
    let hole = the_head h (first_or ys None) (last_or xs None) in
    let ds = distinct_split xs (h ∷ ys) d in
    let c = (cross_rest xs h ys ds.2).1 in
    let parts = seen_split t None None xs (h ∷ ys) s in
    let one = before_heads hole (last_of xs (Some h.at)) in
    let two = behind_heads hole (first_of (Some h.at) ys) in
    let b = behind_seen (over one t) xs h ys ds.1.1 c (before_seen t xs h ys ds.0 c parts.0 parts.1.1) in
    subst (λ (u : ℕ → Option Head). AreSeen u None (xs ++ ys) None) (sym (over-append one two t)) (seen_join (over two (over one t)) None None xs ys b.front b.back)

-- ---- an area becomes the head

pub first_seen : (t : ℕ → Option Head) (a : Area) (hs : List Area) → AreElse a.at hs → AreDistinct hs → AreSeen t None hs None → AreSeen (over (first_head a (place_at (first_of None hs)) ∷ first_heads a.at (first_of None hs)) t) None (a ∷ hs) None
first_seen t a [] far d s = (put_here (first_head a None) t, tt)
first_seen t a (g ∷ rest) far d s =
    let b = first_head a (Some g.at) in
    let f = the_head g (first_or rest None) (Some a.at) in (
      put_away f (put_over b t) a.at far.0.0 ∙ put_here b t,
      prev_seen (put_over b t) None (Some a.at) g rest None d.0 (put_far b t None (g ∷ rest) None far s),
    )

-- ---- places where nothing is put

pub not_at : (p : ℕ) (xs : List Area) → hole_at p xs ≡ None → AllByRecursion (λ (x : Area). (x.at == p) ≡ false) xs
not_at p [] e = tt
not_at p (x ∷ xs) e = by_test (x.at == p) refl e (not_at p xs)
  where
    by_test : (b : Bool) → (x.at == p) ≡ b → (if b then Some x else hole_at p xs) ≡ None → (hole_at p xs ≡ None → AllByRecursion (λ (x : Area). (x.at == p) ≡ false) xs) → ((x.at == p) ≡ false) × AllByRecursion (λ (x : Area). (x.at == p) ≡ false) xs
    by_test true t e ih = absurd cc
    by_test false t e ih = (t, ih e)

last_not : (p : ℕ) (prev : Option ℕ) (x : Area) (xs : List Area) (next : Option ℕ) → AllByRecursion (λ (y : Area). (y.at == p) ≡ false) (x ∷ xs) → ((last_head prev x xs next).at == p) ≡ false
last_not p prev x [] next h = h.0
last_not p prev x (y ∷ xs) next h = last_not p (Some x.at) y xs next h.1

before_not : (p : ℕ) (hole : Head) (xs : List Area) (next : Option ℕ) → AllByRecursion (λ (y : Area). (y.at == p) ≡ false) xs → AreNotAt p (before_heads hole (last_of xs next))
before_not p hole [] next h = tt
before_not p hole (x ∷ xs) next h = (last_not p None x xs next h, tt)

behind_not : (p : ℕ) (hole : Head) (prev : Option ℕ) (ys : List Area) → AllByRecursion (λ (y : Area). (y.at == p) ≡ false) ys → AreNotAt p (behind_heads hole (first_of prev ys))
behind_not p hole prev [] h = tt
behind_not p hole prev (y ∷ ys) h = (h.0, tt)

pub off_not : (p : ℕ) (xs : List Area) (h : Area) (ys : List Area) → AllByRecursion (λ (y : Area). (y.at == p) ≡ false) (xs ++ ys) → AreNotAt p (joined_heads (Some (the_link xs h ys)))
off_not p xs h ys far =
    let hole = the_head h (first_or ys None) (last_or xs None) in
    let parts = all_split (λ (y : Area). (y.at == p) ≡ false) xs ys far in
    not_both p (before_heads hole (last_of xs (Some h.at))) (behind_heads hole (first_of (Some h.at) ys)) (before_not p hole xs (Some h.at) parts.0) (behind_not p hole (Some h.at) ys parts.1)

pub first_not : (p : ℕ) (a : Area) (hs : List Area) → AllByRecursion (λ (y : Area). (y.at == p) ≡ false) (a ∷ hs) → AreNotAt p (first_head a (place_at (first_of None hs)) ∷ first_heads a.at (first_of None hs))
first_not p a [] far = (far.0, tt)
first_not p a (g ∷ rest) far = (far.0, (far.1.0, tt))
