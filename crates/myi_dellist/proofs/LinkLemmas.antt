-- Blocks that are taken off the list, wherever they stand in it, and that go to its head.
use Rattle.std.proofs.Common.{◌≡◌, ℕ, ◌+◌, ◌^◌, ◌<◌, ◌≤◌, ◌⊎◌, inl, inr, Bool, true, false, List, [], ◌∷◌, ◌++◌, length, take, drop, Option, Some, None, refl, sym, subst, ◌∙◌, arith}
use Rattle.std.specs.Prelude.{◌||◌, nat_le}
use Rattle.std.specs.List.{AllByRecursion}
use Rattle.std.proofs.lemmas.Bool.{le-leb}
use Rattle.myi_base.specs.Ranges.{are_apart}
use Rattle.myi_frames.specs.Block.{Block, block_of, IsPointer}
use Rattle.myi_frames.specs.Writing.{deleted_head}
use Rattle.myi_frames.proofs.CallerLemmas.{block-elsewhere, deleted-overwritten, length-deleted_head, length-overwritten, part-overwritten}
use Rattle.myi_dellist.specs.Areas.{Area, IsApart, AreApart, AreInside}
use Rattle.myi_dellist.specs.Releasing.{IsHole}
use Rattle.myi_dellist.specs.Standing.{hole_block, first_or, last_or, IsPart, HasList, with_head, with_next, with_prev, without_block, with_first, KeepsBut}

-- a block that may be on the list of a file of this length
pub record IsOn (len : ℕ) (a : Area) : Type 0 where
  pub hole : IsHole a
  pub inside : a.at + a.size ≤ len
  pub short : len < 2 ^ 64

abbrev pub AreOn : ℕ → List Area → Type 0
AreOn len areas = AllByRecursion (IsOn len) areas

-- ---- one write

length_head : (len : ℕ) (a : Area) (next prev : Option ℕ) → IsOn len a → IsPointer next → IsPointer prev → length (deleted_head a.size next prev) ≡ 20
length_head len a next prev o n p = length-deleted_head a.size next prev o.hole.least (omega (arith, o.hole.most)) n p

pub head_length : (d : List ℕ) (a : Area) (next prev : Option ℕ) → IsOn (length d) a → IsPointer next → IsPointer prev → length (with_head a next prev d) ≡ length d
head_length d a next prev o n p =
    omega (arith, length-overwritten a.at (deleted_head a.size next prev) d, length_head (length d) a next prev o n p, o.inside, o.hole.least)

pub head_stands : (d : List ℕ) (a : Area) (next prev : Option ℕ) → IsOn (length d) a → IsPointer next → IsPointer prev → block_of (with_head a next prev d) a.at ≡ Some (hole_block a next prev)
head_stands d a next prev o n p =
    deleted-overwritten a.size a.at next prev d (omega (arith, o.hole.most)) n p (record { aligned = o.hole.aligned; multiple = o.hole.multiple; least = o.hole.least; inside = o.inside })

pub apart_test : (p q a b : ℕ) → (q ≤ a) ⊎ (b ≤ p) → are_apart (p, q) (a, b) ≡ true
apart_test p q a b (inl le) = rw (le-leb q a le) refl
apart_test p q a b (inr le) = rw (le-leb b p le) (or_true (nat_le q a))
  where
    or_true : (x : Bool) → (x || true) ≡ true
    or_true true = refl
    or_true false = refl

pub head_far : (d : List ℕ) (a : Area) (next prev : Option ℕ) (p : ℕ) (b : Block) → IsOn (length d) a → IsPointer next → IsPointer prev → (p + b.size ≤ a.at) ⊎ (a.at + a.size ≤ p) → block_of d p ≡ Some b → block_of (with_head a next prev d) p ≡ Some b
head_far d a next prev p b o n pr far e =
    block-elsewhere d (deleted_head a.size next prev) a.at p b e (apart_test p (p + b.size) a.at (a.at + length (deleted_head a.size next prev)) (by_side far))
  where
    by_side : (p + b.size ≤ a.at) ⊎ (a.at + a.size ≤ p) → (p + b.size ≤ a.at) ⊎ (a.at + length (deleted_head a.size next prev) ≤ p)
    by_side (inl le) = inl le
    by_side (inr le) = inr (omega (arith, length_head (length d) a next prev o n pr, o.hole.least))

head_keeps : (d : List ℕ) (a : Area) (next prev : Option ℕ) (p n : ℕ) → IsOn (length d) a → IsPointer next → IsPointer prev → (p + n ≤ a.at) ⊎ (a.at + 20 ≤ p) → p + n ≤ length d → take n (drop p (with_head a next prev d)) ≡ take n (drop p d)
head_keeps d a next prev p n o pn pp far le = part-overwritten a.at (deleted_head a.size next prev) d p n (by_side far) le
  where
    by_side : (p + n ≤ a.at) ⊎ (a.at + 20 ≤ p) → (p + n ≤ a.at) ⊎ (a.at + length (deleted_head a.size next prev) ≤ p)
    by_side (inl le) = inl le
    by_side (inr le) = inr (omega (arith, length_head (length d) a next prev o pn pp))

-- ---- parts of the list

pub part_split : (d : List ℕ) (prev next : Option ℕ) (xs ys : List Area) → IsPart d prev (xs ++ ys) next → IsPart d prev xs (first_or ys next) × IsPart d (last_or xs prev) ys next
part_split d prev next [] ys h = (tt, h)
part_split d prev next (x ∷ []) ys h = ((h.0, tt), h.1)
part_split d prev next (x ∷ y ∷ xs) ys h = let more = part_split d (Some x.at) next (y ∷ xs) ys h.1 in ((h.0, more.0), more.1)

pub part_join : (d : List ℕ) (prev next : Option ℕ) (xs ys : List Area) → IsPart d prev xs (first_or ys next) → IsPart d (last_or xs prev) ys next → IsPart d prev (xs ++ ys) next
part_join d prev next [] ys h k = k
part_join d prev next (x ∷ []) ys h k = (h.0, k)
part_join d prev next (x ∷ y ∷ xs) ys h k = (h.0, part_join d (Some x.at) next (y ∷ xs) ys h.1 k)

-- the bytes from p up to q belong to none of these
abbrev pub AreAway : ℕ → ℕ → List Area → Type 0
AreAway p q xs = AllByRecursion (λ (a : Area). (q ≤ a.at) ⊎ (a.at + a.size ≤ p)) xs

away : (a : Area) (xs : List Area) → AllByRecursion (IsApart a) xs → AreAway a.at (a.at + a.size) xs
away a [] h = tt
away a (x ∷ xs) h = (h.0, away a xs h.1)

apart_away : (a : Area) (xs : List Area) → AreAway a.at (a.at + a.size) xs → AllByRecursion (IsApart a) xs
apart_away a [] h = tt
apart_away a (x ∷ xs) h = (h.0, apart_away a xs h.1)

on_pointer : (len : ℕ) (a : Area) → IsOn len a → IsPointer (Some a.at)
on_pointer len a o = omega (arith, o.inside, o.short, o.hole.least)

first_pointer : (len : ℕ) (ys : List Area) (next : Option ℕ) → IsPointer next → AreOn len ys → IsPointer (first_or ys next)
first_pointer len [] next p all = p
first_pointer len (y ∷ ys) next p all = on_pointer len y all.0

last_pointer : (len : ℕ) (xs : List Area) (prev : Option ℕ) → IsPointer prev → AreOn len xs → IsPointer (last_or xs prev)
last_pointer len [] prev p all = p
last_pointer len (x ∷ xs) prev p all = last_pointer len xs (Some x.at) (on_pointer len x all.0) all.1

-- ---- another next one

next_far : (d : List ℕ) (xs : List Area) (prev next : Option ℕ) (p : ℕ) (b : Block) → AreOn (length d) xs → IsPointer next → IsPointer prev → AreAway p (p + b.size) xs → block_of d p ≡ Some b → block_of (with_next xs prev next d) p ≡ Some b
next_far d [] prev next p b o pn pp far e = e
next_far d (a ∷ []) prev next p b o pn pp far e = head_far d a next prev p b o.0 pn pp far.0 e
next_far d (a ∷ c ∷ xs) prev next p b o pn pp far e = next_far d (c ∷ xs) (Some a.at) next p b o.1 pn (on_pointer (length d) a o.0) far.1 e

next_length : (d : List ℕ) (xs : List Area) (prev next : Option ℕ) → AreOn (length d) xs → IsPointer next → IsPointer prev → length (with_next xs prev next d) ≡ length d
next_length d [] prev next o pn pp = refl
next_length d (a ∷ []) prev next o pn pp = head_length d a next prev o.0 pn pp
next_length d (a ∷ c ∷ xs) prev next o pn pp = next_length d (c ∷ xs) (Some a.at) next o.1 pn (on_pointer (length d) a o.0)

next_part : (d : List ℕ) (prev old next : Option ℕ) (xs : List Area) → AreOn (length d) xs → AreApart xs → IsPointer next → IsPointer prev → IsPart d prev xs old → IsPart (with_next xs prev next d) prev xs next
next_part d prev old next [] o s pn pp h = tt
next_part d prev old next (a ∷ []) o s pn pp h = (head_stands d a next prev o.0 pn pp, tt)
next_part d prev old next (a ∷ b ∷ xs) o s pn pp h = (
  next_far d (b ∷ xs) (Some a.at) next a.at (hole_block a (Some b.at) prev) o.1 pn (on_pointer (length d) a o.0) (away a (b ∷ xs) s.0) h.0,
  next_part d (Some a.at) old next (b ∷ xs) o.1 s.1 pn (on_pointer (length d) a o.0) h.1,
)

next_keeps : (d : List ℕ) (xs : List Area) (prev next : Option ℕ) (p n : ℕ) → AreOn (length d) xs → IsPointer next → IsPointer prev → p + n ≤ length d → AllByRecursion (λ (a : Area). (p + n ≤ a.at) ⊎ (a.at + 20 ≤ p)) xs → take n (drop p (with_next xs prev next d)) ≡ take n (drop p d)
next_keeps d [] prev next p n o pn pp le far = refl
next_keeps d (a ∷ []) prev next p n o pn pp le far = head_keeps d a next prev p n o.0 pn pp far.0 le
next_keeps d (a ∷ c ∷ xs) prev next p n o pn pp le far = next_keeps d (c ∷ xs) (Some a.at) next p n o.1 pn (on_pointer (length d) a o.0) le far.1

-- ---- another one before it

head_part : (d : List ℕ) (a : Area) (x y prev next : Option ℕ) (ys : List Area) → IsOn (length d) a → IsPointer x → IsPointer y → AllByRecursion (IsApart a) ys → IsPart d prev ys next → IsPart (with_head a x y d) prev ys next
head_part d a x y prev next [] o px py far h = tt
head_part d a x y prev next (b ∷ ys) o px py far h =
    (head_far d a x y b.at (hole_block b (first_or ys next) prev) o px py (other far.0) h.0, head_part d a x y (Some b.at) next ys o px py far.1 h.1)
  where
    other : IsApart a b → (b.at + b.size ≤ a.at) ⊎ (a.at + a.size ≤ b.at)
    other (inl e) = inr e
    other (inr e) = inl e

pub prev_part : (d : List ℕ) (old prev next : Option ℕ) (ys : List Area) → AreOn (length d) ys → AreApart ys → IsPointer next → IsPointer prev → IsPart d old ys next → IsPart (with_prev ys prev next d) prev ys next
prev_part d old prev next [] o s pn pp h = tt
prev_part d old prev next (a ∷ ys) o s pn pp h =
    let f = first_pointer (length d) ys next pn o.1 in
    (head_stands d a (first_or ys next) prev o.0 f pp, head_part d a (first_or ys next) prev (Some a.at) next ys o.0 f pp s.0 h.1)

pub prev_length : (d : List ℕ) (ys : List Area) (prev next : Option ℕ) → AreOn (length d) ys → IsPointer next → IsPointer prev → length (with_prev ys prev next d) ≡ length d
prev_length d [] prev next o pn pp = refl
prev_length d (a ∷ ys) prev next o pn pp = head_length d a (first_or ys next) prev o.0 (first_pointer (length d) ys next pn o.1) pp

pub prev_keeps : (d : List ℕ) (ys : List Area) (prev next : Option ℕ) (p n : ℕ) → AreOn (length d) ys → IsPointer next → IsPointer prev → p + n ≤ length d → AllByRecursion (λ (a : Area). (p + n ≤ a.at) ⊎ (a.at + 20 ≤ p)) ys → take n (drop p (with_prev ys prev next d)) ≡ take n (drop p d)
prev_keeps d [] prev next p n o pn pp le far = refl
prev_keeps d (a ∷ ys) prev next p n o pn pp le far = head_keeps d a (first_or ys next) prev p n o.0 (first_pointer (length d) ys next pn o.1) pp far.0 le

-- ---- taken off

pub all_split : (P : Area → Type 0) (xs ys : List Area) → AllByRecursion P (xs ++ ys) → AllByRecursion P xs × AllByRecursion P ys
all_split P [] ys h = (tt, h)
all_split P (x ∷ xs) ys h = let more = all_split P xs ys h.1 in ((h.0, more.0), more.1)

pub all_join : (P : Area → Type 0) (xs ys : List Area) → AllByRecursion P xs → AllByRecursion P ys → AllByRecursion P (xs ++ ys)
all_join P [] ys h k = k
all_join P (x ∷ xs) ys h k = (h.0, all_join P xs ys h.1 k)

-- each of the second is apart from each of the first
abbrev pub AreCross : List Area → List Area → Type 0
AreCross [] ys = Unit {0}
AreCross (x ∷ xs) ys = AllByRecursion (IsApart x) ys × AreCross xs ys

pub apart_split : (xs ys : List Area) → AreApart (xs ++ ys) → AreApart xs × AreApart ys × AreCross xs ys
apart_split [] ys h = (tt, h, tt)
apart_split (x ∷ xs) ys h =
    let far = all_split (IsApart x) xs ys h.0 in
    let more = apart_split xs ys h.1 in
    ((far.0, more.0), more.1, (far.1, more.2))

apart_join : (xs ys : List Area) → AreApart xs → AreApart ys → AreCross xs ys → AreApart (xs ++ ys)
apart_join [] ys h k c = k
apart_join (x ∷ xs) ys h k c = (all_join (IsApart x) xs ys h.0 c.0, apart_join xs ys h.1 k c.1)

pub cross_head : (xs : List Area) (y : Area) (ys : List Area) → AreCross xs (y ∷ ys) → AreAway y.at (y.at + y.size) xs × AreCross xs ys
cross_head [] y ys h = (tt, tt)
cross_head (x ∷ xs) y ys h = let more = cross_head xs y ys h.1 in ((other h.0.0, more.0), (h.0.1, more.1))
  where
    other : IsApart x y → (y.at + y.size ≤ x.at) ⊎ (x.at + x.size ≤ y.at)
    other (inl e) = inr e
    other (inr e) = inl e

part_next : (d : List ℕ) (xs : List Area) (p n prev next : Option ℕ) (ys : List Area) → AreOn (length d) xs → IsPointer n → IsPointer p → AreCross xs ys → IsPart d prev ys next → IsPart (with_next xs p n d) prev ys next
part_next d xs p n prev next [] o pn pp c h = tt
part_next d xs p n prev next (b ∷ ys) o pn pp c h =
    let s = cross_head xs b ys c in
    (next_far d xs p n b.at (hole_block b (first_or ys next) prev) o pn pp s.0 h.0, part_next d xs p n (Some b.at) next ys o pn pp s.1 h.1)

part_prev : (d : List ℕ) (ys : List Area) (p n prev next : Option ℕ) (xs : List Area) → AreOn (length d) ys → IsPointer n → IsPointer p → AreCross xs ys → IsPart d prev xs next → IsPart (with_prev ys p n d) prev xs next
part_prev d [] p n prev next xs o pn pp c h = h
part_prev d (a ∷ ys) p n prev next xs o pn pp c h = head_part d a (first_or ys n) p prev next xs o.0 (first_pointer (length d) ys n pn o.1) pp (apart_away a xs (cross_head xs a ys c).0) h

pub taken-off : (d : List ℕ) (xs : List Area) (g : Area) (ys : List Area) → AreOn (length d) (xs ++ g ∷ ys) → AreApart (xs ++ g ∷ ys) → IsPart d None (xs ++ g ∷ ys) None → IsPart (without_block xs ys d) None (xs ++ ys) None
taken-off d xs g ys on apart h =
    let os = all_split (IsOn (length d)) xs (g ∷ ys) on in
    let ss = apart_split xs (g ∷ ys) apart in
    let parts = part_split d None None xs (g ∷ ys) h in
    let cross = (cross_head xs g ys ss.2).1 in
    let next = first_or ys None in
    let prev = last_or xs None in
    let fp = first_pointer (length d) ys None tt os.1.1 in
    let lp = last_pointer (length d) xs None tt os.0 in
    let e = with_next xs None next d in
    let len : length e ≡ length d = next_length d xs None next os.0 fp tt in
    let oe : AreOn (length e) ys = subst (λ (n : ℕ). AreOn n ys) (sym len) os.1.1 in
    let x1 : IsPart e None xs next = next_part d None (Some g.at) next xs os.0 ss.0 fp tt parts.0 in
    let y1 : IsPart e (Some g.at) ys None = part_next d xs None next (Some g.at) None ys os.0 fp tt cross parts.1.1 in
    let y2 = prev_part e (Some g.at) prev None ys oe ss.1.1 tt lp y1 in
    let x2 = part_prev e ys prev None None next xs oe tt lp cross x1 in
    part_join (with_prev ys prev None e) None None xs ys x2 y2

abbrev pub AreFar : ℕ → ℕ → List Area → Type 0
AreFar p q xs = AllByRecursion (λ (a : Area). (q ≤ a.at) ⊎ (a.at + 20 ≤ p)) xs

pub taken-off-long : (d : List ℕ) (xs ys : List Area) → AreOn (length d) xs → AreOn (length d) ys → length (without_block xs ys d) ≡ length d
taken-off-long d xs ys ox oy =
    let fp = first_pointer (length d) ys None tt oy in
    let lp = last_pointer (length d) xs None tt ox in
    let len = next_length d xs None (first_or ys None) ox fp tt in
    prev_length (with_next xs None (first_or ys None) d) ys (last_or xs None) None (subst (λ (n : ℕ). AreOn n ys) (sym len) oy) tt lp ∙ len

pub taken-off-keeps : (d : List ℕ) (xs ys : List Area) → AreOn (length d) xs → AreOn (length d) ys → KeepsBut (xs ++ ys) d (without_block xs ys d)
taken-off-keeps d xs ys ox oy =
    record { long = taken-off-long d xs ys ox oy; bytes = λ p n le far. by_parts p n le (all_split (λ (a : Area). (p + n ≤ a.at) ⊎ (a.at + 20 ≤ p)) xs ys far) }
  where
    by_parts : (p n : ℕ) → p + n ≤ length d → AreFar p (p + n) xs × AreFar p (p + n) ys → take n (drop p (without_block xs ys d)) ≡ take n (drop p d)
    by_parts p n le far =
        let fp = first_pointer (length d) ys None tt oy in
        let lp = last_pointer (length d) xs None tt ox in
        let len = next_length d xs None (first_or ys None) ox fp tt in
        prev_keeps (with_next xs None (first_or ys None) d) ys (last_or xs None) None p n (subst (λ (m : ℕ). AreOn m ys) (sym len) oy) tt lp (omega (arith, len)) far.1
        ∙ next_keeps d xs None (first_or ys None) p n ox fp tt le far.0

-- ---- the head

pub made-first : (d : List ℕ) (a : Area) (holes : List Area) → IsOn (length d) a → AreOn (length d) holes → AreApart (a ∷ holes) → IsPart d None holes None → IsPart (with_first a holes d) None (a ∷ holes) None
made-first d a [] o on apart h = (head_stands d a None None o tt tt, tt)
made-first d a (g ∷ rest) o on apart h =
    let gp = on_pointer (length d) g on.0 in
    let ap' = on_pointer (length d) a o in
    let e = with_head a (Some g.at) None d in
    let len = head_length d a (Some g.at) None o gp tt in
    let oe : AreOn (length e) (g ∷ rest) = subst (λ (n : ℕ). AreOn n (g ∷ rest)) (sym len) on in
    let here = head_stands d a (Some g.at) None o gp tt in
    let old = head_part d a (Some g.at) None None None (g ∷ rest) o gp tt apart.0 h in
    let more = prev_part e None (Some a.at) None (g ∷ rest) oe apart.1 tt ap' old in
    let fp = first_pointer (length e) rest None tt oe.1 in
    let far = head_far e g (first_or rest None) (Some a.at) a.at (hole_block a (Some g.at) None) oe.0 fp ap' (by_side apart.0.0) here in
    (far, more)
  where
    by_side : IsApart a g → (a.at + a.size ≤ g.at) ⊎ (g.at + g.size ≤ a.at)
    by_side s = s

pub first-long : (d : List ℕ) (a : Area) (holes : List Area) → IsOn (length d) a → AreOn (length d) holes → length (with_first a holes d) ≡ length d
first-long d a holes o on =
    let fp = first_pointer (length d) holes None tt on in
    let len = head_length d a (first_or holes None) None o fp tt in
    prev_length (with_head a (first_or holes None) None d) holes (Some a.at) None (subst (λ (n : ℕ). AreOn n holes) (sym len) on) tt (on_pointer (length d) a o) ∙ len

pub first-keeps : (d : List ℕ) (a : Area) (holes : List Area) → IsOn (length d) a → AreOn (length d) holes → KeepsBut (a ∷ holes) d (with_first a holes d)
first-keeps d a holes o on =
    let fp = first_pointer (length d) holes None tt on in
    let len = head_length d a (first_or holes None) None o fp tt in
    record {
      long = first-long d a holes o on;
      bytes = λ p n le far.
          prev_keeps (with_head a (first_or holes None) None d) holes (Some a.at) None p n (subst (λ (m : ℕ). AreOn m holes) (sym len) on) tt (on_pointer (length d) a o) (omega (arith, len)) far.1
          ∙ head_keeps d a (first_or holes None) None p n o fp tt far.0 le;
    }

-- ---- lists of files

pub list_on : (d : List ℕ) (holes : List Area) → HasList d holes → AreOn (length d) holes
list_on d holes l = by_list holes l.sizes l.inside
  where
    by_list : (areas : List Area) → AllByRecursion IsHole areas → AreInside (length d) areas → AreOn (length d) areas
    by_list [] s i = tt
    by_list (a ∷ areas) s i = (record { hole = s.0; inside = i.0; short = l.short }, by_list areas s.1 i.1)

pub on_list : (d : List ℕ) (holes : List Area) → length d < 2 ^ 64 → IsPart d None holes None → AreOn (length d) holes → AreApart holes → HasList d holes
on_list d holes short linked on apart = record { linked = linked; sizes = sizes holes on; inside = ends holes on; apart = apart; short = short }
  where
    sizes : (areas : List Area) → AreOn (length d) areas → AllByRecursion IsHole areas
    sizes [] o = tt
    sizes (a ∷ areas) o = (o.0.hole, sizes areas o.1)

    ends : (areas : List Area) → AreOn (length d) areas → AreInside (length d) areas
    ends [] o = tt
    ends (a ∷ areas) o = (o.0.inside, ends areas o.1)

cross_rest : (xs : List Area) (y : Area) (ys : List Area) → AreCross xs (y ∷ ys) → AreCross xs ys
cross_rest xs y ys c = (cross_head xs y ys c).1

pub list-without : (d : List ℕ) (xs : List Area) (g : Area) (ys : List Area) → HasList d (xs ++ g ∷ ys) → HasList (without_block xs ys d) (xs ++ ys)
list-without d xs g ys l =
    let on = list_on d (xs ++ g ∷ ys) l in
    let os = all_split (IsOn (length d)) xs (g ∷ ys) on in
    let ss = apart_split xs (g ∷ ys) l.apart in
    let len = taken-off-long d xs ys os.0 os.1.1 in
    on_list (without_block xs ys d) (xs ++ ys) (omega (arith, len, l.short)) (taken-off d xs g ys on l.apart l.linked)
    (subst (λ (n : ℕ). AreOn n (xs ++ ys)) (sym len) (all_join (IsOn (length d)) xs ys os.0 os.1.1))
    (apart_join xs ys ss.0 ss.1.1 (cross_rest xs g ys ss.2))

pub list-first : (d : List ℕ) (a : Area) (holes : List Area) → IsHole a → a.at + a.size ≤ length d → AllByRecursion (IsApart a) holes → HasList d holes → HasList (with_first a holes d) (a ∷ holes)
list-first d a holes h inside far l =
    let on = list_on d holes l in
    let o : IsOn (length d) a = record { hole = h; inside = inside; short = l.short } in
    let len = first-long d a holes o on in
    on_list (with_first a holes d) (a ∷ holes) (omega (arith, len, l.short)) (made-first d a holes o on (far, l.apart) l.linked)
    (subst (λ (n : ℕ). AreOn n (a ∷ holes)) (sym len) (o, on)) (far, l.apart)
