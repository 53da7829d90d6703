-- What stands in a file after an area was released.
use Rattle.std.proofs.Common.{◌≡◌, ℕ, ◌+◌, ◌<◌, ◌≤◌, ◌⊎◌, inl, inr, Bool, true, false, List, [], ◌∷◌, ◌++◌, length, Option, Some, None, refl, sym, ap, subst, ◌∙◌, arith}
use Rattle.std.specs.Prelude.{◌==◌, nat_le, if◌then◌else◌}
use Rattle.std.specs.List.{AllByRecursion}
use Rattle.std.proofs.lemmas.Bool.{leb-true, leb-false, eqb-true, eqb-false}
use Rattle.myi_dellist.specs.Areas.{Area, IsApart}
use Rattle.myi_dellist.specs.Releasing.{most_size, hole_at, without, joined, release_one, front_part, back_part, release, IsHole, IsFreeable}
use Rattle.myi_dellist.specs.Standing.{HasList, KeepsBut, LeavesList, with_first, without_block, before, behind, without_at, joined_bytes, release_one_bytes, release_bytes}
use Rattle.myi_frames.specs.Block.{Block, block_of}
use Rattle.myi_frames.proofs.CallerLemmas.{block-own, block-stands}
use Rattle.myi_dellist.proofs.ReleaseLemmas.{all-without}
use Rattle.myi_dellist.proofs.LinkLemmas.{IsOn, list-without, all_split, all_join, apart_split, cross_head, list_on, list-first, taken-off-keeps, first-keeps}

-- ---- a block on the list

pub record SplitsAt (p : ℕ) (holes : List Area) (h : Area) : Type 0 where
  pub at : h.at ≡ p
  pub all : holes ≡ before p holes ++ h ∷ behind p holes
  pub rest : without p holes ≡ before p holes ++ behind p holes

pub found_splits : (p : ℕ) (holes : List Area) (h : Area) → hole_at p holes ≡ Some h → SplitsAt p holes h
found_splits p [] h e = absurd cc
found_splits p (a ∷ holes) h e = by_test (a.at == p) refl e (found_splits p holes h)
  where
    by_test : (b : Bool) → (a.at == p) ≡ b → (if b then Some a else hole_at p holes) ≡ Some h → (hole_at p holes ≡ Some h → SplitsAt p holes h) → SplitsAt p (a ∷ holes) h
    by_test true t e ih =
        let same : a ≡ h = cc in
        record { at = ap (λ (x : Area). x.at) (sym same) ∙ eqb-true _ _ t; all = rw t (ap (λ (x : Area). x ∷ holes) same); rest = rw t refl }
    by_test false t e ih =
        let s = ih e in
        record { at = s.at; all = rw t (ap (λ (x : List Area). a ∷ x) s.all); rest = rw t (ap (λ (x : List Area). a ∷ x) s.rest) }

abbrev pub Released : List ℕ → List ℕ → List Area → Type 0
Released d e holes = LeavesList holes d e

keeps_then : (g : Area) (xs : List Area) (d e f : List ℕ) → KeepsBut xs d e → KeepsBut (g ∷ xs) e f → KeepsBut (g ∷ xs) d f
keeps_then g xs d e f k l =
    record { long = l.long ∙ k.long; bytes = λ p n le far. l.bytes p n (omega (arith, k.long)) far ∙ k.bytes p n le far.1 }

pub keeps_both : (xs : List Area) (d e f : List ℕ) → KeepsBut xs d e → KeepsBut xs e f → KeepsBut xs d f
keeps_both xs d e f k l =
    record { long = l.long ∙ k.long; bytes = λ p n le far. l.bytes p n (omega (arith, k.long)) far ∙ k.bytes p n le far }

-- the two areas as one
abbrev pub both : Area → Area → Area
both a h = record { at = a.at; size = a.size + h.size }

both_apart : (a h : Area) (areas : List Area) → h.at ≡ a.at + a.size → AllByRecursion IsHole areas → AllByRecursion (IsApart a) areas → AllByRecursion (IsApart h) areas → AllByRecursion (IsApart (both a h)) areas
both_apart a h [] at s fa fh = tt
both_apart a h (x ∷ areas) at s fa fh = (by_sides fa.0 fh.0, both_apart a h areas at s.1 fa.1 fh.1)
  where
    by_sides : IsApart a x → IsApart h x → IsApart (both a h) x
    by_sides (inr far) other = inr far
    by_sides (inl near) (inl far) = inl (omega (arith, at))
    by_sides (inl near) (inr close) = absurd (omega (arith, at, s.0.least))

turned : (h : Area) (xs : List Area) → AllByRecursion (λ (a : Area). (h.at + h.size ≤ a.at) ⊎ (a.at + a.size ≤ h.at)) xs → AllByRecursion (IsApart h) xs
turned h [] all = tt
turned h (x ∷ xs) all = (all.0, turned h xs all.1)

joined_stands : (d : List ℕ) (a h : Area) (xs ys : List Area) → IsHole a → h.at ≡ a.at + a.size → a.size + h.size ≤ most_size → AllByRecursion (IsApart a) (xs ++ h ∷ ys) → HasList d (xs ++ h ∷ ys) → Released d (with_first (both a h) (xs ++ ys) (without_block xs ys d)) (both a h ∷ xs ++ ys)
joined_stands d a h xs ys k at few far l =
    let sizes = all_split IsHole xs (h ∷ ys) l.sizes in
    let ends = all_split (λ a. a.at + a.size ≤ length d) xs (h ∷ ys) l.inside in
    let fars = all_split (IsApart a) xs (h ∷ ys) far in
    let parts = apart_split xs (h ∷ ys) l.apart in
    let heads = cross_head xs h ys parts.2 in
    let on = all_split (IsOn (length d)) xs (h ∷ ys) (list_on d (xs ++ h ∷ ys) l) in
    let e = without_block xs ys d in
    let l1 = list-without d xs h ys l in
    let k1 = taken-off-keeps d xs ys on.0 on.1.1 in
    let whole : IsHole (both a h) = record { aligned = k.aligned; multiple = omega (arith, k.multiple, sizes.1.0.multiple); least = omega (arith, k.least); most = few } in
    let inside : a.at + (a.size + h.size) ≤ length e = omega (arith, k1.long, ends.1.0, at) in
    let away = all_join (IsApart (both a h)) xs ys
    (both_apart a h xs at sizes.0 fars.0 (turned h xs heads.0))
    (both_apart a h ys at sizes.1.1 fars.1.1 parts.1.0) in
    let o : IsOn (length e) (both a h) = record { hole = whole; inside = inside; short = l1.short } in
    record {
      list = list-first e (both a h) (xs ++ ys) whole inside away l1;
      keeps = keeps_then (both a h) (xs ++ ys) d e (with_first (both a h) (xs ++ ys) e) k1 (first-keeps e (both a h) (xs ++ ys) o (list_on e (xs ++ ys) l1));
    }

alone_stands : (d : List ℕ) (a : Area) (holes : List Area) → IsHole a → a.at + a.size ≤ length d → AllByRecursion (IsApart a) holes → HasList d holes → Released d (with_first a holes d) (a ∷ holes)
alone_stands d a holes k inside far l =
    let o : IsOn (length d) a = record { hole = k; inside = inside; short = l.short } in
    record { list = list-first d a holes k inside far l; keeps = first-keeps d a holes o (list_on d holes l) }

bytes_stand : (d : List ℕ) (a : Area) (holes : List Area) (o : Option Area) → hole_at (a.at + a.size) holes ≡ o → IsHole a → a.at + a.size ≤ length d → AllByRecursion (IsApart a) holes → HasList d holes → Released d (joined_bytes a holes d o) (joined a holes o)
bytes_stand d a holes None e k inside far l = alone_stands d a holes k inside far l
bytes_stand d a holes (Some h) e k inside far l = by_test (nat_le (a.size + h.size) most_size) refl
  where
    s : SplitsAt (a.at + a.size) holes h
    s = found_splits (a.at + a.size) holes h e

    xs : List Area
    xs = before (a.at + a.size) holes

    by_test : (b : Bool) → nat_le (a.size + h.size) most_size ≡ b → Released d (if b then with_first (both a h) (without h.at holes) (without_at h.at holes d) else with_first a holes d) (if b then both a h ∷ without h.at holes else a ∷ holes)
    by_test false t = alone_stands d a holes k inside far l
    by_test true t =
        let p = a.at + a.size in
        let list = subst (λ (hs : List Area). HasList d hs) s.all l in
        let fars = subst (λ (hs : List Area). AllByRecursion (IsApart a) hs) s.all far in
        let r = joined_stands d a h (before p holes) (behind p holes) k s.at (leb-true _ _ t) fars list in
        let rest : without h.at holes ≡ before p holes ++ behind p holes = ap (λ (q : ℕ). without q holes) s.at ∙ s.rest in
        let bytes : without_at h.at holes d ≡ without_block (before p holes) (behind p holes) d = ap (λ (q : ℕ). without_at q holes d) s.at in
        let one = subst (λ (hs : List Area). Released d (with_first (both a h) hs (without_block (before p holes) (behind p holes) d)) (both a h ∷ hs)) (sym rest) r in
        subst (λ (x : List ℕ). Released d (with_first (both a h) (without h.at holes) x) (both a h ∷ without h.at holes)) (sym bytes) one

pub release-one-stands : (d : List ℕ) (a : Area) (holes : List Area) → IsHole a → a.at + a.size ≤ length d → AllByRecursion (IsApart a) holes → HasList d holes → Released d (release_one_bytes a holes d) (release_one a holes)
unfolding release_one_bytes release_one
release-one-stands d a holes k inside far l = bytes_stand d a holes (hole_at (a.at + a.size) holes) refl k inside far l

-- ---- what is apart from an area and from the list

-- bytes that are apart from deleted blocks are apart from their headers
pub far_of : (p n : ℕ) (holes : List Area) → AllByRecursion IsHole holes → AllByRecursion (IsApart (record { at = p; size = n })) holes → AllByRecursion (λ (a : Area). (p + n ≤ a.at) ⊎ (a.at + 20 ≤ p)) holes
far_of p n [] sizes far = tt
far_of p n (h ∷ holes) sizes far = (by_side far.0, far_of p n holes sizes.1 far.1)
  where
    by_side : IsApart (record { at = p; size = n }) h → (p + n ≤ h.at) ⊎ (h.at + 20 ≤ p)
    by_side (inl le) = inl le
    by_side (inr le) = inr (omega (arith, le, sizes.0.least))

apart_one : (x s : Area) (rest : List Area) (o : Option Area) → hole_at (s.at + s.size) rest ≡ o → 0 < x.size → IsApart x s → AllByRecursion (IsApart x) rest → AllByRecursion (IsApart x) (joined s rest o)
apart_one x s rest None e some f far = (f, far)
apart_one x s rest (Some h) e some f far = by_test (nat_le (s.size + h.size) most_size)
  where
    t : SplitsAt (s.at + s.size) rest h
    t = found_splits (s.at + s.size) rest h e

    off : IsApart x h
    off = (all_split (IsApart x) (before (s.at + s.size) rest) (h ∷ behind (s.at + s.size) rest) (subst (λ (hs : List Area). AllByRecursion (IsApart x) hs) t.all far)).1.0

    by_sides : IsApart x s → IsApart x h → IsApart x (record { at = s.at; size = s.size + h.size })
    by_sides (inl le) two = inl le
    by_sides (inr le) (inr more) = inr (omega (arith, t.at, more))
    by_sides (inr le) (inl no_room) = absurd (omega (arith, t.at, le, no_room, some))

    by_test : (b : Bool) → AllByRecursion (IsApart x) (if b then record { at = s.at; size = s.size + h.size } ∷ without h.at rest else s ∷ rest)
    by_test true = (by_sides f off, all-without (IsApart x) h.at rest far)
    by_test false = (f, far)

pub apart_after : (x s : Area) (rest : List Area) → 0 < x.size → IsApart x s → AllByRecursion (IsApart x) rest → AllByRecursion (IsApart x) (release_one s rest)
unfolding release_one
apart_after x s rest some f far = apart_one x s rest (hole_at (s.at + s.size) rest) refl some f far

-- ---- as two

pub part_apart : (a b : Area) (holes : List Area) → a.at ≤ b.at → b.at + b.size ≤ a.at + a.size → AllByRecursion (IsApart a) holes → AllByRecursion (IsApart b) holes
part_apart a b [] lo hi far = tt
part_apart a b (h ∷ holes) lo hi far = (by_side far.0, part_apart a b holes lo hi far.1)
  where
    by_side : IsApart a h → IsApart b h
    by_side (inl le) = inl (omega arith)
    by_side (inr le) = inr (omega arith)

apart_joined : (f b : Area) (holes : List Area) (o : Option Area) → f.at + f.size ≤ b.at → AllByRecursion (IsApart f) holes → AllByRecursion (IsApart f) (joined b holes o)
apart_joined f b holes None le far = (inl le, far)
apart_joined f b holes (Some h) le far = by_test (nat_le (b.size + h.size) most_size)
  where
    by_test : (t : Bool) → AllByRecursion (IsApart f) (if t then both b h ∷ without h.at holes else b ∷ holes)
    by_test true = (inl le, all-without (IsApart f) h.at holes far)
    by_test false = (inl le, far)

apart_released : (f b : Area) (holes : List Area) → f.at + f.size ≤ b.at → AllByRecursion (IsApart f) holes → AllByRecursion (IsApart f) (release_one b holes)
unfolding release_one
apart_released f b holes le far = apart_joined f b holes (hole_at (b.at + b.size) holes) le far

-- no area stands directly behind the front part that it could be joined with
pub back_head : (b : Area) (holes : List Area) (o : Option Area) → (c : Area) × (more : List Area) × (joined b holes o ≡ c ∷ more) × (c.at ≡ b.at) × (b.size ≤ c.size)
back_head b holes None = (b, holes, refl, refl, omega arith)
back_head b holes (Some h) = by_test (nat_le (b.size + h.size) most_size)
  where
    by_test : (t : Bool) → (c : Area) × (more : List Area) × ((if t then both b h ∷ without h.at holes else b ∷ holes) ≡ c ∷ more) × (c.at ≡ b.at) × (b.size ≤ c.size)
    by_test true = (both b h, without h.at holes, refl, refl, omega arith)
    by_test false = (b, holes, refl, refl, omega arith)

two_keep : (a c : Area) (more : List Area) (d e f : List ℕ) → KeepsBut (c ∷ more) d e → KeepsBut (a ∷ c ∷ more) e f → KeepsBut (a ∷ c ∷ more) d f
two_keep a c more d e f k l = keeps_then a (c ∷ more) d e f k l

too_long : (f : Area) (holes : List Area) (c : Area) (more : List Area) → holes ≡ c ∷ more → c.at ≡ f.at + f.size → most_size < f.size + c.size → (release_one f holes ≡ f ∷ holes) × ((d : List ℕ) → release_one_bytes f holes d ≡ with_first f holes d)
unfolding release_one release_one_bytes
too_long f holes c more is at long = by_found (hole_at (f.at + f.size) holes) found
  where
    met : (b : Bool) → (c.at == f.at + f.size) ≡ b → (if b then Some c else hole_at (f.at + f.size) more) ≡ Some c
    met true t = refl
    met false t = absurd (eqb-false _ _ t at)

    found : hole_at (f.at + f.size) holes ≡ Some c
    found = ap (hole_at (f.at + f.size)) is ∙ met (c.at == f.at + f.size) refl

    not_joined : (b : Bool) → nat_le (f.size + c.size) most_size ≡ b → ((if b then both f c ∷ without c.at holes else f ∷ holes) ≡ f ∷ holes) × ((d : List ℕ) → (if b then with_first (both f c) (without c.at holes) (without_at c.at holes d) else with_first f holes d) ≡ with_first f holes d)
    not_joined true t = absurd (omega (arith, leb-true _ _ t))
    not_joined false t = (refl, λ d. refl)

    by_found : (o : Option Area) → o ≡ Some c → (joined f holes o ≡ f ∷ holes) × ((d : List ℕ) → joined_bytes f holes d o ≡ with_first f holes d)
    by_found o e = subst (λ (x : Option Area). (joined f holes x ≡ f ∷ holes) × ((d : List ℕ) → joined_bytes f holes d x ≡ with_first f holes d)) (sym e) (not_joined (nat_le (f.size + c.size) most_size) refl)

pub front_alone : (a : Area) (holes : List Area) → most_size < a.size → (release_one (front_part a) (release_one (back_part a) holes) ≡ front_part a ∷ release_one (back_part a) holes) × ((d : List ℕ) → release_one_bytes (front_part a) (release_one (back_part a) holes) d ≡ with_first (front_part a) (release_one (back_part a) holes) d)
unfolding release_one
front_alone a holes long =
    let b = back_part a in
    let h = back_head b holes (hole_at (b.at + b.size) holes) in
    too_long (front_part a) (release_one (back_part a) holes) h.0 h.1 h.2 h.3 (omega (arith, h.4))

two_stand : (d : List ℕ) (a : Area) (holes : List Area) → IsFreeable a → most_size < a.size → a.at + a.size ≤ length d → AllByRecursion (IsApart a) holes → HasList d holes → Released d (with_first (front_part a) (release_one (back_part a) holes) (release_one_bytes (back_part a) holes d)) (front_part a ∷ release_one (back_part a) holes)
two_stand d a holes k long inside far l =
    let f = front_part a in
    let b = back_part a in
    let hs = release_one b holes in
    let e = release_one_bytes b holes d in
    let hb : IsHole b = record { aligned = omega (arith, k.aligned); multiple = omega (arith, k.multiple); least = omega arith; most = omega (arith, k.most) } in
    let hf : IsHole f = record { aligned = k.aligned; multiple = omega arith; least = omega arith; most = omega arith } in
    let one = release-one-stands d b holes hb (omega arith) (part_apart a b holes (omega arith) (omega arith) far) l in
    let away = apart_released f b holes (omega arith) (part_apart a f holes (omega arith) (omega arith) far) in
    let two = alone_stands e f hs hf (omega (arith, one.keeps.long)) away one.list in
    record { list = two.list; keeps = keeps_then f hs d e (with_first f hs e) one.keeps two.keeps }

pub release-stands : (d : List ℕ) (a : Area) (holes : List Area) → IsFreeable a → a.at + a.size ≤ length d → AllByRecursion (IsApart a) holes → HasList d holes → Released d (release_bytes a holes d) (release a holes)
unfolding release_bytes release
release-stands d a holes k inside far l = by_test (nat_le a.size most_size) refl
  where
    by_test : (b : Bool) → nat_le a.size most_size ≡ b → Released d (if b then release_one_bytes a holes d else release_one_bytes (front_part a) (release_one (back_part a) holes) (release_one_bytes (back_part a) holes d)) (if b then release_one a holes else release_one (front_part a) (release_one (back_part a) holes))
    by_test true t = release-one-stands d a holes (record { aligned = k.aligned; multiple = k.multiple; least = k.least; most = leb-true _ _ t }) inside far l
    by_test false t =
        let alone = front_alone a holes (leb-false _ _ t) in
        let r = two_stand d a holes k (leb-false _ _ t) inside far l in
        let e = release_one_bytes (back_part a) holes d in
        let one = subst (λ (x : List ℕ). Released d x (front_part a ∷ release_one (back_part a) holes)) (sym (alone.1 e)) r in
        subst (λ (hs : List Area). Released d (release_one_bytes (front_part a) (release_one (back_part a) holes) e) hs) (sym alone.0) one

-- ---- laws

pub taken-off-leaves : (d : List ℕ) (xs : List Area) (h : Area) (ys : List Area) → HasList d (xs ++ h ∷ ys) → LeavesList (xs ++ ys) d (without_block xs ys d)
taken-off-leaves d xs h ys l =
    let on = all_split (IsOn (length d)) xs (h ∷ ys) (list_on d (xs ++ h ∷ ys) l) in
    record { list = list-without d xs h ys l; keeps = taken-off-keeps d xs ys on.0 on.1.1 }

pub others-stay : (holes : List Area) (d e : List ℕ) (p : ℕ) (b : Block) → KeepsBut holes d e → AllByRecursion (λ a. (p + b.size ≤ a.at) ⊎ (a.at + 20 ≤ p)) holes → block_of d p ≡ Some b → block_of e p ≡ Some b
others-stay holes d e p b k far here = block-own d e p b (k.bytes p b.size (block-stands d p b here).inside far) here
