-- Where a row begins, and that its blocks end in the file.
use Rattle.std.proofs.Common.{◌≡◌, ℕ, zero, suc, ◌+◌, ◌-◌, ◌%◌, ◌^◌, ◌<◌, ◌≤◌, Bool, true, false, List, [], ◌∷◌, ◌++◌, Some, refl, ap, ◌∙◌, arith}
use Rattle.std.specs.Prelude.{nat_lt, nat_le, if◌then◌else◌}
use Rattle.std.specs.List.{AllByRecursion, flat_map}
use Rattle.std.proofs.lemmas.Bool.{leb-false}
use Rattle.myi_frames.specs.Sizes.{least_size}
use Rattle.myi_frames.proofs.CallerLemmas.{least-sized}
use Rattle.myi_dellist.specs.Areas.{Area, below, bytes_below, AreInside, HaveBytes}
use Rattle.myi_dellist.specs.Releasing.{most_size, front_part, back_part, IsHole}
use Rattle.myi_dellist.specs.declared.pieces.Piece.{Piece}
use Rattle.myi_dellist.specs.Placing.{Space, areas_of, fits, take_last, take_one, take_from, take_more, append_one, append_from, is_none, last_pieces, place, own_parts, own_areas, specs_of, AreWritable, IsUsable, place_of, next_place}
use Rattle.myi_dellist.proofs.AreaLemmas.{rising, no_more, inside_by}
use Rattle.myi_dellist.proofs.PlaceLemmas.{place-keeps}
use Rattle.myi_dellist.proofs.FillLemmas.{Fill, place-placed, AreReached, fill-writable, holes_usable}

-- ---- inside

pub fill_bytes : (len : ℕ) (first : Bool) (left : ℕ) (ps : List Piece) → Fill len first left ps → HaveBytes (areas_of ps)
fill_bytes len first left [] f = absurd f
fill_bytes len first left (p ∷ []) f = (omega (arith, f.least, (least-sized left).least), tt)
fill_bytes len first left (p ∷ q ∷ ps) f = (omega (arith, f.0.least), fill_bytes len false (left - p.taken) (q ∷ ps) f.1)

pub hole_bytes : (holes : List Area) → AllByRecursion IsHole holes → HaveBytes holes
hole_bytes [] all = tt
hole_bytes (h ∷ holes) all = (omega (arith, all.0.least), hole_bytes holes all.1)

pub place-inside : (s : Space) (own : List Area) (len : ℕ) → 0 < len → s.end % 4 ≡ 0 → AllByRecursion (IsUsable len) own → AllByRecursion IsHole s.holes → AreInside s.end own → AreInside s.end s.holes → AreInside (place s own len).space.end (areas_of (place s own len).pieces) × AreInside (place s own len).space.end (place s own len).space.holes
place-inside s own len some aligned all holes io ih =
    let r = place s own len in
    let k = place-keeps s own len all (holes_usable len s.holes holes) in
    let p = place-placed s own len some all holes in (
      inside_by r.space.end (areas_of r.pieces) (fill_bytes len true len r.pieces p.fill) (λ q le. omega (arith, sums q le, rising r.space.end q r.space.holes le)),
      inside_by r.space.end r.space.holes (hole_bytes r.space.holes p.holes) (λ q le. omega (arith, sums q le, rising r.space.end q (areas_of r.pieces) le)),
    )
  where
    sums : (q : ℕ) → (place s own len).space.end ≤ q → bytes_below q (areas_of (place s own len).pieces) + bytes_below q (place s own len).space.holes ≡ bytes_below (place s own len).space.end (areas_of (place s own len).pieces) + bytes_below (place s own len).space.end (place s own len).space.holes
    sums q le =
        let r = place s own len in
        let k = place-keeps s own len all (holes_usable len s.holes holes) in
        omega (arith, k.bytes q, k.bytes r.space.end, k.grows, no_more s.end q own io (omega (arith, k.grows)), no_more s.end q s.holes ih (omega (arith, k.grows)), no_more s.end r.space.end own io k.grows, no_more s.end r.space.end s.holes ih k.grows)

pub reached_by : (end : ℕ) (ps : List Piece) → end < 2 ^ 64 → HaveBytes (areas_of ps) → AreInside end (areas_of ps) → AreReached ps
reached_by end [] lt some inside = tt
reached_by end (p ∷ ps) lt some inside = (omega (arith, some.0, inside.0), reached_by end ps lt some.1 inside.1)

pub place-writable : (s : Space) (own : List Area) (len : ℕ) → 0 < len → len < 2 ^ 32 → s.end % 4 ≡ 0 → AllByRecursion (IsUsable len) own → AllByRecursion IsHole s.holes → AreInside s.end own → AreInside s.end s.holes → (place s own len).space.end < 2 ^ 64 → AreWritable (specs_of len (place s own len).pieces) (place s own len).pieces
place-writable s own len some few aligned all holes io ih lt =
    let p = place-placed s own len some all holes in
    let i = place-inside s own len some aligned all holes io ih in
    let ps = (place s own len).pieces in
    fill-writable len ps few p.fill (reached_by (place s own len).space.end ps lt (fill_bytes len true len ps p.fill) i.0)

-- ---- the first block

first_last : (b : Bool) (left : ℕ) (a : Area) (more : List Area) → place_of (take_last b left a more).pieces ≡ Some a.at
first_last true left a more = refl
first_last false left a more = refl

pub first_taken : (len : ℕ) (first : Bool) (left : ℕ) (a : Area) (areas : List Area) → place_of (take_from len first left (a ∷ areas)).pieces ≡ Some a.at
first_taken len first left a areas = by_fits (fits left a.size)
  where
    by_fits : (b : Bool) → place_of (take_one len first left a areas b (λ more. take_from len false more areas)).pieces ≡ Some a.at
    by_fits true = first_last (nat_le (least_size left + 20) a.size) left a areas
    by_fits false = refl

first_append : (xs ys : List Piece) (p : ℕ) → place_of xs ≡ Some p → place_of (xs ++ ys) ≡ Some p
first_append [] ys p e = absurd cc
first_append (x ∷ xs) ys p e = e

pub place-own : (s : Space) (a : Area) (own : List Area) (len : ℕ) → place_of (place s (a ∷ own) len).pieces ≡ Some a.at
unfolding place
place-own s a own len =
    let t = take_from len true len (a ∷ own) in
    let more = take_more len (is_none t.pieces) t.left s.holes in
    first_append (t.pieces ++ more.pieces) (last_pieces len t more s.end) a.at (first_append t.pieces more.pieces a.at (first_taken len true len a own))

pub place-new : (s : Space) (len : ℕ) → 0 < len → place_of (place s [] len).pieces ≡ Some (next_place s.holes s.end)
unfolding place
place-new s zero some = absurd (omega arith)
place-new s (suc n) some = by_holes s.holes
  where
    by_end : (b : Bool) → place_of (append_one (suc n) true (suc n) s.end b (λ more. append_from n (suc n) false more (s.end + most_size))) ≡ Some s.end
    by_end true = refl
    by_end false = refl

    by_holes : (holes : List Area) → place_of ((take_more (suc n) true (suc n) holes).pieces ++ append_from (take_more (suc n) true (suc n) holes).left (suc n) (is_none (take_more (suc n) true (suc n) holes).pieces) (take_more (suc n) true (suc n) holes).left s.end) ≡ Some (next_place holes s.end)
    by_holes [] = by_end (nat_lt (suc n) (2 ^ 24))
    by_holes (h ∷ holes) = first_append (take_from (suc n) true (suc n) (h ∷ holes)).pieces (append_from (take_from (suc n) true (suc n) (h ∷ holes)).left (suc n) (is_none (take_from (suc n) true (suc n) (h ∷ holes)).pieces) (take_from (suc n) true (suc n) (h ∷ holes)).left s.end) h.at (first_taken (suc n) true (suc n) h holes)

-- ---- own blocks as two

own_at : (a : Area) (areas : List Area) (len : ℕ) → (b : Area) × (bs : List Area) × (own_areas len (a ∷ areas) ≡ b ∷ bs) × (b.at ≡ a.at)
own_at a areas len = by_len (nat_lt len (2 ^ 24))
  where
    by_size : (t : Bool) (rest : List Area) → (b : Area) × (bs : List Area) × ((if t then a ∷ [] else front_part a ∷ back_part a ∷ []) ++ rest ≡ b ∷ bs) × (b.at ≡ a.at)
    by_size true rest = (a, rest, refl, refl)
    by_size false rest = (front_part a, back_part a ∷ rest, refl, refl)

    by_len : (t : Bool) → (b : Area) × (bs : List Area) × ((if t then a ∷ areas else flat_map own_parts (a ∷ areas)) ≡ b ∷ bs) × (b.at ≡ a.at)
    by_len true = (a, areas, refl, refl)
    by_len false = by_size (nat_le a.size most_size) (flat_map own_parts areas)

pub update-place : (s : Space) (a : Area) (own : List Area) (len : ℕ) → place_of (place s (own_areas len (a ∷ own)) len).pieces ≡ Some a.at
update-place s a own len =
    let o = own_at a own len in
    ap (λ (xs : List Area). place_of (place s xs len).pieces) o.2 ∙ place-own s o.0 o.1 len ∙ ap (λ (n : ℕ). Some n) o.3

below_parts : (p : ℕ) (a : Area) (rest : List Area) → bytes_below p (own_parts a ++ rest) ≡ below p a + bytes_below p rest
below_parts p a rest = by_size (nat_le a.size most_size) refl
  where
    by_size : (t : Bool) → nat_le a.size most_size ≡ t → bytes_below p ((if t then a ∷ [] else front_part a ∷ back_part a ∷ []) ++ rest) ≡ below p a + bytes_below p rest
    by_size true e = refl
    by_size false e = omega (arith, leb-false _ _ e)

below_all : (p : ℕ) (own : List Area) → bytes_below p (flat_map own_parts own) ≡ bytes_below p own
below_all p [] = refl
below_all p (a ∷ own) = below_parts p a (flat_map own_parts own) ∙ ap (λ (n : ℕ). below p a + n) (below_all p own)

pub below-own_areas : (p len : ℕ) (own : List Area) → bytes_below p (own_areas len own) ≡ bytes_below p own
below-own_areas p len own = by_len (nat_lt len (2 ^ 24))
  where
    by_len : (t : Bool) → bytes_below p (if t then own else flat_map own_parts own) ≡ bytes_below p own
    by_len true = refl
    by_len false = below_all p own
