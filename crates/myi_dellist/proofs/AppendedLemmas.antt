-- Rows behind the end, and that each block of a placed row may be released again.
use Rattle.std.proofs.Common.{◌≡◌, ℕ, zero, suc, ◌+◌, ◌-◌, ◌%◌, ◌^◌, ◌<◌, ◌≤◌, inr, Bool, true, false, List, [], ◌∷◌, ◌++◌, Some, refl, arith}
use Rattle.std.specs.Prelude.{nat_lt, nat_le}
use Rattle.std.specs.List.{AllByRecursion}
use Rattle.myi_frames.proofs.CallerLemmas.{least-least, least-sized}
use Rattle.myi_dellist.specs.Areas.{Area, Tile}
use Rattle.myi_dellist.specs.Releasing.{most_size, IsHole, IsFreeable}
use Rattle.myi_frames.specs.Sizes.{least_size}
use Rattle.myi_dellist.specs.declared.pieces.Piece.{Piece}
use Rattle.myi_dellist.specs.Taking.{IsFull}
use Rattle.myi_dellist.specs.Placing.{Space, areas_of, area_of, taken_by, room, fits, take_last, take_one, take_from, take_more, is_none, last_pieces, append_one, append_from, place, place_at_end, place_of, update, own_areas, IsUsable}
use Rattle.myi_dellist.proofs.AreaLemmas.{below-append}
use Rattle.myi_dellist.proofs.PlaceLemmas.{append_ends}
use Rattle.myi_dellist.proofs.FillLemmas.{IsLast, Fill, append_fills, place-placed}
use Rattle.myi_dellist.proofs.StandLemmas.{AreAligned, append_aligned}
use Rattle.myi_dellist.proofs.UpdateLemmas.{own-usable}

-- ---- each block may be released

full_freeable : (len : ℕ) (first : Bool) (left : ℕ) (p : Piece) → p.at % 4 ≡ 0 → IsFull len first left p → IsFreeable (area_of p)
full_freeable len first left p aligned f = record { aligned = aligned; multiple = f.multiple; least = f.least; most = f.most }

last_freeable : (left : ℕ) (p : Piece) → p.at % 4 ≡ 0 → IsLast left p → IsFreeable (area_of p)
last_freeable left p aligned l =
    let few = l.few in
    let big = least-least left (2 ^ 24) (2 ^ 24 + 20) (omega arith) (record { multiple = omega arith; least = omega arith; room = omega arith }) in
    let s = least-sized left in
    record { aligned = aligned; multiple = l.multiple; least = omega (arith, s.least, l.least); most = omega (arith, l.close, big) }

fill-freeable : (len : ℕ) (first : Bool) (left : ℕ) (ps : List Piece) → AreAligned ps → Fill len first left ps → AllByRecursion IsFreeable (areas_of ps)
fill-freeable len first left [] aligned f = tt
fill-freeable len first left (p ∷ []) aligned f = (last_freeable left p aligned.0 f, tt)
fill-freeable len first left (p ∷ q ∷ ps) aligned f = (full_freeable len first left p aligned.0 f.0, fill-freeable len false (left - p.taken) (q ∷ ps) aligned.1 f.1)

-- each block that is taken of a list stands where the area does
take_aligned : (len : ℕ) (first : Bool) (left : ℕ) (areas : List Area) → AllByRecursion (λ (a : Area). a.at % 4 ≡ 0) areas → AreAligned (take_from len first left areas).pieces
take_aligned len first left [] all = tt
take_aligned len first left (a ∷ areas) all = by_fit (fits left a.size) (take_aligned len false (left - room len first a.size) areas all.1)
  where
    by_rest : (b : Bool) → AreAligned (take_last b left a areas).pieces
    by_rest true = (all.0, tt)
    by_rest false = (all.0, tt)

    by_fit : (b : Bool) → AreAligned (take_from len false (left - room len first a.size) areas).pieces → AreAligned (take_one len first left a areas b (λ more. take_from len false more areas)).pieces
    by_fit true more = by_rest (nat_le (least_size left + 20) a.size)
    by_fit false more = (all.0, more)

more_aligned : (len : ℕ) (first : Bool) (left : ℕ) (areas : List Area) → AllByRecursion (λ (a : Area). a.at % 4 ≡ 0) areas → AreAligned (take_more len first left areas).pieces
more_aligned len first zero areas all = tt
more_aligned len first (suc left) areas all = take_aligned len first (suc left) areas all

usable_aligned : (len : ℕ) (areas : List Area) → AllByRecursion (IsUsable len) areas → AllByRecursion (λ (a : Area). a.at % 4 ≡ 0) areas
usable_aligned len [] all = tt
usable_aligned len (a ∷ areas) all = (all.0.aligned, usable_aligned len areas all.1)

holes_aligned : (areas : List Area) → AllByRecursion IsHole areas → AllByRecursion (λ (a : Area). a.at % 4 ≡ 0) areas
holes_aligned [] all = tt
holes_aligned (a ∷ areas) all = (all.0.aligned, holes_aligned areas all.1)

aligned_join : (ps qs : List Piece) → AreAligned ps → AreAligned qs → AreAligned (ps ++ qs)
aligned_join [] qs a b = b
aligned_join (p ∷ ps) qs a b = (a.0, aligned_join ps qs a.1 b)

place_aligned : (s : Space) (own : List Area) (len : ℕ) → s.end % 4 ≡ 0 → AllByRecursion (IsUsable len) own → AllByRecursion IsHole s.holes → AreAligned (place s own len).pieces
unfolding place
place_aligned s own len aligned all holes =
    let a = take_from len true len own in
    let b = take_more len (is_none a.pieces) a.left s.holes in
    aligned_join (a.pieces ++ b.pieces) (last_pieces len a b s.end)
    (aligned_join a.pieces b.pieces (take_aligned len true len own (usable_aligned len own all)) (more_aligned len (is_none a.pieces) a.left s.holes (holes_aligned s.holes holes)))
    (append_aligned b.left len (is_none (a.pieces ++ b.pieces)) b.left s.end aligned)

pub update-freeable : (s : Space) (own : List Area) (len : ℕ) → 0 < len → s.end % 4 ≡ 0 → AllByRecursion IsFreeable own → AllByRecursion IsHole s.holes → AllByRecursion IsFreeable (areas_of (update s own len).pieces)
update-freeable s own len some aligned all holes =
    let usable = own-usable len own all in
    fill-freeable len true len (update s own len).pieces (place_aligned s (own_areas len own) len aligned usable holes) (place-placed s (own_areas len own) len some usable holes).fill

-- ---- behind the end

pub end-freeable : (s : Space) (len : ℕ) → 0 < len → s.end % 4 ≡ 0 → AllByRecursion IsFreeable (areas_of (place_at_end s len).pieces)
end-freeable s len some aligned = fill-freeable len true len (place_at_end s len).pieces (append_aligned len len true len s.end aligned) (append_fills len len true len s.end (omega arith) some)

pub end-counts : (s : Space) (len : ℕ) → 0 < len → taken_by (place_at_end s len).pieces ≡ len
end-counts s len some = (append_ends len len true len s.end (omega arith) (inr some)).counts

pub end-grows : (s : Space) (len : ℕ) → 0 < len → s.end ≤ (place_at_end s len).space.end
end-grows s len some = (append_ends len len true len s.end (omega arith) (inr some)).grows

pub end-tile : (s : Space) (others : List Area) (len : ℕ) → 0 < len → Tile s.end (others ++ s.holes) → Tile (place_at_end s len).space.end (others ++ (areas_of (place_at_end s len).pieces ++ s.holes))
end-tile s others len some tile p =
    let e = append_ends len len true len s.end (omega arith) (inr some) in
    let own = areas_of (place_at_end s len).pieces in
    omega (arith, tile p, e.bytes p, e.grows, below-append p others s.holes, below-append p others (own ++ s.holes), below-append p own s.holes)

pub end-place : (s : Space) (len : ℕ) → 0 < len → place_of (place_at_end s len).pieces ≡ Some s.end
end-place s zero some = absurd (omega arith)
end-place s (suc n) some = by_test (nat_lt (suc n) (2 ^ 24))
  where
    by_test : (b : Bool) → place_of (append_one (suc n) true (suc n) s.end b (λ more. append_from n (suc n) false more (s.end + most_size))) ≡ Some s.end
    by_test true = refl
    by_test false = refl
