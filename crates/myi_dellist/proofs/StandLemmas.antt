-- The blocks of a row that are written stand in the file, and what is apart from them stands as before.
use Rattle.std.proofs.Common.{◌≡◌, ℕ, zero, suc, ◌+◌, ◌-◌, ◌%◌, ◌^◌, ◌<◌, ◌≤◌, ◌⊎◌, inl, inr, Bool, true, false, List, [], ◌∷◌, ◌++◌, length, take, drop, Some, refl, sym, ap, subst, ◌∙◌, arith, length-drop}
use Rattle.std.specs.Prelude.{nat_lt}
use Rattle.std.specs.List.{AllByRecursion}
use Rattle.std.proofs.lemmas.Bool.{ltb-false}
use Rattle.std.proofs.lemmas.List.{length-take-le}
use Rattle.myi_base.specs.Holding.{overwritten}
use Rattle.myi_frames.specs.declared.write.FrameSpec.{FrameSpec}
use Rattle.myi_frames.specs.Block.{Block, block_of}
use Rattle.myi_frames.specs.Writing.{IsWritable, block_bytes, written_block}
use Rattle.myi_frames.proofs.CallerLemmas.{block-overwritten, block-elsewhere, length-block, length-overwritten, part-overwritten, block-own, block-stands}
use Rattle.myi_dellist.specs.declared.pieces.Piece.{Piece}
use Rattle.myi_dellist.specs.Areas.{Area, below, bytes_below, IsApart, AreApart, AreInside, HaveBytes}
use Rattle.myi_dellist.specs.Releasing.{most_size}
use Rattle.myi_dellist.specs.Placing.{areas_of, area_of, taken_by, room, append_one, append_from, end_behind, AreWritable}
use Rattle.myi_dellist.specs.RowBlocks.{blocks_as}
use Rattle.myi_dellist.specs.Standing.{HasList}
use Rattle.myi_dellist.specs.Rows.{blocks_written, AreBelow, KeepsApart}
use Rattle.myi_dellist.proofs.SizeLemmas.{room-bounds}
use Rattle.myi_dellist.proofs.AreaLemmas.{held_or, one_more, Once}
use Rattle.myi_dellist.proofs.PlaceLemmas.{append_ends}
use Rattle.myi_dellist.proofs.LinkLemmas.{apart_test, all_split}
use Rattle.myi_dellist.proofs.TakenLemmas.{written-elsewhere}
use Rattle.myi_dellist.proofs.FillLemmas.{AreReached}

-- each begins at a multiple of 4
abbrev pub AreAligned : List Piece → Type 0
AreAligned ps = AllByRecursion (λ (p : Piece). p.at % 4 ≡ 0) ps

other : (a b : Area) → IsApart a b → IsApart b a
other a b (inl le) = inr le
other a b (inr le) = inl le

-- ---- one block

took : (n size : ℕ) (f : FrameSpec) (row : List ℕ) → n ≤ length row → IsWritable f n size → IsWritable f (length (take n row)) size
took n size f row le w = subst (λ (m : ℕ). IsWritable f m size) (sym (length-take-le n row le)) w

pub block_long : (n size : ℕ) (f : FrameSpec) (row : List ℕ) → n ≤ length row → IsWritable f n size → length (block_bytes f (take n row) size) ≡ size
block_long n size f row le w = length-block f (take n row) size (took n size f row le w)

one_long : (p : Piece) (f : FrameSpec) (row d : List ℕ) → p.taken ≤ length row → IsWritable f p.taken p.size → length (overwritten p.at (block_bytes f (take p.taken row) p.size) d) ≡ p.at + p.size + (length d - (p.at + p.size))
one_long p f row d le w =
    let long = block_long p.taken p.size f row le w in
    length-overwritten p.at (block_bytes f (take p.taken row) p.size) d ∙ ap (λ (n : ℕ). p.at + n + (length d - (p.at + n))) long

one_far : (p : Piece) (f : FrameSpec) (row d : List ℕ) (q : ℕ) (b : Block) → p.taken ≤ length row → IsWritable f p.taken p.size → IsApart (record { at = q; size = b.size }) (area_of p) → block_of d q ≡ Some b → block_of (overwritten p.at (block_bytes f (take p.taken row) p.size) d) q ≡ Some b
one_far p f row d q b le w far e =
    let long = block_long p.taken p.size f row le w in
    block-elsewhere d (block_bytes f (take p.taken row) p.size) p.at q b e
    (subst (λ (n : ℕ). Rattle.myi_base.specs.Ranges.are_apart (q, q + b.size) (p.at, p.at + n) ≡ true) (sym long) (apart_test q (q + b.size) p.at (p.at + p.size) far))

one_keeps : (p : Piece) (f : FrameSpec) (row d : List ℕ) (q n : ℕ) → p.taken ≤ length row → IsWritable f p.taken p.size → q + n ≤ length d → IsApart (record { at = q; size = n }) (area_of p) → take n (drop q (overwritten p.at (block_bytes f (take p.taken row) p.size) d)) ≡ take n (drop q d)
one_keeps p f row d q n le w inside far =
    let long = block_long p.taken p.size f row le w in
    part-overwritten p.at (block_bytes f (take p.taken row) p.size) d q n
    (subst (λ (m : ℕ). (q + n ≤ p.at) ⊎ (p.at + m ≤ q)) (sym long) far) inside

-- ---- all blocks

pub left_long : (p : Piece) (ps : List Piece) (row : List ℕ) → taken_by (p ∷ ps) ≤ length row → (p.taken ≤ length row) × (taken_by ps ≤ length (drop p.taken row))
left_long p ps row le = (omega (arith, le), omega (arith, le, length-drop p.taken row))

pub rest_far : (fs : List FrameSpec) (ps : List Piece) (row d : List ℕ) (q : ℕ) (b : Block) → AreWritable fs ps → taken_by ps ≤ length row → AllByRecursion (IsApart (record { at = q; size = b.size })) (areas_of ps) → block_of d q ≡ Some b → block_of (blocks_written fs ps row d) q ≡ Some b
rest_far [] ps row d q b w le far e = e
rest_far (f ∷ fs) [] row d q b w le far e = e
rest_far (f ∷ fs) (p ∷ ps) row d q b w le far e =
    let l = left_long p ps row le in
    rest_far fs ps (drop p.taken row) (overwritten p.at (block_bytes f (take p.taken row) p.size) d) q b w.1 l.1 far.1 (one_far p f row d q b l.0 w.0 far.0 e)

pub stand : (fs : List FrameSpec) (ps : List Piece) (row d : List ℕ) → AreWritable fs ps → AreAligned ps → AreApart (areas_of ps) → taken_by ps ≤ length row → AllByRecursion (λ (b : Block). block_of (blocks_written fs ps row d) b.at ≡ Some b) (blocks_as fs ps row)
stand [] ps row d w aligned apart le = tt
stand (f ∷ fs) [] row d w aligned apart le = tt
stand (f ∷ fs) (p ∷ ps) row d w aligned apart le =
    let l = left_long p ps row le in
    let x = overwritten p.at (block_bytes f (take p.taken row) p.size) d in
    let here : block_of x p.at ≡ Some (written_block f p.at p.size (take p.taken row)) = block-overwritten f (take p.taken row) d p.at p.size (took p.taken p.size f row l.0 w.0) aligned.0 in (
      rest_far fs ps (drop p.taken row) x p.at (written_block f p.at p.size (take p.taken row)) w.1 l.1 apart.0 here,
      stand fs ps (drop p.taken row) x w.1 aligned.1 apart.1 l.1,
    )

pub no_shorter : (fs : List FrameSpec) (ps : List Piece) (row d : List ℕ) → AreWritable fs ps → taken_by ps ≤ length row → length d ≤ length (blocks_written fs ps row d)
no_shorter [] ps row d w le = omega arith
no_shorter (f ∷ fs) [] row d w le = omega arith
no_shorter (f ∷ fs) (p ∷ ps) row d w le =
    let l = left_long p ps row le in
    omega (arith, one_long p f row d l.0 w.0, no_shorter fs ps (drop p.taken row) (overwritten p.at (block_bytes f (take p.taken row) p.size) d) w.1 l.1)

pub rest_keeps : (fs : List FrameSpec) (ps : List Piece) (row d : List ℕ) (q n : ℕ) → AreWritable fs ps → taken_by ps ≤ length row → q + n ≤ length d → AllByRecursion (IsApart (record { at = q; size = n })) (areas_of ps) → take n (drop q (blocks_written fs ps row d)) ≡ take n (drop q d)
rest_keeps [] ps row d q n w le inside far = refl
rest_keeps (f ∷ fs) [] row d q n w le inside far = refl
rest_keeps (f ∷ fs) (p ∷ ps) row d q n w le inside far =
    let l = left_long p ps row le in
    let x = overwritten p.at (block_bytes f (take p.taken row) p.size) d in
    rest_keeps fs ps (drop p.taken row) x q n w.1 l.1 (omega (arith, inside, one_long p f row d l.0 w.0)) far.1 ∙ one_keeps p f row d q n l.0 w.0 inside far.0

-- the file ends no later than this
pub no_longer : (fs : List FrameSpec) (ps : List Piece) (row d : List ℕ) (end : ℕ) → AreWritable fs ps → taken_by ps ≤ length row → length d ≤ end → AreInside end (areas_of ps) → length (blocks_written fs ps row d) ≤ end
no_longer [] ps row d end w le short inside = short
no_longer (f ∷ fs) [] row d end w le short inside = short
no_longer (f ∷ fs) (p ∷ ps) row d end w le short inside =
    let l = left_long p ps row le in
    no_longer fs ps (drop p.taken row) (overwritten p.at (block_bytes f (take p.taken row) p.size) d) end w.1 l.1 (omega (arith, one_long p f row d l.0 w.0, short, inside.0)) inside.1

-- and no sooner than behind the last blocks
reaches : (fs : List FrameSpec) (ps : List Piece) (row d : List ℕ) (at : ℕ) → AreWritable fs ps → taken_by ps ≤ length row → at ≤ length d → end_behind at ps ≤ length (blocks_written fs ps row d)
reaches [] [] row d at w le short = short
reaches [] (p ∷ ps) row d at w le short = absurd w
reaches (f ∷ fs) [] row d at w le short = short
reaches (f ∷ fs) (p ∷ ps) row d at w le short =
    let l = left_long p ps row le in
    reaches fs ps (drop p.taken row) (overwritten p.at (block_bytes f (take p.taken row) p.size) d) (p.at + p.size) w.1 l.1 (omega (arith, one_long p f row d l.0 w.0))

pub reaches_behind : (fs : List FrameSpec) (xs ys : List Piece) (row d : List ℕ) (at : ℕ) → AreWritable fs (xs ++ ys) → taken_by (xs ++ ys) ≤ length row → at ≤ length d → end_behind at ys ≤ length (blocks_written fs (xs ++ ys) row d)
reaches_behind fs [] ys row d at w le short = reaches fs ys row d at w le short
reaches_behind [] (p ∷ xs) ys row d at w le short = absurd w
reaches_behind (f ∷ fs) (p ∷ xs) ys row d at w le short =
    let l = left_long p (xs ++ ys) row le in
    reaches_behind fs xs ys (drop p.taken row) (overwritten p.at (block_bytes f (take p.taken row) p.size) d) at w.1 l.1 (omega (arith, one_long p f row d l.0 w.0, short))

-- ---- the list

abbrev pub AreCrossed : List Area → List Area → Type 0
AreCrossed [] ys = Unit {0}
AreCrossed (x ∷ xs) ys = AllByRecursion (IsApart x) ys × AreCrossed xs ys

pub list_stays : (fs : List FrameSpec) (ps : List Piece) (row d : List ℕ) (holes : List Area) → AreWritable fs ps → taken_by ps ≤ length row → AreBelow (2 ^ 64) ps → AreCrossed (areas_of ps) holes → HasList d holes → HasList (blocks_written fs ps row d) holes
list_stays [] ps row d holes w le below far l = l
list_stays (f ∷ fs) [] row d holes w le below far l = l
list_stays (f ∷ fs) (p ∷ ps) row d holes w le below far l =
    let m = left_long p ps row le in
    let long = block_long p.taken p.size f row m.0 w.0 in
    list_stays fs ps (drop p.taken row) (overwritten p.at (block_bytes f (take p.taken row) p.size) d) holes w.1 m.1 below.1 far.1
    (written-elsewhere d (block_bytes f (take p.taken row) p.size) p.at holes l (omega (arith, long, below.0)) (subst (λ (n : ℕ). AllByRecursion (IsApart (record { at = p.at; size = n })) holes) (sym long) far.0))

pub cross_of : (xs ys : List Area) → AreApart (xs ++ ys) → AreApart xs × AreCrossed xs ys
cross_of [] ys a = (tt, tt)
cross_of (x ∷ xs) ys a =
    let far = all_split (IsApart x) xs ys a.0 in
    let more = cross_of xs ys a.1 in
    ((far.0, more.0), (far.1, more.1))

-- ---- counting

pub apart-once : (areas : List Area) → AreApart areas → Once areas
apart-once areas apart p = by_or (held_or p areas)
  where
    by_or : Rattle.myi_dellist.specs.Areas.Holds p areas ⊎ (bytes_below (p + 1) areas ≡ bytes_below p areas) → bytes_below (p + 1) areas ≤ bytes_below p areas + 1
    by_or (inl h) = omega (arith, one_more p areas apart h)
    by_or (inr e) = omega (arith, e)

-- ---- at the end

pub append_aligned : (fuel len : ℕ) (first : Bool) (left at : ℕ) → at % 4 ≡ 0 → AreAligned (append_from fuel len first left at)
append_aligned zero len first left at aligned = tt
append_aligned (suc fuel) len first left at aligned = by_test (nat_lt left (2 ^ 24)) (append_aligned fuel len false (left - room len first most_size) (at + most_size) (omega (arith, aligned)))
  where
    by_test : (b : Bool) → AreAligned (append_from fuel len false (left - room len first most_size) (at + most_size)) → AreAligned (append_one len first left at b (λ more. append_from fuel len false more (at + most_size)))
    by_test true more = (aligned, tt)
    by_test false more = (aligned, more)

pub append_inside : (fuel len : ℕ) (first : Bool) (left at : ℕ) → left ≤ fuel → 0 < left → AreInside (end_behind at (append_from fuel len first left at)) (areas_of (append_from fuel len first left at))
append_inside zero len first left at le some = absurd (omega arith)
append_inside (suc fuel) len first left at le some =
    let cap = room-bounds len first most_size (omega arith) in
    by_test (nat_lt left (2 ^ 24)) refl (λ (far : 2 ^ 24 ≤ left). append_inside fuel len false (left - room len first most_size) (at + most_size) (omega (arith, le, far, cap.0)) (omega (arith, far, cap.1)))
  where
    by_test : (b : Bool) → nat_lt left (2 ^ 24) ≡ b → (2 ^ 24 ≤ left → AreInside (end_behind (at + most_size) (append_from fuel len false (left - room len first most_size) (at + most_size))) (areas_of (append_from fuel len false (left - room len first most_size) (at + most_size)))) → AreInside (end_behind at (append_one len first left at b (λ more. append_from fuel len false more (at + most_size)))) (areas_of (append_one len first left at b (λ more. append_from fuel len false more (at + most_size))))
    by_test true e more = (omega arith, tt)
    by_test false e more =
        let far = ltb-false _ _ e in
        let cap = room-bounds len first most_size (omega arith) in
        let grows = (append_ends fuel len false (left - room len first most_size) (at + most_size) (omega (arith, le, far, cap.0)) (inr (omega (arith, far, cap.1)))).grows in
        (grows, more far)

pub below_inside : (end : ℕ) (ps : List Piece) → end < 2 ^ 64 → AreInside end (areas_of ps) → AreBelow (2 ^ 64) ps
below_inside end [] lt inside = tt
below_inside end (p ∷ ps) lt inside = (omega (arith, inside.0), below_inside end ps lt inside.1)

pub below_reached : (ps : List Piece) → HaveBytes (areas_of ps) → AreBelow (2 ^ 64) ps → AreReached ps
below_reached [] some below = tt
below_reached (p ∷ ps) some below = (omega (arith, some.0, below.0), below_reached ps some.1 below.1)

-- ---- a law

pub block-apart : (areas : List Area) (d e : List ℕ) (p : ℕ) (b : Block) → KeepsApart areas d e → AllByRecursion (IsApart (record { at = p; size = b.size })) areas → block_of d p ≡ Some b → block_of e p ≡ Some b
block-apart areas d e p b keeps far here = block-own d e p b (keeps.bytes p b.size (block-stands d p b here).inside far) here
