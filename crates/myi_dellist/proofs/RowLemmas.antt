-- The blocks of a placed row are one chain.
use Rattle.std.proofs.Common.{◌≡◌, ℕ, ◌-◌, ◌%◌, ◌<◌, ◌≤◌, Bool, true, false, List, [], ◌∷◌, ◌++◌, length, take, drop, Option, Some, refl, ap, ◌∙◌, arith, length-drop}
use Rattle.std.specs.List.{AllByRecursion, flat_map}
use Rattle.std.proofs.lemmas.List.{append-nil, take_all, take-append-drop, length-take-le}
use Rattle.myi_frames.specs.declared.form.FrameKind.TheVariants.{Middle}
use Rattle.myi_frames.specs.declared.write.FrameSpec.{FrameSpec}
use Rattle.myi_frames.specs.Block.{Block}
use Rattle.myi_frames.specs.Writing.{start_spec, middle_spec, written_block}
use Rattle.myi_dellist.specs.Areas.{Area}
use Rattle.myi_dellist.specs.Releasing.{IsHole, IsFreeable}
use Rattle.myi_dellist.specs.declared.pieces.Piece.{Piece}
use Rattle.myi_dellist.specs.Taking.{IsFull}
use Rattle.myi_dellist.specs.Placing.{Space, update, own_areas, place_at_end, append_from, specs_behind, specs_of, place_of}
use Rattle.myi_dellist.specs.RowBlocks.{blocks_as, row_blocks, AreNamed, AreLinked, HoldRow}
use Rattle.myi_dellist.proofs.SizeLemmas.{room-bounds}
use Rattle.myi_dellist.proofs.FillLemmas.{Fill, place-placed, append_fills}
use Rattle.myi_dellist.proofs.UpdateLemmas.{own-usable}

named_more : (link : Option ℕ) (b : Block) (bs : List Block) → link ≡ Some b.at → b.kind ≡ Middle → AreNamed b.next bs → AreNamed link (b ∷ bs)
named_more link b [] at kind more = absurd more
named_more link b (c ∷ bs) at kind more = (at, kind, more)

named : (len : ℕ) (first : Bool) (left : ℕ) (ps : List Piece) (row : List ℕ) → Fill len first left ps → AreNamed (place_of ps) (blocks_as (specs_behind ps) ps row)
named len first left [] row f = absurd f
named len first left (p ∷ []) row f = (refl, refl, refl)
named len first left (p ∷ q ∷ ps) row f =
    named_more (Some p.at) (written_block (middle_spec (Some q.at)) p.at p.size (take p.taken row)) (blocks_as (specs_behind (q ∷ ps)) (q ∷ ps) (drop p.taken row)) refl refl
    (named len false (left - p.taken) (q ∷ ps) (drop p.taken row) f.1)

linked_start : (len : ℕ) (p q : Piece) (ps : List Piece) (bytes : List ℕ) (bs : List Block) → AreNamed (Some q.at) bs → AreLinked (Some p.at) (written_block (start_spec len (Some q.at)) p.at p.size bytes ∷ bs)
linked_start len p q ps bytes [] more = absurd more
linked_start len p q ps bytes (c ∷ bs) more = (refl, refl, more)

linked : (len : ℕ) (ps : List Piece) (row : List ℕ) → Fill len true len ps → AreLinked (place_of ps) (blocks_as (specs_of len ps) ps row)
linked len [] row f = absurd f
linked len (p ∷ []) row f = (refl, refl, refl)
linked len (p ∷ q ∷ ps) row f = linked_start len p q ps (take p.taken row) (blocks_as (specs_behind (q ∷ ps)) (q ∷ ps) (drop p.taken row)) (named len false (len - p.taken) (q ∷ ps) (drop p.taken row) f.1)

-- ---- each holds a byte

full_some : (len : ℕ) (first : Bool) (left : ℕ) (p : Piece) → IsFull len first left p → 0 < p.taken
full_some len first left p f = omega (arith, f.taken, (room-bounds len first p.size f.least).0)

some_taken : (n : ℕ) (row : List ℕ) → 0 < n → n ≤ length row → 0 < length (take n row)
some_taken n row some le = omega (arith, length-take-le n row le)

filled : (fs : List FrameSpec) (len : ℕ) (first : Bool) (left : ℕ) (ps : List Piece) (row : List ℕ) → Fill len first left ps → 0 < left → length row ≡ left → AllByRecursion (λ (b : Block). 0 < length b.bytes) (blocks_as fs ps row)
filled [] len first left ps row f some is = tt
filled (g ∷ fs) len first left [] row f some is = absurd f
filled (g ∷ []) len first left (p ∷ []) row f some is = (some_taken p.taken row (omega (arith, f.taken)) (omega (arith, f.taken)), tt)
filled (g ∷ h ∷ fs) len first left (p ∷ []) row f some is = (some_taken p.taken row (omega (arith, f.taken)) (omega (arith, f.taken)), tt)
filled (g ∷ fs) len first left (p ∷ q ∷ ps) row f some is = (
  some_taken p.taken row (full_some len first left p f.0) (omega (arith, f.0.less)),
  filled fs len false (left - p.taken) (q ∷ ps) (drop p.taken row) f.1 (omega (arith, f.0.less)) (omega (arith, length-drop p.taken row)),
)

-- ---- together they hold the row

last_bytes : (n : ℕ) (row : List ℕ) → n ≡ length row → take n row ++ [] ≡ row
last_bytes n row e = append-nil (take n row) ∙ take_all n row (omega arith)

abbrev bytes_in : List Block → List ℕ
bytes_in bs = flat_map (λ b. b.bytes) bs

rest_bytes : (len : ℕ) (first : Bool) (left : ℕ) (ps : List Piece) (row : List ℕ) → Fill len first left ps → length row ≡ left → bytes_in (blocks_as (specs_behind ps) ps row) ≡ row
rest_bytes len first left [] row f is = absurd f
rest_bytes len first left (p ∷ []) row f is = last_bytes p.taken row (omega (arith, f.taken))
rest_bytes len first left (p ∷ q ∷ ps) row f is =
    ap (λ (xs : List ℕ). take p.taken row ++ xs) (rest_bytes len false (left - p.taken) (q ∷ ps) (drop p.taken row) f.1 (omega (arith, length-drop p.taken row)))
    ∙ take-append-drop p.taken row

all_bytes : (len : ℕ) (ps : List Piece) (row : List ℕ) → Fill len true len ps → length row ≡ len → bytes_in (blocks_as (specs_of len ps) ps row) ≡ row
all_bytes len [] row f is = absurd f
all_bytes len (p ∷ []) row f is = last_bytes p.taken row (omega (arith, f.taken))
all_bytes len (p ∷ q ∷ ps) row f is =
    ap (λ (xs : List ℕ). take p.taken row ++ xs) (rest_bytes len false (len - p.taken) (q ∷ ps) (drop p.taken row) f.1 (omega (arith, length-drop p.taken row)))
    ∙ take-append-drop p.taken row

said : (len : ℕ) (ps : List Piece) (row : List ℕ) → Fill len true len ps → Rattle.myi_dellist.specs.RowBlocks.said_len (blocks_as (specs_of len ps) ps row) ≡ len
said len [] row f = absurd f
said len (p ∷ []) row f = refl
said len (p ∷ q ∷ ps) row f = refl

-- ---- the whole

pub fill-holds : (ps : List Piece) (row : List ℕ) → 0 < length row → Fill (length row) true (length row) ps → HoldRow (place_of ps) row (row_blocks ps row)
fill-holds ps row some f = record {
  linked = linked (length row) ps row f;
  filled = filled (specs_of (length row) ps) (length row) true (length row) ps row f some refl;
  said = said (length row) ps row f;
  bytes = all_bytes (length row) ps row f refl;
}

pub update-holds : (s : Space) (own : List Area) (row : List ℕ) → 0 < length row → s.end % 4 ≡ 0 → AllByRecursion IsFreeable own → AllByRecursion IsHole s.holes → HoldRow (place_of (update s own (length row)).pieces) row (row_blocks (update s own (length row)).pieces row)
update-holds s own row some aligned all holes =
    fill-holds (update s own (length row)).pieces row some (place-placed s (own_areas (length row) own) (length row) some (own-usable (length row) own all) holes).fill

pub end-holds : (s : Space) (row : List ℕ) → 0 < length row → s.end % 4 ≡ 0 → HoldRow (place_of (place_at_end s (length row)).pieces) row (row_blocks (place_at_end s (length row)).pieces row)
end-holds s row some aligned = fill-holds (append_from (length row) (length row) true (length row) s.end) row some (append_fills (length row) (length row) true (length row) s.end (omega arith) some)
