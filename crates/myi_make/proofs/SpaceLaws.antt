-- Where a row goes that is put into a table of which nothing is deleted, and which bytes it adds to the data file.
use Rattle.std.proofs.Common.{◌≡◌, ◌<◌, ◌+◌, ◌^◌, ◌∙◌, ℕ, suc, zero, Bool, true, false, List, [], ◌∷◌, length, ap, arith}
use Rattle.std.proofs.lemmas.Bool.{lt-ltb}
use Rattle.std.proofs.lemmas.List.{take_all, append-nil}
use Rattle.myi_frames.specs.Sizes.{least_size}
use Rattle.myi_frames.specs.Writing.{block_bytes, whole_spec}
use Rattle.myi_dellist.specs.declared.pieces.Piece.{Piece}
use Rattle.myi_dellist.specs.Areas.{Area}
use Rattle.myi_dellist.specs.Releasing.{most_size}
use Rattle.myi_dellist.specs.Placing.{Space, append_one, append_from, end_behind, place, specs_of}
use Rattle.myi_dellist.specs.Appending.{bytes_in, end_bytes}
use Rattle.myi_data.specs.Stored.{own_block}

one_piece : (end n : ℕ) → suc n < 2 ^ 24 → append_from (suc n) (suc n) true (suc n) end ≡ record { at = end; size = least_size (suc n); taken = suc n } ∷ []
one_piece end n few = ap (λ (b : Bool). append_one (suc n) true (suc n) end b (λ more. append_from n (suc n) false more (end + most_size))) (lt-ltb (suc n) (2 ^ 24) few)

space_at : (end n : ℕ) → suc n < 2 ^ 24 → (place (record { holes = []; end = end }) [] (suc n)).space ≡ record { holes = []; end = end + least_size (suc n) }
unfolding place
space_at end n few = ap (λ (ps : List Piece). record { holes = []; end = end_behind end ps }) (one_piece end n few)

space_of : (s : Space) (n : ℕ) → s.holes ≡ [] → suc n < 2 ^ 24 → (place s [] (suc n)).space ≡ record { holes = []; end = s.end + least_size (suc n) }
space_of s n none few = ap (λ (holes : List Area). (place (record { holes = holes; end = s.end }) [] (suc n)).space) none ∙ space_at s.end n few

-- behind the end, where nothing is deleted
pub space_behind : (s : Space) (len : ℕ) → s.holes ≡ [] → 0 < len → len < 2 ^ 24 → (place s [] len).space ≡ record { holes = []; end = s.end + least_size len }
space_behind s (suc n) none some few = space_of s n none few
space_behind s zero none some few = absurd (omega (arith, some))

-- the bytes of a block of its own
pub added_is : (row : List ℕ) (end : ℕ) → 0 < length row → length row < 2 ^ 24 → end_bytes end row ≡ own_block row
unfolding end_bytes
added_is [] end some few = absurd (omega (arith, some))
added_is (b ∷ bs) end some few =
    ap (λ (ps : List Piece). bytes_in (specs_of (suc (length bs)) ps) ps (b ∷ bs)) (one_piece end (length bs) few)
    ∙ append-nil _
    ∙ ap (λ (r : List ℕ). block_bytes (whole_spec (suc (length bs))) r (least_size (suc (length bs)))) (take_all (suc (length bs)) (b ∷ bs) (omega arith))
