-- The bytes of a row that is answered: a slice of a window, or bytes that were joined.
use Rattle.std.specs.Prelude.{◌-◌, ℕ, Bool, false, nat_le, List, [], ◌∷◌}
use Rattle.myi_base.specs.Ranges.{Range}
use Rattle.myi_window.specs.declared.window.TheConstants.{WINDOW}
use Rattle.myi_chain.specs.declared.piece.Piece.{Piece}
use Rattle.myi_chain.specs.declared.piece.Piece.TheVariants as piece

-- the bytes of a piece
abbrev pub piece_bytes : Piece → List ℕ
piece_bytes (piece.Lent bytes) = bytes.now
piece_bytes (piece.Joined bytes) = bytes.now

-- one block that a window can hold
abbrev pub is_lent : List Range → Bool
is_lent [] = false
is_lent (r ∷ []) = nat_le (r.1 - r.0) WINDOW
is_lent (r ∷ s ∷ rs) = false
