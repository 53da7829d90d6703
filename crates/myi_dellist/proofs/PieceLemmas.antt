-- Blocks of a row as they are planned.
use Rattle.std.proofs.Common.{◌≡◌, List, [], ◌∷◌, length, refl, arith}
use Rattle.myi_dellist.specs.declared.pieces.Piece.{Piece}
use Rattle.myi_dellist.specs.Placing.{sizes_of}

-- no blocks have no bytes
pub none-sized : (ps : List Piece) → length ps ≡ 0 → sizes_of ps ≡ 0
none-sized [] e = refl
none-sized (p ∷ ps) e = absurd (omega (arith, e))
