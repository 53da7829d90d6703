-- Rows with their positions, and which of them stand before a place.
use Rattle.std.specs.Prelude.{◌+◌, ℕ, Bool, nat_lt, List, [], ◌∷◌, filter, unwrap_or}
use Rattle.myi_defs.specs.declared.types.Defs.{Defs}
use Rattle.myi_pack.specs.Packed.{Values}
use Rattle.myi_pack.specs.Unpacking.{row_of}
use Rattle.myi_snapshots.specs.Known.{size_of}

abbrev pub stands_before : ℕ → ℕ × Values → Bool
stands_before place row = nat_lt row.0 place

-- those that do
abbrev pub placed_before : ℕ → List (ℕ × Values) → List (ℕ × Values)
placed_before place rows = filter (stands_before place) rows

-- packed rows one after the other from a position on
abbrev pub placed_packed : Defs → ℕ → List (List ℕ) → List (ℕ × Values)
placed_packed d at [] = []
placed_packed d at (bytes ∷ packed) = (at, unwrap_or (row_of d bytes) []) ∷ placed_packed d (at + size_of d bytes) packed
