-- What holds of every state that a table can be in, and what a change may bring.
use Rattle.std.specs.Prelude.{◌≡◌, ◌+◌, ◌≤◌, ℕ, true, List, [], ◌∷◌, ◌++◌, Option, Some, None}
use Rattle.std.specs.List.{AllByRecursion}
use Rattle.myi_defs.specs.declared.types.RowFormat.{RowFormat}
use Rattle.myi_defs.specs.declared.types.RowFormat.TheVariants.{Static, Dynamic}
use Rattle.myi_defs.specs.declared.types.Defs.{Defs}
use Rattle.myi_pack.specs.Packed.{Values}
use Rattle.myi_pack.specs.Spelling.{fits}
use Rattle.myi_dellist.specs.Areas.{Area, Tile}
use Rattle.myi_dellist.specs.Releasing.{IsHole, IsFreeable}
use Rattle.myi_dellist.specs.Standing.{first_or}
use Rattle.myi_state.specs.State.{StoredRow, TableState, row_areas}
use Rattle.myi_state.specs.Changes.{Change, insert, insert_at_end, delete, update}

-- the rows stand in order of their positions, no two at one, from a place on
abbrev pub AreInOrder : ℕ → List StoredRow → Type 0
AreInOrder low [] = Unit {0}
AreInOrder low (r ∷ rows) = (low ≤ r.at) × AreInOrder (r.at + 1) rows

-- an area is a slot of this size
abbrev pub IsSlot : ℕ → Area → Type 0
IsSlot size a = a.size ≡ size

-- a row of a static table has one slot
abbrev pub AreOneSlot : ℕ → List Area → Type 0
AreOneSlot size [] = ⊥
AreOneSlot size (a ∷ []) = IsSlot size a
AreOneSlot size (a ∷ b ∷ areas) = ⊥

abbrev pub AreBlocks : RowFormat → ℕ → List Area → Type 0
AreBlocks Static size areas = AreOneSlot size areas
AreBlocks Dynamic size areas = AllByRecursion IsFreeable areas

abbrev pub AreHoles : RowFormat → ℕ → List Area → Type 0
AreHoles Static size holes = AllByRecursion (IsSlot size) holes
AreHoles Dynamic size holes = AllByRecursion IsHole holes

-- a row stands where its first block does
pub record IsRow (d : Defs) (r : StoredRow) : Type 0 where
  pub place : first_or r.blocks None ≡ Some r.at
  pub blocks : AreBlocks d.format d.slot_length r.blocks

-- a state of a table: each byte of the file belongs to one block of one row or to one deleted block
pub record IsState (d : Defs) (s : TableState) : Type 0 where
  pub order : AreInOrder 0 s.rows
  pub rows : AllByRecursion (IsRow d) s.rows
  pub holes : AreHoles d.format d.slot_length s.space.holes
  pub tile : Tile s.space.end (row_areas s.rows ++ s.space.holes)

-- a row with these values is there
abbrev pub HasValues : Values → Option StoredRow → Type 0
HasValues values None = ⊥
HasValues values (Some r) = r.values ≡ values

-- a row that a change brings has the form that the definitions ask for
abbrev pub MayCome : Defs → Change → Type 0
MayCome d (insert values) = fits d values ≡ true
MayCome d (insert_at_end values) = fits d values ≡ true
MayCome d (delete at) = Unit {0}
MayCome d (update at values) = fits d values ≡ true
