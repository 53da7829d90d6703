-- A table as its data file shows it: rows in order of their positions, and the space that no row uses.
use Rattle.std.specs.Prelude.{◌+◌, ◌==◌, ℕ, nat_lt, if◌then◌else◌, List, [], ◌∷◌, ◌++◌, Option, Some, None}
use Rattle.std.specs.List.{flat_map}
use Rattle.myi_defs.specs.declared.types.RowFormat.{RowFormat}
use Rattle.myi_defs.specs.declared.types.RowFormat.TheVariants.{Static, Dynamic}
use Rattle.myi_pack.specs.Packed.{Values}
use Rattle.myi_dellist.specs.Areas.{Area}
use Rattle.myi_dellist.specs.Placing.{Space, Placing, areas_of, place, place_at_end, update, delete}

-- a row: its position, its values, and its blocks in their order; a row of a static table has one, its slot
pub record StoredRow : Type 0 where
  pub at : ℕ
  pub values : Values
  pub blocks : List Area

-- the rows in order of their positions, and what no row uses: the deleted list from its head, and the end
pub record TableState : Type 0 where
  pub rows : List StoredRow
  pub space : Space

-- a table without rows, in a file without bytes
abbrev pub empty_table : TableState
empty_table = record { rows = []; space = record { holes = []; end = 0 } }

-- the areas of all rows
abbrev pub row_areas : List StoredRow → List Area
row_areas rows = flat_map (λ (r : StoredRow). r.blocks) rows

-- ---- rows by their positions

-- a row goes before the first that does not stand below it
abbrev pub put_row : StoredRow → List StoredRow → List StoredRow
put_row r [] = r ∷ []
put_row r (q ∷ qs) = if nat_lt q.at r.at then q ∷ put_row r qs else r ∷ q ∷ qs

-- the row at a position
abbrev pub row_at : ℕ → List StoredRow → Option StoredRow
row_at p [] = None
row_at p (q ∷ qs) = if q.at == p then Some q else row_at p qs

-- the others
abbrev pub rows_without : ℕ → List StoredRow → List StoredRow
rows_without p [] = []
rows_without p (q ∷ qs) = if q.at == p then qs else q ∷ rows_without p qs

-- ---- the space of a row

-- the blocks that a row takes, and what no row uses then
pub record Taken : Type 0 where
  pub blocks : List Area
  pub space : Space

abbrev pub taken_of : Placing → Taken
taken_of p = record { blocks = areas_of p.pieces; space = p.space }

-- a slot behind the end, whatever is deleted
abbrev pub slot_behind : ℕ → List Area → ℕ → Taken
slot_behind size holes end = record { blocks = record { at = end; size = size } ∷ []; space = record { holes = holes; end = end + size } }

-- the head of the deleted list, or a slot behind the end
abbrev pub next_slot : ℕ → List Area → ℕ → Taken
next_slot size [] end = slot_behind size [] end
next_slot size (h ∷ holes) end = record { blocks = h ∷ []; space = record { holes = holes; end = end } }

-- In a table of this format, with slots of this size if it is static: a new row of so many packed bytes
abbrev pub take_next : RowFormat → ℕ → Space → ℕ → Taken
take_next Static size s len = next_slot size s.holes s.end
take_next Dynamic size s len = taken_of (place s [] len)

-- the same behind the end, whatever is deleted
abbrev pub take_behind : RowFormat → ℕ → Space → ℕ → Taken
take_behind Static size s len = slot_behind size s.holes s.end
take_behind Dynamic size s len = taken_of (place_at_end s len)

-- a row in place of one that has these blocks
abbrev pub take_again : RowFormat → Space → List Area → ℕ → Taken
take_again Static s own len = record { blocks = own; space = s }
take_again Dynamic s own len = taken_of (update s own len)

-- The blocks of a row that goes: a slot becomes the head of the deleted list, blocks are released from the first to the last.
abbrev pub give_back : RowFormat → Space → List Area → Space
give_back Static s own = record { holes = own ++ s.holes; end = s.end }
give_back Dynamic s own = delete s own
