-- A row that is read from the place of its first block: which row stands there, whatever stands before it, what a call answers of
-- it, and how many reads its blocks may count for.
use Rattle.std.specs.Prelude.{◌≡◌, ◌+◌, ◌/◌, ◌≤◌, ℕ, List, sum_by}
use Rattle.myi_base.specs.Holding.{Holding, bytes_of}
use Rattle.myi_pack.specs.Packed.{Values}
use Rattle.myi_dellist.specs.Areas.{Area}
use Rattle.myi_state.specs.State.{StoredRow}
use Rattle.myi_state.specs.Standing.{StandsInBlocks}
use Rattle.myi_slots.specs.SlotFile.{SlotFile}

-- this row stands in blocks of the file, the first of them at a position
abbrev pub StandsAt : SlotFile → ℕ → Holding → StoredRow → Type 0
StandsAt f at m r = (r.at ≡ at) × StandsInBlocks f.defs (bytes_of f.name m) r

-- one stands so
abbrev pub HasRow : SlotFile → ℕ → Holding → Type 0
HasRow f at m = (r : StoredRow) × StandsAt f at m r

-- none stands so
abbrev pub LacksRow : SlotFile → ℕ → Holding → Type 0
LacksRow f at m = HasRow f at m → ⊥

-- these are the values of a row that stands at a position
abbrev pub IsRowAt : SlotFile → ℕ → Values → Holding → Type 0
IsRowAt f at values m = (r : StoredRow) → StandsAt f at m r → r.values ≡ values

-- how many reads the blocks of a row may count for: each for two, and for one more for each 16,384 bytes of it
abbrev pub read_cost : List Area → ℕ
read_cost areas = sum_by (λ (a : Area). 2 + a.size / 16384) areas

-- a row at a position was read, and its blocks counted for no more reads than they may
abbrev pub ReadsFew : SlotFile → ℕ → ℕ → ℕ → Holding → Type 0
ReadsFew f at reads now m = (r : StoredRow) → StandsAt f at m r → now ≤ reads + read_cost r.blocks
