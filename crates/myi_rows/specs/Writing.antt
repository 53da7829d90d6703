-- Where a new row is put, and which bytes a change of a data file writes, by the format: exactly these. In a static file a row's slot,
-- or what a deleted slot begins with; in a dynamic one the blocks of a row and the headers of deleted blocks.
use Rattle.std.specs.Prelude.{◌≡◌, ℕ, Option, MatchOption}
use Rattle.myi_base.specs.Holding.{Holding, IfTold, Told, Writes}
use Rattle.myi_defs.specs.declared.types.RowFormat.{RowFormat}
use Rattle.myi_defs.specs.declared.types.RowFormat.TheVariants.{Static, Dynamic}
use Rattle.myi_pack.specs.Packed.{Values}
use Rattle.myi_pack.specs.Spelling.{spelling}
use Rattle.myi_slots.specs.SlotBytes.{hole_bytes}
use Rattle.myi_slots.specs.SlotFile.{SlotFile, Fills, appended}
use Rattle.myi_dellist.specs.Rows as list
use Rattle.myi_blocks.specs.BlockFile as blocks

-- a new row takes a new slot behind the end or the first deleted one, or blocks from the head of the deleted list on and behind the
-- end; the numbers are those then
abbrev pub PutsNewBy : RowFormat → SlotFile → SlotFile → Values → ℕ → Option Holding → Option Holding → Type 0
PutsNewBy Static f g values at h i = MatchOption f.counts.dellink (g ≡ appended f) (λ p. IfTold h (Fills f g p))
PutsNewBy Dynamic f g values at h i = Told h i (list.PutsNew (blocks.list_in f) (blocks.list_in g) (spelling f.defs values) at)

abbrev pub PutsNew : SlotFile → SlotFile → Values → ℕ → Option Holding → Option Holding → Type 0
PutsNew f g values at h i = PutsNewBy f.defs.format f g values at h i

-- a new row, where it is to go
abbrev pub WritesNewBy : RowFormat → SlotFile → SlotFile → Values → ℕ → Holding → Holding → Type 0
WritesNewBy Static f g values at m n = Writes f.name at (spelling f.defs values) m n
WritesNewBy Dynamic f g values at m n = blocks.WritesNew f g values m n

abbrev pub WritesNew : SlotFile → SlotFile → Values → ℕ → Holding → Holding → Type 0
WritesNew f g values at m n = WritesNewBy f.defs.format f g values at m n

-- the row at a position is deleted
abbrev pub WritesGoneBy : RowFormat → SlotFile → SlotFile → ℕ → Holding → Holding → Type 0
WritesGoneBy Static f g at m n = Writes f.name at (hole_bytes f.defs.slot_length f.defs.rec_ref f.counts.dellink) m n
WritesGoneBy Dynamic f g at m n = blocks.WritesGone f g at m n

abbrev pub WritesGone : SlotFile → SlotFile → ℕ → Holding → Holding → Type 0
WritesGone f g at m n = WritesGoneBy f.defs.format f g at m n

-- other values are put in its place
abbrev pub WritesOtherBy : RowFormat → SlotFile → SlotFile → ℕ → Values → Holding → Holding → Type 0
WritesOtherBy Static f g at values m n = Writes f.name at (spelling f.defs values) m n
WritesOtherBy Dynamic f g at values m n = blocks.WritesOther f g at values m n

abbrev pub WritesOther : SlotFile → SlotFile → ℕ → Values → Holding → Holding → Type 0
WritesOther f g at values m n = WritesOtherBy f.defs.format f g at values m n
