-- Why a call on a data file that changes is refused, by the format, over any files. A static file is asked of its slots; a dynamic
-- one of the positions that are noted then, and of the blocks that are read.
use Rattle.std.specs.Prelude.{◌≡◌, ◌⊎◌, ℕ, true, false, List, length, Option, Some}
use Rattle.myi_base.specs.Holding.{Holding, IfTold}
use Rattle.myi_defs.specs.declared.types.RowFormat.{RowFormat}
use Rattle.myi_defs.specs.declared.types.RowFormat.TheVariants.{Static, Dynamic}
use Rattle.myi_pack.specs.Packed.{Values}
use Rattle.myi_pack.specs.Spelling.{spelling}
use Rattle.myi_slots.specs.SlotFile as slots
use Rattle.myi_slots.specs.SlotFile.{SlotFile, is_reached}
use Rattle.myi_blocks.specs.BlockFile as blocks
use Rattle.myi_blocks.specs.Places.{NotedFile, HasNoted, Forgets}
use Rattle.myi_blocks.specs.RowReading as dynamic

-- how many bytes the spelling of a row has
abbrev pub row_length : SlotFile → Values → ℕ
row_length f values = length (spelling f.defs values)

-- row pointers do not reach the whole file as it is
abbrev pub IsPastReach : SlotFile → Type 0
IsPastReach f = is_reached f.counts.length f ≡ false

-- ---- whether a row stands at a position

-- one was found there
abbrev pub FindsRowBy : RowFormat → SlotFile → Option (List ℕ) → ℕ → Option Holding → Type 0
FindsRowBy Static f places at h = IfTold h (slots.HasRow f at)
FindsRowBy Dynamic f places at h = HasNoted at true places

abbrev pub FindsRow : SlotFile → Option (List ℕ) → ℕ → Option Holding → Type 0
FindsRow f places at h = FindsRowBy f.defs.format f places at h

-- none was found there
abbrev pub FindsNoneBy : RowFormat → SlotFile → Option (List ℕ) → ℕ → Option Holding → Type 0
FindsNoneBy Static f places at h = IfTold h (slots.LacksRow f at)
FindsNoneBy Dynamic f places at h = HasNoted at false places

abbrev pub FindsNone : SlotFile → Option (List ℕ) → ℕ → Option Holding → Type 0
FindsNone f places at h = FindsNoneBy f.defs.format f places at h

-- one was found there that is noted no more
abbrev pub TakesAwayBy : RowFormat → NotedFile → NotedFile → ℕ → Option Holding → Type 0
TakesAwayBy Static f g at h = IfTold h (slots.HasRow f.file at)
TakesAwayBy Dynamic f g at h = Forgets h at f g

abbrev pub TakesAway : NotedFile → NotedFile → ℕ → Option Holding → Type 0
TakesAway f g at h = TakesAwayBy f.file.defs.format f g at h

-- ---- no room

-- row pointers would not reach the whole file with a new row
abbrev pub LacksRoomBy : RowFormat → SlotFile → Values → Option Holding → Type 0
LacksRoomBy Static f values h = is_reached (slots.end_with f) f ≡ false
LacksRoomBy Dynamic f values h = IsPastReach f ⊎ IfTold h (blocks.LacksRoom f (row_length f values))

abbrev pub LacksRoom : SlotFile → Values → Option Holding → Type 0
LacksRoom f values h = LacksRoomBy f.defs.format f values h

-- with one behind the end
abbrev pub LacksEndBy : RowFormat → SlotFile → Values → Type 0
LacksEndBy Static f values = is_reached (slots.end_behind f) f ≡ false
LacksEndBy Dynamic f values = is_reached (blocks.end_with f (row_length f values)) f ≡ false

abbrev pub LacksEnd : SlotFile → Values → Type 0
LacksEnd f values = LacksEndBy f.defs.format f values

-- with another one in a row's place
abbrev pub LacksOtherBy : RowFormat → SlotFile → Option (List ℕ) → ℕ → Values → Option Holding → Type 0
LacksOtherBy Static f places at values h = IsPastReach f
LacksOtherBy Dynamic f places at values h = HasNoted at true places × (IsPastReach f ⊎ IfTold h (blocks.LacksOtherRoom f at (row_length f values)))

abbrev pub LacksOther : SlotFile → Option (List ℕ) → ℕ → Values → Option Holding → Type 0
LacksOther f places at values h = LacksOtherBy f.defs.format f places at values h

-- without a row that was found
abbrev pub LacksReachBy : RowFormat → SlotFile → Option (List ℕ) → ℕ → Type 0
LacksReachBy Static f places at = IsPastReach f
LacksReachBy Dynamic f places at = HasNoted at true places × IsPastReach f

abbrev pub LacksReach : SlotFile → Option (List ℕ) → ℕ → Type 0
LacksReach f places at = LacksReachBy f.defs.format f places at

-- ---- what stands at a place is not what a row or the deleted list needs there

-- for a new row
abbrev pub FindsBadBy : RowFormat → SlotFile → Values → Option Holding → ℕ → Type 0
FindsBadBy Static f values h p = (f.counts.dellink ≡ Some p) × IfTold h (slots.LacksHole f p)
FindsBadBy Dynamic f values h p = IfTold h (blocks.FindsBad f (row_length f values) p)

abbrev pub FindsBad : SlotFile → Values → Option Holding → ℕ → Type 0
FindsBad f values h p = FindsBadBy f.defs.format f values h p

-- for another one in a row's place
abbrev pub FindsOtherBadBy : RowFormat → SlotFile → Option (List ℕ) → ℕ → Values → Option Holding → ℕ → Type 0
FindsOtherBadBy Static f places at values h p = ⊥
FindsOtherBadBy Dynamic f places at values h p = HasNoted at true places × IfTold h (blocks.FindsOtherBad f at (row_length f values) p)

abbrev pub FindsOtherBad : SlotFile → Option (List ℕ) → ℕ → Values → Option Holding → ℕ → Type 0
FindsOtherBad f places at values h p = FindsOtherBadBy f.defs.format f places at values h p

-- for the release of a row
abbrev pub FindsRowBadBy : RowFormat → SlotFile → Option (List ℕ) → ℕ → Option Holding → ℕ → Type 0
FindsRowBadBy Static f places at h p = slots.LacksFirst f p
FindsRowBadBy Dynamic f places at h p = HasNoted at true places × IfTold h (blocks.FindsRowBad f at p)

abbrev pub FindsRowBad : SlotFile → Option (List ℕ) → ℕ → Option Holding → ℕ → Type 0
FindsRowBad f places at h p = FindsRowBadBy f.defs.format f places at h p

-- for a row that is read: its position is noted, and no row stands in blocks there
abbrev pub ReadsBadBy : RowFormat → SlotFile → Option (List ℕ) → ℕ → Option Holding → Type 0
ReadsBadBy Static f places at h = ⊥
ReadsBadBy Dynamic f places at h = HasNoted at true places × IfTold h (dynamic.LacksRow f at)

abbrev pub ReadsBad : SlotFile → Option (List ℕ) → ℕ → Option Holding → Type 0
ReadsBad f places at h = ReadsBadBy f.defs.format f places at h
