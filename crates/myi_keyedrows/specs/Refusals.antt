-- Why a change is refused, over any files: what holds where the answer says that no row stands at a position, that another row has
-- the key, or that there is no room.
use Rattle.std.specs.Prelude.{◌≡◌, ℕ, Bool, true, false, List, Option}
use Rattle.myi_base.specs.Holding.{Holding}
use Rattle.myi_pack.specs.Packed.{Values}
use Rattle.myi_slots.specs.SlotFile.{SlotFile}
use Rattle.myi_rows.specs.Refusals.{FindsNone, LacksRoom, LacksEnd}
use Rattle.myi_keyedrows.specs.declared.fault.KeyedFault.{KeyedFault}
use Rattle.myi_keyedrows.specs.declared.fault.KeyedFault.TheVariants as fault

-- The refusal that no row stands at a position, that another row has the key of a number, or that there is no room comes only where
-- this holds, one for each; of the others nothing is said here.
abbrev pub ByCause : (ℕ → Type 0) → (ℕ → Type 0) → Type 0 → KeyedFault → Type 0
ByCause none held full (fault.NoRow p) = none p
ByCause none held full (fault.Duplicate key p) = held key
ByCause none held full fault.Full = full
ByCause none held full (fault.Damaged p) = Unit {0}
ByCause none held full fault.File = Unit {0}
ByCause none held full fault.Memory = Unit {0}

-- the position is the one that was asked for, and no row was found there
abbrev pub FindsNoneAt : SlotFile → Option (List ℕ) → ℕ → Option Holding → ℕ → Type 0
FindsNoneAt f places at h p = (p ≡ at) × FindsNone f places at h

-- a new row has no room, behind the end or where it goes
abbrev pub LacksPlace : Bool → SlotFile → Values → Option Holding → Type 0
LacksPlace true f values h = LacksEnd f values
LacksPlace false f values h = LacksRoom f values h
