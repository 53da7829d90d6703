-- How the refusals of the calls below are told, and what they leave.
use Rattle.std.specs.Prelude.{◌≡◌, ◌-◌, ◌^◌, ℕ, min, Option, Some, None, Result, Ok, Err}
use Rattle.myi_base.specs.Holding.{Holding}
use Rattle.myi_defs.specs.declared.types.DefFault.TheVariants as defs
use Rattle.myi_header.specs.declared.state.StateFault.{StateFault}
use Rattle.myi_header.specs.declared.state.StateFault.TheVariants as state
use Rattle.myi_opening.specs.declared.fault.TableFault.{TableFault}
use Rattle.myi_opening.specs.declared.fault.TableFault.TheVariants as opening
use Rattle.myi_btree.specs.declared.fault.TreeFault.{TreeFault}
use Rattle.myi_btree.specs.declared.fault.TreeFault.TheVariants as tree
use Rattle.myi_chain.specs.declared.piece.ScanFault.{ScanFault}
use Rattle.myi_chain.specs.declared.piece.ScanFault.TheVariants as scan
use Rattle.myi_slots.specs.declared.fault.DataFault.TheVariants as data_of
use Rattle.myi_ranges.specs.declared.fault.RangeFault.{RangeFault}
use Rattle.myi_ranges.specs.declared.fault.RangeFault.TheVariants as range
use Rattle.myi_keyedrows.specs.declared.fault.KeyedFault.{KeyedFault}
use Rattle.myi_keyedrows.specs.declared.fault.KeyedFault.TheVariants as keyed
use Rattle.myi_table.specs.declared.fault.LoadFault.{LoadFault}
use Rattle.myi_table.specs.declared.fault.LoadFault.TheVariants as load
use Rattle.myi_table.specs.declared.fault.Cause.{Cause}
use Rattle.myi_table.specs.declared.fault.Cause.TheVariants as cause
use Rattle.myi_table.specs.declared.fault.ChangeFault.{ChangeFault}
use Rattle.myi_table.specs.declared.fault.ChangeFault.TheVariants as change
use Rattle.myi_table.specs.declared.fault.ReadFault.{ReadFault}
use Rattle.myi_table.specs.declared.fault.ReadFault.TheVariants as reading

-- ---- loading

abbrev pub of_opening : TableFault → LoadFault
of_opening (opening.Absent file) = load.Absent file
of_opening (opening.Def fault) = load.Def fault
of_opening opening.File = load.File
of_opening opening.Memory = load.Memory

abbrev pub of_state : StateFault → LoadFault
of_state state.Short = load.Def defs.Short
of_state state.Foreign = load.Foreign
of_state state.Memory = load.Memory

-- ---- changes

abbrev pub of_rows : KeyedFault → ChangeFault
of_rows (keyed.Duplicate key at) = change.Duplicate key at
of_rows (keyed.NoRow at) = change.NoRow at
of_rows keyed.Full = change.Full
of_rows (keyed.Damaged at) = change.Damaged at
of_rows keyed.File = change.File
of_rows keyed.Memory = change.Memory

abbrev pub of_trees : TreeFault → ChangeFault
of_trees (tree.Damaged at) = change.Damaged at
of_trees tree.File = change.File
of_trees tree.Memory = change.Memory

-- a call was cut off by a failed file call or for want of memory
abbrev pub CutsOff : ChangeFault → Type 0
CutsOff (change.Broken by) = ⊥
CutsOff (change.NoRow at) = ⊥
CutsOff (change.Duplicate key at) = ⊥
CutsOff change.Full = ⊥
CutsOff (change.Damaged at) = ⊥
CutsOff change.File = Unit {0}
CutsOff change.Memory = Unit {0}

-- the count of faults as an object on files answers it
abbrev pub fault_count : ℕ → ℕ
fault_count faults = min faults (2 ^ 64 - 1)

-- by the fault, the count then, and why it was broken before
abbrev pub broken_by_fault : ChangeFault → ℕ → Option Cause → Option Cause
broken_by_fault (change.Broken by) count before = before
broken_by_fault (change.NoRow at) count before = before
broken_by_fault (change.Duplicate key at) count before = before
broken_by_fault change.Full count before = before
broken_by_fault (change.Damaged at) count before = before
broken_by_fault change.File count before = Some (cause.File count)
broken_by_fault change.Memory count before = Some cause.Memory

-- why a table is broken after a change with this answer: as before, but where the change was cut off for that, with the count of
-- faults of that moment
abbrev pub broken_after : {T : Type 0} → Result T ChangeFault → ℕ → Option Cause → Option Cause
broken_after (Ok done) faults before = before
broken_after (Err fault) faults before = broken_by_fault fault (fault_count faults) before

-- ---- readings

abbrev pub of_range : RangeFault → ReadFault
of_range (range.Index (tree.Damaged at)) = reading.Damaged at
of_range (range.Index tree.File) = reading.File
of_range (range.Index tree.Memory) = reading.Memory
of_range (range.Data (data_of.NoRow at)) = reading.Damaged at
of_range (range.Data data_of.Full) = reading.Memory
of_range (range.Data (data_of.Damaged at)) = reading.Damaged at
of_range (range.Data data_of.File) = reading.File
of_range (range.Data data_of.Memory) = reading.Memory

abbrev pub of_scan : ScanFault → ReadFault
of_scan scan.File = reading.File
of_scan scan.Memory = reading.Memory

-- a reading is refused for damage only where files tell nothing
abbrev pub NeverDamaged : Option Holding → ReadFault → Type 0
NeverDamaged told (reading.Broken by) = Unit {0}
NeverDamaged told (reading.Damaged at) = told ≡ None
NeverDamaged told reading.File = Unit {0}
NeverDamaged told reading.Memory = Unit {0}

-- the table is broken for this cause, or not broken where something else is told
abbrev pub IsBrokenFor : Option Cause → ReadFault → Type 0
IsBrokenFor broken (reading.Broken by) = broken ≡ Some by
IsBrokenFor broken (reading.Damaged at) = broken ≡ None
IsBrokenFor broken reading.File = broken ≡ None
IsBrokenFor broken reading.Memory = broken ≡ None

-- a scan is refused for what broke the table, or where it is not broken for a failed file call or want of memory
abbrev pub ScanIsRefused : Option Cause → ReadFault → Type 0
ScanIsRefused broken (reading.Broken by) = broken ≡ Some by
ScanIsRefused broken (reading.Damaged at) = ⊥
ScanIsRefused broken reading.File = broken ≡ None
ScanIsRefused broken reading.Memory = broken ≡ None
