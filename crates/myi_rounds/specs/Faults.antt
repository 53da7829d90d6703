-- How the refusals of a round are told.
use Rattle.myi_share.specs.declared.fault.ShareFault.{ShareFault}
use Rattle.myi_share.specs.declared.fault.ShareFault.TheVariants as share
use Rattle.myi_table.specs.declared.fault.ChangeFault.{ChangeFault}
use Rattle.myi_table.specs.declared.fault.ChangeFault.TheVariants as change
use Rattle.myi_rounds.specs.declared.fault.RoundFault.{RoundFault}
use Rattle.myi_rounds.specs.declared.fault.RoundFault.TheVariants.{Damaged, File, Memory}

abbrev pub of_share : ShareFault → RoundFault
of_share share.File = File
of_share share.Memory = Memory

-- a row that was accepted, and is not when it is put, is damage
abbrev pub of_change : ChangeFault → RoundFault
of_change (change.Broken by) = Memory
of_change (change.NoRow at) = Damaged at
of_change (change.Duplicate key at) = Damaged at
of_change change.Full = Memory
of_change (change.Damaged at) = Damaged at
of_change change.File = File
of_change change.Memory = Memory

-- a round is cut off for a failed file call, or for want of memory
abbrev pub CutsOff : RoundFault → Type 0
CutsOff (Damaged at) = ⊥
CutsOff File = Unit {0}
CutsOff Memory = Unit {0}
