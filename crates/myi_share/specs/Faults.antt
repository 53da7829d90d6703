-- How the refusals of the calls below are told.
use Rattle.myi_table.specs.declared.fault.ChangeFault.{ChangeFault}
use Rattle.myi_table.specs.declared.fault.ChangeFault.TheVariants as change
use Rattle.myi_share.specs.declared.fault.ShareFault.{ShareFault}
use Rattle.myi_share.specs.declared.fault.ShareFault.TheVariants.{File, Memory}

-- a flush is refused for a failed file call or for want of memory
abbrev pub of_change : ChangeFault → ShareFault
of_change (change.Broken by) = Memory
of_change (change.NoRow at) = Memory
of_change (change.Duplicate key at) = Memory
of_change change.Full = Memory
of_change (change.Damaged at) = Memory
of_change change.File = File
of_change change.Memory = Memory
