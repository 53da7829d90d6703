-- Reading a table for a statement: how its refusals are told.
use Rattle.myi_table.specs.declared.fault.ReadFault.{ReadFault}
use Rattle.myi_table.specs.declared.fault.ReadFault.TheVariants as reading
use Rattle.myi_shell.specs.declared.fault.ShellFault.{ShellFault}
use Rattle.myi_shell.specs.declared.fault.ShellFault.TheVariants as fault

-- a table that is not broken is not refused so
abbrev pub of_reading : ReadFault → ShellFault
of_reading (reading.Broken by) = fault.Memory
of_reading (reading.Damaged at) = fault.Damaged at
of_reading reading.File = fault.File
of_reading reading.Memory = fault.Memory
