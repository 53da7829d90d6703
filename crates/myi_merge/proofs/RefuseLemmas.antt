-- A reading that is refused at once, for the first broken table.
use Rattle.std.proofs.Common.{ℕ, List, Option, Err, arith}
use Rattle.myi_base.specs.Holding.{Holding}
use Rattle.myi_base.specs.Causes.{HasCause}
use Rattle.myi_table.specs.declared.fault.ReadFault.{ReadFault}
use Rattle.myi_table.specs.declared.fault.ReadFault.TheVariants as fault
use Rattle.myi_table.specs.Faults.{NeverDamaged}
use Rattle.myi_table.specs.Table.{OpenTable}
use Rattle.myi_merge.specs.Merged.{IsRefusedFor}
use Rattle.myi_merge.specs.Merging.{IsFirstBroken}
use Rattle.myi_merge.specs.Reading.{NotDamaged}

pub refused_first : (ts : List OpenTable) (f : ReadFault) → IsFirstBroken ts f → IsRefusedFor ts f
refused_first ts (fault.Broken by) first = first
refused_first ts (fault.Damaged at) first = elim first [ ]
refused_first ts fault.File first = elim first [ ]
refused_first ts fault.Memory first = elim first [ ]

pub whole_first : (ts : List OpenTable) (f : ReadFault) → IsFirstBroken ts f → NotDamaged f
whole_first ts (fault.Broken by) first = tt
whole_first ts (fault.Damaged at) first = elim first [ ]
whole_first ts fault.File first = elim first [ ]
whole_first ts fault.Memory first = elim first [ ]

pub never_first : (told : Option Holding) (ts : List OpenTable) (f : ReadFault) → IsFirstBroken ts f → NeverDamaged told f
never_first told ts (fault.Broken by) first = tt
never_first told ts (fault.Damaged at) first = elim first [ ]
never_first told ts fault.File first = elim first [ ]
never_first told ts fault.Memory first = elim first [ ]

pub cause_first : {T : Type 0} (ts : List OpenTable) (f : ReadFault) (count : ℕ) → IsFirstBroken ts f → HasCause {T = T} fault.File count count (Err f)
cause_first ts (fault.Broken by) count first = record { later = omega arith; cause = λ is. absurd cc }
cause_first ts (fault.Damaged at) count first = elim first [ ]
cause_first ts fault.File count first = elim first [ ]
cause_first ts fault.Memory count first = elim first [ ]
