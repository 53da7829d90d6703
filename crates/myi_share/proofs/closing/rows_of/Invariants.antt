use Rattle.std.proofs.Common.{◌≡◌, take}
use Rattle.myi_snapshots.specs.Known.{known_rows, values_of}
use Rattle.myi_share.proofs.closing.rows_of.Given as goal

abbrev pub invariant-loop-i : goal.invariant-loop-i
invariant-loop-i l = record { rows : l.rows.items ≡ values_of l.defs (take l.i (known_rows l.defs l.words)) }
