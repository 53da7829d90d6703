use Rattle.std.proofs.Common.{◌≡◌, ◌++◌, ◌-◌}
use Rattle.myi_make.specs.MadeTable.{blob_bytes}
use Rattle.myi_make.proofs.rows.blob_of.Given as goal

abbrev pub invariant-loop-j : goal.invariant-loop-j
invariant-loop-j l = l.blob.items ++ blob_bytes l.x l.j (l.count - l.j) ≡ blob_bytes l.x 0 l.count
