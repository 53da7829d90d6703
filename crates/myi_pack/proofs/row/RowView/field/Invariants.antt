use Rattle.std.proofs.Common.{◌≡◌, drop}
use Rattle.myi_pack.proofs.row.RowView.field.Given as goal

abbrev pub invariant-loop-j : goal.invariant-loop-j
invariant-loop-j l = l.fields ≡ drop l._j l.self
