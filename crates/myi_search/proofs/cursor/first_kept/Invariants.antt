use Rattle.std.proofs.Common.{◌≡◌, drop}
use Rattle.myi_search.specs.Passing.{passes}
use Rattle.myi_search.specs.Cursor.{from_kept}
use Rattle.myi_search.proofs.cursor.first_kept.Given as goal

abbrev pub invariant-loop-i : goal.invariant-loop-i
invariant-loop-i l = from_kept (passes l.bound) l.pairs ≡ from_kept (passes l.bound) (drop l.i l.pairs)
