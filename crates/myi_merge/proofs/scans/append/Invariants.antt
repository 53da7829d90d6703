use Rattle.std.proofs.Common.{◌≡◌, ◌++◌, map}
use Rattle.myi_merge.proofs.scans.append.Given as goal

abbrev pub invariant-loop-at : goal.invariant-loop-at
invariant-loop-at l = l.found.items ≡ l.fn.found.items ++ map (λ r. (l.number, r.0, r.1)) l.yielded
