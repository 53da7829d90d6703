use Rattle.std.proofs.Common.{◌≡◌, None}
use Rattle.std.specs.Prelude.{IfSome}
use Rattle.myi_merge.proofs.LeastLemmas.{LeastOf, NoneOf}
use Rattle.myi_merge.proofs.ranges.least.Given as goal

abbrev pub invariant-loop-index : goal.invariant-loop-index
invariant-loop-index l = record {
  found : IfSome l.least (λ best. LeastOf l.readings l.index best);
  none : l.least ≡ None → NoneOf l.readings l.index;
}
