use Rattle.std.proofs.Common.{length}
use Rattle.std.specs.List.{AllByRecursion}
use Rattle.myi_chain.specs.Chain.{ranges_at}
use Rattle.myi_chain.specs.Used.{AreInOrder, SameFrom, IsRange}
use Rattle.myi_chain.proofs.joins.join_blocks.Given as goal

abbrev pub invariant-loop-first : goal.invariant-loop-first
invariant-loop-first l = record {
  order : AreInOrder 0 l.far.entries;
  same : SameFrom l.place l.far.entries l.fn.far.entries;
  some : AllByRecursion IsRange (ranges_at l.rest);
}

abbrev pub decreases-loop-first : goal.decreases-loop-first
decreases-loop-first l = length l.rest
