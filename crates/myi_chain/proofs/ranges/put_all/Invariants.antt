use Rattle.std.proofs.Common.{take, drop}
use Rattle.std.specs.List.{AllByRecursion}
use Rattle.myi_chain.specs.Used.{IsRange}
use Rattle.myi_chain.specs.Chain.{ranges_at}
use Rattle.myi_chain.proofs.MapLemmas.{IsOn}
use Rattle.myi_chain.proofs.ranges.put_all.Given as goal

abbrev pub invariant-loop-i : goal.invariant-loop-i
invariant-loop-i l = record {
  on : IsOn l.initial.far.entries (ranges_at l.blocks) l.far.entries (ranges_at (take l.i l.blocks)) (ranges_at (drop l.i l.blocks));
  some : AllByRecursion IsRange (ranges_at (drop l.i l.blocks));
}
