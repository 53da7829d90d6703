use Rattle.std.proofs.Common.{arith}
use Rattle.std.specs.BTreeMap.{get}
use Rattle.std.specs.Ordering.{nat_cmp}
use Rattle.myi_dellist.proofs.HeadsLemmas.{mapped-more}
use Rattle.myi_dellist.proofs.heads.Heads.map_first.Goals as goal

pub invariant_of-self-2 : goal.invariant_of-self-2
invariant_of-self-2 c =
    mapped-more (get nat_cmp c.self.inside.by_place) (get nat_cmp c.insert.new.self) c.self.inside.mapped c.self.inside.list.items c.index-first.result.now c.self.invariant (omega (arith, c.if-len-self-lt-LATEST.false, c.len.ensures)) c.index-first.ensures c.in_ok-insert.ensures.updates.0
