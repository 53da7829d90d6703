use Rattle.std.proofs.Common.{◌≡◌, ◌≤◌, ◌++◌, List, length}
use Rattle.indexmap.specs.IndexMap.{spare}
use Rattle.myi_inserter.specs.declared.unique_key.UniqueKey.{UniqueKey}
use Rattle.myi_inserter.specs.Putting.{FindsMore}
use Rattle.myi_inserter.proofs.put_keys.put_keys.Given as goal

-- the keys behind those that are left are noted, and for these there is room
abbrev pub invariant-loop-key : goal.invariant-loop-key
invariant-loop-key l = (done : List UniqueKey) × (l.fn.keys.items ≡ l.left.items ++ done) × FindsMore l.fn.put l.put done l.fn.at × (length l.left.items ≤ spare l.put)

abbrev pub decreases-loop-key : goal.decreases-loop-key
decreases-loop-key l = goal.left-loop-key l
