use Rattle.std.proofs.Common.{◌∙◌}
use Rattle.myi_parallel.specs.KeyTrees.{asked_of}
use Rattle.myi_parallel.proofs.ShareLaws.{map_put_back}
use Rattle.myi_parallel.proofs.working.lay_trees.Goals as goal

pub loop-i-preserved : goal.loop-i-preserved
loop-i-preserved g c = map_put_back asked_of c.loop-i.trees c.loop-i.i c.index-trees-i-in-loop-i.result c.lay.new.self c.lay.ensures ∙ c.loop-i.invariant
