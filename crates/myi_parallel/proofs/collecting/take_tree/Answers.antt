use Rattle.std.proofs.Common.{◌∙◌, ap, get_or}
use Rattle.std.proofs.Math.Seq.{map-set_same}
use Rattle.myi_parallel.specs.KeyTrees.{asked_of}
use Rattle.myi_parallel.specs.Shares.{asked_in}
use Rattle.myi_parallel.proofs.collecting.take_tree.Goals as goal

pub returns-clause-same : goal.returns-clause-same
returns-clause-same c =
    let own = get_or c.args.shares.now c.args.turn c.index-shares-turn.result in
    map-set_same asked_in c.args.shares.now c.args.turn _ c.index-shares-turn.result
    (map-set_same asked_of own.trees.items c.args.round c.take.new.self c.index_mut.result.now (c.take.ensures.same ∙ ap asked_of c.index_mut.ensures.value))
