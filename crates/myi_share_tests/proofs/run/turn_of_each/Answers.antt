use Rattle.std.proofs.Common.{◌∙◌}
use Rattle.myi_share_tests.specs.Jobs.{part_of}
use Rattle.myi_share_tests.proofs.Parts.{map_put_back}
use Rattle.myi_share_tests.proofs.run.turn_of_each.Goals as goal

pub loop-i-preserved : goal.loop-i-preserved
loop-i-preserved c =
    map_put_back part_of c.loop-i.jobs c.loop-i.i c.index-jobs-i.result c.turn-turned.new.self c.turn-turned.ensures ∙ c.loop-i.invariant
