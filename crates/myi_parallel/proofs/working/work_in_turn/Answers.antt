use Rattle.std.proofs.Common.{◌∙◌}
use Rattle.myi_parallel.specs.Shares.{asked_in}
use Rattle.myi_parallel.proofs.ShareLaws.{map_put_back}
use Rattle.myi_parallel.proofs.working.work_in_turn.Goals as goal

pub loop-i-preserved : goal.loop-i-preserved
loop-i-preserved g c = map_put_back asked_in c.loop-i.shares c.loop-i.i c.index-shares-i.result c.work.new.self c.work.ensures ∙ c.loop-i.invariant
