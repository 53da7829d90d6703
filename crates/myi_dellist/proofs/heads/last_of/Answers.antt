use Rattle.std.proofs.Common.{◌∙◌, arith}
use Rattle.myi_dellist.proofs.HeadsLemmas.{planned-same, planned-other}
use Rattle.myi_dellist.proofs.PlanningLemmas.{not_same}
use Rattle.myi_dellist.proofs.heads.last_of.Goals as goal

pub loop-head-preserved-then-head-at : goal.loop-head-preserved-then-head-at
loop-head-preserved-then-head-at c =
    planned-same c.in-Some.head.now c.loop-head.left.now c.in-Some.behind.now c.loop-head.found c.args.at (omega (arith, c.if-head-at.true)) c.in-Some.ensures.cases.0 ∙ c.loop-head.invariant

pub loop-head-preserved : goal.loop-head-preserved
loop-head-preserved c =
    planned-other c.in-Some.head.now c.loop-head.left.now c.in-Some.behind.now c.loop-head.found c.args.at (not_same c.in-Some.head.now.at c.args.at c.if-head-at.false) c.in-Some.ensures.cases.0 ∙ c.loop-head.invariant
