use Rattle.std.proofs.Common.{suc, Bool, ◌&&◌, ap, ◌∙◌}
use Rattle.myi_tablestate.specs.Listed.{listed}
use Rattle.myi_tablestate.specs.Matching.{stays_below}
use Rattle.myi_ranges.specs.declared.ranges.Reached.{Reached}
use Rattle.myi_ranges.specs.Ranges.{is_left, comes}
use Rattle.myi_ranges.proofs.LeftLemmas.{all_alike}
use Rattle.myi_ranges.proofs.ranges.RangeRows.forget.Goals as goal

pub returns-clause-same : goal.returns-clause-same
returns-clause-same c = λ d rows.
    all_alike (comes (record c.args.self.now { reached = c.in_ok-reached.reached })) (comes c.args.self.now) (listed d (suc c.args.self.now.key) rows)
    (λ p. ap (λ (b : Bool). b && stays_below c.args.self.now.to p.key) (c.in_ok-reached.ensures.left p ∙ ap (λ (r : Reached). is_left r p) c.replace-before.ensures.value))
