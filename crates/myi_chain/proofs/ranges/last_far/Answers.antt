use Rattle.std.proofs.Common.{◌≡◌, ap, sym, ◌∙◌}
use Rattle.std.specs.Prelude.{nat_lt, filter}
use Rattle.myi_base.specs.Ranges.{Range}
use Rattle.myi_chain.specs.Used.{last_of}
use Rattle.myi_chain.proofs.MapLemmas.{last_of-push, filter-same, before_end}
use Rattle.myi_chain.proofs.ranges.last_far.Goals as goal

pub returns-in-Some : goal.returns-in-Some
returns-in-Some c =
    let e : c.range.result ≡ filter (λ (r : Range). nat_lt r.0 c.args.end) c.args.far.now.entries = c.range.ensures.between tt ∙ filter-same _ _ (λ r. before_end c.args.end r.0) c.args.far.now.entries in
    sym (ap last_of (sym e ∙ c.in-Some.ensures.steps) ∙ last_of-push c.next_back.new.self (c.in-Some.from.now, c.in-Some.to.now))

pub returns-in-None : goal.returns-in-None
returns-in-None c =
    let e : c.range.result ≡ filter (λ (r : Range). nat_lt r.0 c.args.end) c.args.far.now.entries = c.range.ensures.between tt ∙ filter-same _ _ (λ r. before_end c.args.end r.0) c.args.far.now.entries in
    sym (ap last_of (sym e ∙ c.in-None.ensures.steps.0))
