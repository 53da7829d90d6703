use Rattle.std.proofs.Common.{◌+◌, arith, sym, ap, ◌∙◌}
use Rattle.myi_chain.specs.Readable.{end_of}
use Rattle.myi_chain.specs.Used.{last_before, end_from}
use Rattle.myi_chain.proofs.UsedLemmas.{both_ends}
use Rattle.myi_chain.proofs.ranges.Ranges.end_from.Goals as goal

pub returns : goal.returns
returns c =
    let at = c.args.at in
    let u = c.self.inside in
    let e = ap (end_of at) (sym c.self.view_is) ∙ both_ends at u.near.items u.far.entries c.self.invariant.0 c.self.invariant.1 in
    let near = c.end_from-near.ensures ∙ ap (end_from at) (c.last_near.ensures ∙ ap (last_before (at + 1)) c.deref.ensures.value) in
    let far = c.end_from-far.ensures ∙ ap (end_from at) c.last_far.ensures in
    omega (arith, e, c.max.ensures, c.max-2.ensures, near, far)
