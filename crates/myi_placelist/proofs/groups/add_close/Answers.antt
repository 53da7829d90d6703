use Rattle.std.proofs.Common.{◌∙◌}
use Rattle.myi_placelist.proofs.GroupLemmas.{close_placed, close_inside}
use Rattle.myi_placelist.proofs.groups.add_close.Goals as goal

pub returns-clause-places : goal.returns-clause-places
returns-clause-places c near far =
    close_placed c.args.base c.len-start.result c.args.steps.now.items c.push_steps.new.steps.items c.args.places.now (c.len-start.ensures ∙ c.args.steps.now.ok.0) c.in_ok-push_steps.ensures.steps c.requires.whole c.requires.close

pub returns-clause-within : goal.returns-clause-within
returns-clause-within c near far =
    (close_inside c.args.base c.len-start.result c.args.steps.now.items c.push_steps.new.steps.items c.args.places.now (c.len-start.ensures ∙ c.args.steps.now.ok.0) c.in_ok-push_steps.ensures.steps c.requires.whole, c.requires.base)
