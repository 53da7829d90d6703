use Rattle.std.proofs.Common.{◌∙◌}
use Rattle.myi_placelist.proofs.GroupLemmas.{near_placed}
use Rattle.myi_placelist.proofs.groups.add_near.Goals as goal

pub returns-clause-places : goal.returns-clause-places
returns-clause-places c steps far =
    near_placed c.args.base c.len-start.result c.args.near.now.items c.push_near.new.near.items c.args.places.now (c.len-start.ensures ∙ c.args.near.now.ok.0) c.in_ok-push_near.ensures.lows c.requires.whole c.requires.near
