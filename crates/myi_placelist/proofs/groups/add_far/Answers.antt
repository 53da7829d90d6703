use Rattle.std.proofs.Common.{◌∙◌}
use Rattle.myi_placelist.proofs.GroupLemmas.{far_placed}
use Rattle.myi_placelist.proofs.groups.add_far.Goals as goal

pub returns-clause-places : goal.returns-clause-places
returns-clause-places c steps near =
    far_placed c.len-start.result c.args.far.now.items c.extend_from_slice.new.self.items c.args.places.now (c.len-start.ensures ∙ c.args.far.now.ok.0) c.in_ok-extend_from_slice.ensures.items c.requires
