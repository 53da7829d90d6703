use Rattle.std.proofs.Common.{ap, ◌∙◌}
use Rattle.std.specs.List.{filter}
use Rattle.myi_keylist.specs.Columns.{has_flag}
use Rattle.myi_keylist.proofs.PointLaws.{all_left, pairs_kept}
use Rattle.myi_keylist.proofs.pair_list.PairList.retain.Goals as goal

pub invariant_of-self : goal.invariant_of-self
invariant_of-self c = all_left c.args.flags.now c.self.inside.codes.items c.self.inside.marks.items _ c.retain_marks.ensures c.self.invariant

pub returns : goal.returns
returns c = pairs_kept c.args.flags.now c.self.inside.codes.items c.self.inside.marks.items _ c.retain_marks.ensures ∙ ap (filter (has_flag c.args.flags.now)) c.self.view_is
