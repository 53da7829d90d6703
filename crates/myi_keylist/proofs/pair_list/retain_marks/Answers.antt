use Rattle.std.proofs.Common.{◌≡◌, ap, ◌∙◌, rules}
use Rattle.std.proofs.lemmas.Fn.{filter_same}
use Rattle.myi_keylist.specs.PairLists.{is_flagged}
use Rattle.myi_keylist.proofs.pair_list.retain_marks.Goals as goal

pub returns : goal.returns
returns c = filter_same _ (is_flagged c.args.flags.now) _ (λ x b f' k. let h = k.called.met in let told : b ≡ is_flagged c.args.flags.now k.shown.now = search rules in (told ∙ ap (is_flagged c.args.flags.now) k.shows, ap (λ s. record { 0 = s }) h.1)) c.args.marks.now.items _ c.retain.ensures.filtered
