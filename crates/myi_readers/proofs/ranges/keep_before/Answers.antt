use Rattle.std.proofs.Common.{◌≡◌, nat_lt, ap, ◌∙◌, rules}
use Rattle.std.proofs.lemmas.Fn.{filter_same}
use Rattle.myi_readers.specs.declared.keyed_row.KeyedRow.{KeyedRow}
use Rattle.myi_readers.proofs.ranges.keep_before.Goals as goal

pub returns : goal.returns
returns c =
    filter_same _ (λ (x : KeyedRow). nat_lt x.pair.row c.args.below) _ (λ x b f' k. let h = k.called.met in let told : b ≡ nat_lt k.shown.now.pair.row c.args.below = search rules in (told ∙ ap (λ (x : KeyedRow). nat_lt x.pair.row c.args.below) k.shows, ap (λ s. record { 0 = s }) h.1)) c.args.found.now.items _ c.retain.ensures.filtered
