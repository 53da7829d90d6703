use Rattle.std.proofs.Common.{◌<◌, ◌^◌, ◌∙◌, sym, ap, subst}
use Rattle.std.specs.List.{AllByRecursion}
use Rattle.myi_base.proofs.CallerLemmas.{told_more}
use Rattle.myi_header.specs.Analysis.{number_bytes}
use Rattle.myi_order.specs.Numbers.{all_per}
use Rattle.myi_order.proofs.PrefixCountLaws.{on_ok_more}
use Rattle.myi_order.proofs.AnalyzeLaws.{replaces_named, stored_by}
use Rattle.myi_order.proofs.analyzing.store.Goals as goal

pub new_numbers-requires-clause-small : goal.new_numbers-requires-clause-small
new_numbers-requires-clause-small g c =
    subst (AllByRecursion (λ n. n < 256 ^ 4)) (sym (c.deref-2.ensures.value ∙ c.in_ok-parts.ensures ∙ ap all_per c.deref.ensures.value)) c.requires.small

pub returns-clause-stored : goal.returns-clause-stored
returns-clause-stored g c =
    on_ok_more c.replace_index.result _ _ (λ told. told_more _ _ _ _ told (λ m n held put.
    stored_by _ _ c.args.defs.now c.args.counted.now c.in_ok-numbers.numbers m n c.requires.sound (λ x read. c.definitions_are_sound.ensures.raw x c.args.defs.now read) c.in_ok-numbers.ensures.changed c.in_ok-numbers.ensures.place
    (c.in_ok-numbers.ensures.bytes ∙ ap (number_bytes c.args.counted.now.rows) (c.deref-2.ensures.value ∙ c.in_ok-parts.ensures ∙ ap all_per c.deref.ensures.value))
    (replaces_named c.as_str.result.now c.as_str-working.result.now _ _ c.in_ok-numbers.numbers m n c.as_str.ensures.value c.as_str-working.ensures.value put))) c.replace_index.ensures.replaced
