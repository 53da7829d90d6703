use Rattle.std.proofs.Common.{◌≡◌, length, false, ap, ◌∙◌, arith}
use Rattle.std.proofs.lemmas.List.{length-append}
use Rattle.std.proofs.lemmas.Option.{same_Some}
use Rattle.myi_keypage.specs.Page.{packed_bytes}
use Rattle.myi_keypage.specs.PageItems.{item_at}
use Rattle.myi_keypage.proofs.ShiftLaws.{leaf_item}
use Rattle.myi_keypage.proofs.shift.entry_size.Goals as goal

pub returns-in-Some-clause-value : goal.returns-in-Some-clause-value
returns-in-Some-clause-value c = λ prefix row rest more small short fits is.
    let there = leaf_item c.args.rec_ref prefix row rest more small short fits in
    let read = c.in-Some.ensures ∙ ap (item_at false c.args.rec_ref) is ∙ there in
    let left : c.in-Some.rest.now ≡ more = ap (λ x. x.1) (same_Some _ _ read) in
    omega (arith, c.saturating_sub.ensures, ap length is, length-append (packed_bytes c.args.rec_ref prefix rest row) more, ap length left)

pub returns-in-None-clause-value : goal.returns-in-None-clause-value
returns-in-None-clause-value c = λ prefix row rest more small short fits is.
    let there = leaf_item c.args.rec_ref prefix row rest more small short fits in
    let read = c.in-None.ensures ∙ ap (item_at false c.args.rec_ref) is ∙ there in
    absurd cc
