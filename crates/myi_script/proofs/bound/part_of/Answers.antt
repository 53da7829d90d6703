use Rattle.std.proofs.Common.{◌≡◌, ◌∙◌, ap, sym, Some}
use Rattle.myi_script.specs.Values.{segment_form}
use Rattle.myi_script.specs.Reading.{value_of}
use Rattle.myi_script.proofs.FormLemmas.{segment_is_form, value_weighs, value_short}
use Rattle.myi_script.proofs.bound.part_of.Goals as goal

pub value_of-requires : goal.value_of-requires
value_of-requires c = rw c.of_segment.ensures (segment_is_form c.requires.sound.0 c.args.segment.now c.requires.sound.1)

pub weigh-requires : goal.weigh-requires
weigh-requires c =
    let e : value_of (segment_form c.args.segment.now) c.args.word.now ≡ Some c.in-Some.content = ap (λ q. value_of q c.args.word.now) (sym c.of_segment.ensures) ∙ sym c.in_ok-content.ensures ∙ c.in-Some.is in
    rw c.as_slice-in-Some.ensures (value_weighs c.requires.sound.0 c.args.segment.now c.args.word.now c.in-Some.content c.requires.sound.1 e)

pub returns-in_ok-weights-in-Some-clause-short : goal.returns-in_ok-weights-in-Some-clause-short
returns-in_ok-weights-in-Some-clause-short c =
    let e : value_of (segment_form c.args.segment.now) c.args.word.now ≡ Some c.in-Some.content = ap (λ q. value_of q c.args.word.now) (sym c.of_segment.ensures) ∙ sym c.in_ok-content.ensures ∙ c.in-Some.is in
    rw (c.new.ensures, c.in_ok-weights-in-Some.ensures, c.as_slice-in-Some.ensures) (value_short c.requires.sound.0 c.args.segment.now c.args.word.now c.in-Some.content c.requires.sound.1 c.requires.short e)
