use Rattle.std.proofs.Common.{◌++◌, ◌∙◌, ap}
use Rattle.myi_history.specs.Answers.{numbered, damaged_text}
use Rattle.myi_history.proofs.answers.AnswerTexts.push_damaged.Goals as goal

pub returns-clause-text : goal.returns-clause-text
returns-clause-text c =
    c.in_ok-extend_from_slice.ensures.items
    ∙ ap (λ bs. c.args.out.now.items ++ bs)
    (c.as_bytes.ensures.value ∙ c.in_ok-write.ensures.bytes ∙ ap (λ bs. bs ++ numbered c.args.line (damaged_text c.args.at)) c.clear.ensures.bytes)
