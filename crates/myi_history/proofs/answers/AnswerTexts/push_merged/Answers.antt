use Rattle.std.proofs.Common.{length}
use Rattle.std.proofs.lemmas.Result.{on_err_weaker}
use Rattle.myi_history.specs.Answers.{numbered, count_text, merged_lines}
use Rattle.myi_history.proofs.PartLemmas.{part_behind}
use Rattle.myi_history.proofs.answers.AnswerTexts.push_merged.Goals as goal

pub returns-clause-part : goal.returns-clause-part
returns-clause-part c =
    on_err_weaker c.push_merged_rows.result
    (λ part. part_behind c.args.out.now.items c.push_count.new.out.items c.push_merged_rows.new.out.items (numbered c.args.line (count_text (length c.args.found.now) c.args.number)) (merged_lines c.args.found.now)
    c.in_ok-push_count.ensures.text part) c.push_merged_rows.ensures.part
