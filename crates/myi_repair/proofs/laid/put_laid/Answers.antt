use Rattle.std.proofs.Common.{◌∙◌, ap, Err}
use Rattle.myi_base.proofs.CallerLemmas.{told_more}
use Rattle.myi_repair.proofs.EndLaws.{cleared_ends}
use Rattle.myi_repair.proofs.laid.put_laid.Goals as goal

pub returns-in-Err-clause-ends : goal.returns-in-Err-clause-ends
returns-in-Err-clause-ends g c =
    cleared_ends _ _ _ _ _ _ _ _ c.in-Err.ensures.ends.cut (λ file. c.in-Err.ensures.ends.cause.cause (ap Err file)) c.in-Err.ensures.ends.cause.later
    (told_more _ _ _ _ c.in-Err.ensures.ends.others (λ m n held kept q a b other d. kept q (λ e. d (e ∙ c.as_str.ensures.value))))
    c.clear.ensures.later c.clear.ensures.others c.clear.ensures.gone
