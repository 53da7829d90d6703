use Rattle.std.proofs.Common.{ap, Err}
use Rattle.myi_sortindex.proofs.CallLaws.{cleared_by}
use Rattle.myi_sortindex.proofs.replacing.replace_index.Goals as goal

pub returns-in-Err-clause-cleared : goal.returns-in-Err-clause-cleared
returns-in-Err-clause-cleared g c =
    cleared_by c.args.working.now _ _ _ _ _ _ _ _ c.remove.result c.in-Err.ensures.cut (λ file. c.in-Err.ensures.cause.cause (ap Err file)) c.in-Err.ensures.cause.later c.in-Err.ensures.others c.remove.ensures.ok c.remove.ensures.err c.remove.ensures.failed c.remove.ensures.cause
