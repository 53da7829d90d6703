use Rattle.std.proofs.Common.{ap, Err}
use Rattle.myi_repair.proofs.EndLaws.{cleared_ends}
use Rattle.myi_repair.proofs.finishing.finish_table.Goals as goal

pub returns-in-Err-clause-ends : goal.returns-in-Err-clause-ends
returns-in-Err-clause-ends g c =
    let ends = c.in-Err.ensures.ends in
    cleared_ends _ _ _ _ _ _ _ _ ends.cut (λ file. ends.cause.cause (ap Err file)) ends.cause.later ends.others c.clear.ensures.later c.clear.ensures.others c.clear.ensures.gone
