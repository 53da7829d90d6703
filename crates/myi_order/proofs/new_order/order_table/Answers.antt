use Rattle.std.proofs.Common.{Err, ap}
use Rattle.myi_base.proofs.CallerLemmas.{told_more, told_then}
use Rattle.myi_repair.specs.Names.{names_of}
use Rattle.myi_order.proofs.NewOrderLaws.{both_new_rows, both_after}
use Rattle.myi_order.proofs.EndLaws.{cleared_ends}
use Rattle.myi_order.proofs.new_order.order_table.Goals as goal

pub returns-in-Ok-clause-both : goal.returns-in-Ok-clause-both
returns-in-Ok-clause-both g c =
    let t = names_of c.args.table.now in
    told_more _ _ _ _ c.gather_ordered.ensures.ends.others (λ m n held kept. both_new_rows t m n c.requires.apart kept)

pub returns-in-Err-clause-both : goal.returns-in-Err-clause-both
returns-in-Err-clause-both g c =
    let t = names_of c.args.table.now in
    told_then _ _ _ _ _ _ c.gather_ordered.ensures.ends.others c.clear.ensures.both (λ m k n kept cleared. both_after t m k n cleared (both_new_rows t m k c.requires.apart kept))

pub returns-in-Err-clause-ends : goal.returns-in-Err-clause-ends
returns-in-Err-clause-ends g c =
    let t = names_of c.args.table.now in
    let cause = c.in-Err.ensures.ends.cause in
    cleared_ends t _ _ _ _ _ _ _ c.in-Err.ensures.ends.cut (λ file. cause.cause (ap Err file)) cause.later
    (told_more _ _ _ _ c.in-Err.ensures.ends.others (λ m n held kept q a b other d. kept q other))
    c.clear.ensures.later c.clear.ensures.others c.clear.ensures.gone
