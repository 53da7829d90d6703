use Rattle.std.proofs.Common.{Err, refl, sym, ap, arith}
use Rattle.myi_base.proofs.CallerLemmas.{told_more, told_then}
use Rattle.myi_repair.specs.Names.{names_of}
use Rattle.myi_repair.proofs.FilesLaws.{told_from, both_new_rows, both_after}
use Rattle.myi_repair.proofs.EndLaws.{cut_off_ends, cleared_ends}
use Rattle.myi_repair.proofs.gathering.gather_table.Goals as goal

pub returns-in-Ok-clause-both : goal.returns-in-Ok-clause-both
returns-in-Ok-clause-both g c =
    let t = names_of c.args.table.now in
    told_from _ _ _ _ c.open_reached.ensures.holds (told_more _ _ _ _ c.gather_opened.ensures.ends.others (λ m n held kept. both_new_rows t m n c.requires.apart kept))

pub returns-in-Ok-clause-index : goal.returns-in-Ok-clause-index
returns-in-Ok-clause-index g c =
    let t = names_of c.args.table.now in
    told_from _ _ _ _ c.open_reached.ensures.holds (told_more _ _ _ _ c.gather_opened.ensures.ends.others (λ m n held kept. kept t.new_index (λ e. c.requires.apart.new_rows-new_index (sym e))))

pub returns-in-Err-clause-both : goal.returns-in-Err-clause-both
returns-in-Err-clause-both g c =
    let t = names_of c.args.table.now in
    told_from _ _ _ _ c.open_reached.ensures.holds (told_then _ _ _ _ _ _ c.gather_opened.ensures.ends.others c.clear.ensures.both (λ m k n kept cleared. both_after t m k n cleared (both_new_rows t m k c.requires.apart kept)))

pub returns-in-Err-clause-ends : goal.returns-in-Err-clause-ends
returns-in-Err-clause-ends g c =
    let t = names_of c.args.table.now in
    let opened = c.open_reached.ensures.cause.later in
    let cause = c.in-Err.ensures.ends.cause in
    cut_off_ends t t _ _ _ _ _ refl
    (cleared_ends t _ _ _ _ _ _ _ c.in-Err.ensures.ends.cut (λ file. let rose = cause.cause (ap Err file) in omega (arith, rose, opened)) (omega (arith, opened, cause.later))
    (told_from _ _ _ _ c.open_reached.ensures.holds (told_more _ _ _ _ c.in-Err.ensures.ends.others (λ m n held kept q a b other d. kept q other)))
    c.clear.ensures.later c.clear.ensures.others c.clear.ensures.gone)
