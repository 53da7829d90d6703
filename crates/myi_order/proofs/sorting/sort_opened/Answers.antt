use Rattle.std.proofs.Common.{sym, subst}
use Rattle.myi_base.proofs.CallerLemmas.{told_more, told_then}
use Rattle.myi_defs.specs.ReadDefs.{AreDefs}
use Rattle.myi_repair.specs.Names.{names_of}
use Rattle.myi_repair.proofs.CallerLemmas.{told_and}
use Rattle.myi_order.proofs.SortLaws.{sorted_files, sorted_part, part_kept}
use Rattle.myi_order.proofs.EndLaws.{cut_off_later, repair_cut_off}
use Rattle.myi_order.proofs.sorting.sort_opened.Goals as goal

pub complete-requires-clause-defs : goal.complete-requires-clause-defs
complete-requires-clause-defs g c κs lives = subst AreDefs (sym c.in_ok-gathered.ensures.defs) c.requires.defs

pub returns-in-Ok-clause-sorted : goal.returns-in-Ok-clause-sorted
returns-in-Ok-clause-sorted g c =
    let gathered = c.in_ok-gathered.ensures in
    told_then _ _ _ _ _ _ gathered.gathered c.in-Ok.ensures.done (λ m k n was done.
    sorted_files (names_of c.args.table.now) c.args.opened.defs c.args.opened.length c.args.key c.args.now c.in_ok-gathered.gathered c.in-Ok.said m k n gathered.defs gathered.length was c.in-Ok.ensures.said done)

pub returns-in-Ok-clause-whole : goal.returns-in-Ok-clause-whole
returns-in-Ok-clause-whole g c =
    let gathered = c.in_ok-gathered.ensures in
    told_then _ _ _ _ _ _ (told_and _ _ _ _ gathered.gathered gathered.both) c.complete.ensures.whole (λ m k n was part.
    sorted_part (names_of c.args.table.now) c.args.opened.defs c.args.opened.length c.args.key c.args.now c.in_ok-gathered.gathered m k n gathered.defs gathered.length was.0 was.1 part)

pub returns-in-Err-clause-whole : goal.returns-in-Err-clause-whole
returns-in-Err-clause-whole g c =
    let gathered = c.in_ok-gathered.ensures in
    told_then _ _ _ _ _ _ (told_and _ _ _ _ gathered.gathered gathered.both) c.complete.ensures.whole (λ m k n was part.
    sorted_part (names_of c.args.table.now) c.args.opened.defs c.args.opened.length c.args.key c.args.now c.in_ok-gathered.gathered m k n gathered.defs gathered.length was.0 was.1 part)

pub returns-in_err-gathered-clause-whole : goal.returns-in_err-gathered-clause-whole
returns-in_err-gathered-clause-whole g c =
    told_more _ _ _ _ c.order_table.ensures.both (λ m n held both. part_kept (names_of c.args.table.now) c.args.opened.defs c.args.opened.length c.args.key c.args.now m n both)

pub returns-in-Ok-clause-ends : goal.returns-in-Ok-clause-ends
returns-in-Ok-clause-ends g c =
    let gathered = c.in_ok-gathered.ensures in
    cut_off_later _ _ _ _ _ _ _ _ gathered.ends.others gathered.ends.cause.later (record {
      reason = tt;
      cleared = tt;
      others = c.complete.ensures.ends.others;
      cause = record { later = c.complete.ensures.ends.cause.later; cause = λ failed. absurd cc };
    })

pub returns-in-Err-clause-ends : goal.returns-in-Err-clause-ends
returns-in-Err-clause-ends g c =
    let gathered = c.in_ok-gathered.ensures in
    cut_off_later _ _ _ _ _ _ _ _ gathered.ends.others gathered.ends.cause.later (repair_cut_off _ _ _ _ _ c.in-Err.fault c.of_repair.result c.of_repair.ensures c.in-Err.ensures.ends)
