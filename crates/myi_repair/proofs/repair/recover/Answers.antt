use Rattle.std.proofs.Common.{arith}
use Rattle.std.proofs.lemmas.Result.{IfOk-weaker}
use Rattle.myi_base.proofs.CallerLemmas.{told_then}
use Rattle.myi_repair.specs.Names.{names_of}
use Rattle.myi_repair.proofs.FilesLaws.{apart_of, both_ok, told_and}
use Rattle.myi_repair.proofs.RepairLaws.{repaired, kept_or_whole}
use Rattle.myi_repair.proofs.EndLaws.{cut_off_ends, cut_off_later}
use Rattle.myi_repair.proofs.repair.recover.Goals as goal

pub gather_table-requires-clause-apart : goal.gather_table-requires-clause-apart
gather_table-requires-clause-apart g c κs lives = apart_of _ c.args.name.now c.in_ok-table.ensures

pub complete-requires-clause-apart : goal.complete-requires-clause-apart
complete-requires-clause-apart g c κs lives = apart_of _ c.args.name.now c.in_ok-table.ensures

pub returns-clause-repaired : goal.returns-clause-repaired
returns-clause-repaired g c =
    IfOk-weaker c.complete.result _ _ (λ said all. told_then _ _ _ _ _ _ c.in_ok-gathered.ensures.gathered all.0 (λ m k n gathered done.
    repaired c.args.name.now (names_of c.in_ok-table.table) c.args.extend c.args.now c.in_ok-gathered.gathered said m k n c.in_ok-table.ensures c.in_ok-gathered.ensures.defs c.in_ok-gathered.ensures.header (omega arith) gathered all.1 done))
    (both_ok c.complete.result _ _ c.complete.ensures.done c.complete.ensures.said)

pub returns-clause-files : goal.returns-clause-files
returns-clause-files g c =
    told_then _ _ _ _ _ _ (told_and _ _ _ _ c.in_ok-gathered.ensures.gathered c.in_ok-gathered.ensures.both) c.complete.ensures.whole (λ m k n was part.
    kept_or_whole c.args.name.now (names_of c.in_ok-table.table) c.args.extend c.args.now c.in_ok-gathered.gathered m k n c.in_ok-table.ensures was.0 was.1 part)

pub returns-clause-ends : goal.returns-clause-ends
returns-clause-ends g c =
    cut_off_ends _ _ _ _ _ _ _ c.in_ok-table.ensures (cut_off_later _ _ _ _ _ _ _ _ c.in_ok-gathered.ensures.ends.others c.in_ok-gathered.ensures.ends.cause.later c.complete.ensures.ends)
