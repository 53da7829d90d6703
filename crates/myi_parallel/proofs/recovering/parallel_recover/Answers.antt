use Rattle.std.proofs.Common.{◌∙◌, subst, sym, arith}
use Rattle.std.specs.Prelude.{IfOk, OnOk}
use Rattle.std.proofs.lemmas.Result.{IfOk-weaker}
use Rattle.myi_base.specs.Holding.{Told}
use Rattle.myi_base.proofs.CallerLemmas.{told_then}
use Rattle.myi_defs.specs.ReadDefs.{AreDefs}
use Rattle.myi_defs.proofs.CallerLemmas.{sound}
use Rattle.myi_repair.specs.Names.{names_of}
use Rattle.myi_repair.specs.LaidInMemory.{AreTreesOf}
use Rattle.myi_repair.specs.Repaired.{Completes, CompletesPart}
use Rattle.myi_repair.proofs.CallerLemmas.{apart_of, repaired, kept_or_whole, told_and, both_ok, cut_off_ends, cut_off_later}
use Rattle.myi_parallel.proofs.TableLaws.{defs_left, report_left, whole_left}
use Rattle.myi_parallel.proofs.recovering.parallel_recover.Goals as goal

pub gather_table-requires-clause-apart : goal.gather_table-requires-clause-apart
gather_table-requires-clause-apart g c κs lives = apart_of _ c.args.name.now c.in_ok-table.ensures

pub lay_gathered-laid-requires-clause-sound : goal.lay_gathered-laid-requires-clause-sound
lay_gathered-laid-requires-clause-sound g c κs lives = sound c.in_ok-gathered.gathered.defs c.in_ok-gathered.ensures.defs

pub complete_laid-requires-clause-apart : goal.complete_laid-requires-clause-apart
complete_laid-requires-clause-apart g c κs lives = apart_of _ c.args.name.now c.in_ok-table.ensures

pub complete_laid-requires-clause-defs : goal.complete_laid-requires-clause-defs
complete_laid-requires-clause-defs g c κs lives = subst AreDefs (sym (defs_left c.in_ok-gathered.gathered _ c.lay_gathered-laid.ensures.left)) c.in_ok-gathered.ensures.defs

pub complete_laid-requires-clause-laid : goal.complete_laid-requires-clause-laid
complete_laid-requires-clause-laid g c κs lives =
    let was = c.in_ok-gathered.gathered in
    (was.pairs, subst (λ d. IfOk c.lay_gathered-laid.result (λ trees. AreTreesOf d was.pairs trees.items)) (sym (defs_left was _ c.lay_gathered-laid.ensures.left)) c.lay_gathered-laid.ensures.laid)

pub returns-clause-repaired : goal.returns-clause-repaired
returns-clause-repaired g c =
    let was = c.in_ok-gathered.gathered in
    let are = subst (λ d. IfOk c.lay_gathered-laid.result (λ trees. AreTreesOf d was.pairs trees.items)) (sym (defs_left was _ c.lay_gathered-laid.ensures.left)) c.lay_gathered-laid.ensures.laid in
    let done = subst (λ w. OnOk c.complete_laid.result (Told (g.F.Files.holds c.gather_table.new.files) (g.F.Files.holds c.complete_laid.new.files) (Completes (names_of c.in_ok-table.table) w c.args.now))) (whole_left was _ c.lay_gathered-laid.ensures.left) (c.complete_laid.ensures.done was.pairs are) in
    IfOk-weaker c.complete_laid.result _ _ (λ said all. told_then _ _ _ _ _ _ c.in_ok-gathered.ensures.gathered all.0 (λ m k n gathered completes.
    repaired c.args.name.now (names_of c.in_ok-table.table) c.args.extend c.args.now was said m k n c.in_ok-table.ensures c.in_ok-gathered.ensures.defs c.in_ok-gathered.ensures.header (omega arith) gathered (all.1 ∙ report_left was _ c.lay_gathered-laid.ensures.left) completes))
    (both_ok c.complete_laid.result _ _ done c.complete_laid.ensures.said)

pub returns-clause-files : goal.returns-clause-files
returns-clause-files g c =
    let was = c.in_ok-gathered.gathered in
    let are = subst (λ d. IfOk c.lay_gathered-laid.result (λ trees. AreTreesOf d was.pairs trees.items)) (sym (defs_left was _ c.lay_gathered-laid.ensures.left)) c.lay_gathered-laid.ensures.laid in
    let whole = subst (λ w. Told (g.F.Files.holds c.gather_table.new.files) (g.F.Files.holds c.complete_laid.new.files) (CompletesPart (names_of c.in_ok-table.table) w c.args.now)) (whole_left was _ c.lay_gathered-laid.ensures.left) (c.complete_laid.ensures.whole was.pairs are) in
    told_then _ _ _ _ _ _ (told_and _ _ _ _ c.in_ok-gathered.ensures.gathered c.gather_table.ensures.both) whole (λ m k n both part. kept_or_whole c.args.name.now (names_of c.in_ok-table.table) c.args.extend c.args.now was m k n c.in_ok-table.ensures both.0 both.1 part)

pub returns-clause-ends : goal.returns-clause-ends
returns-clause-ends g c =
    cut_off_ends _ _ _ _ _ _ _ c.in_ok-table.ensures (cut_off_later _ _ _ _ _ _ _ _ c.in_ok-gathered.ensures.ends.others c.in_ok-gathered.ensures.ends.cause.later c.complete_laid.ensures.ends)
