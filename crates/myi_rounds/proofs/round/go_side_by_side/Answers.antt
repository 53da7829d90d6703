use Rattle.std.proofs.Common.{[], refl, sym, subst, ◌∙◌, arith}
use Rattle.std.proofs.lemmas.Result.{err_from_is_err_and}
use Rattle.myi_base.proofs.CallerLemmas.{told_same}
use Rattle.myi_defs.specs.declared.types.Defs.{Defs}
use Rattle.myi_history.specs.Lines.{MayRun}
use Rattle.myi_table.specs.Table.{defs_in, IfHolds, KeepsOthers, KeepsRows}
use Rattle.myi_share.specs.Sharing.{sharing_of}
use Rattle.myi_share.specs.Taking.{all_counted}
use Rattle.myi_rounds.specs.declared.fault.RoundFault.TheVariants.{Memory}
use Rattle.myi_rounds.specs.Faults.{of_share, of_change, CutsOff}
use Rattle.myi_rounds.specs.InsertJob.{rows_put}
use Rattle.myi_rounds.proofs.RoundLemmas.{may_read, parts_back, all_gone, all_within, rows_then, others_then, idle_rows, none_made, same_then, same_one, below_then, below_self, refused_by, no_cause, share_cause, change_cause, share_cuts, cut_then}
use Rattle.myi_rounds.proofs.round.go_side_by_side.Goals as goal

-- ---- the runs

pub run_parts-requires-clause-readers : goal.run_parts-requires-clause-readers
run_parts-requires-clause-readers g c κs lives k d lt =
    let of = sharing_of c.begin_sharing.new.table c.in_ok-parts.parts.inserter.table in
    may_read c.calls_keep_parts.ensures.kept g.F.Reader.FileReader.holds of (g.F.Files.holds c.begin_sharing.new.files) (defs_in c.args.table.now) c.args.asked.now.lines.now _ c.in_ok-parts.ensures.parts.whole c.in_ok-parts.ensures.parts.kept c.begin_sharing.ensures.same.defs c.requires.lines (c.in_ok-parts.ensures.parts.readers k d lt)

pub run_parts-requires-clause-ready : goal.run_parts-requires-clause-ready
run_parts-requires-clause-ready g c κs lives =
    ([], c.in_ok-parts.ensures.parts.inserter.ready)

pub run_parts-requires-clause-lines : goal.run_parts-requires-clause-lines
run_parts-requires-clause-lines g c κs lives =
    subst (λ (d : Defs). MayRun d c.args.asked.now.lines.now) (sym (c.in_ok-parts.ensures.parts.inserter.defs ∙ c.begin_sharing.ensures.same.defs)) c.requires.lines

pub take_back-requires-clause-parts : goal.take_back-requires-clause-parts
take_back-requires-clause-parts g c κs lives =
    (rows_put c.in_ok-back.back.inserter.table, parts_back c.calls_keep_parts.ensures.read c.put_rows_are_known.ensures.values g.F.Reader.FileReader.holds g.F.Reader.FileReader.faults c.begin_sharing.new.table (g.F.Files.holds c.begin_sharing.new.files) c.args.asked.now c.in_ok-parts.parts c.in_ok-back.back c.in_ok-parts.ensures.parts (omega (arith, c.in_ok-parts.ensures.count, c.in_ok-parts.parts.readers.ok.0)) c.in_ok-back.ensures.run)

-- ---- it is refused

pub returns-in_err-words-clause-cut : goal.returns-in_err-words-clause-cut
returns-in_err-words-clause-cut g c =
    let r = c.from_residual.result in
    let e = err_from_is_err_and r c.from_residual.ensures.1 in
    refused_by r e.0 Memory (λ x. IfHolds (g.F.Files.holds c.args.files.now) c.args.table.now (λ m s. CutsOff x)) e.1 (e.2 ∙ c.in_err-words.ensures.refused) (λ m held s hold. tt)

pub returns-in_err-words-clause-cause : goal.returns-in_err-words-clause-cause
returns-in_err-words-clause-cause g c =
    let r = c.from_residual.result in
    let e = err_from_is_err_and r c.from_residual.ensures.1 in
    no_cause r e.0 _ _ e.1 (e.2 ∙ c.in_err-words.ensures.refused) (omega arith)

pub returns-in_err-parts-clause-cut : goal.returns-in_err-parts-clause-cut
returns-in_err-parts-clause-cut g c =
    let r = c.from_residual-in_err-parts.result in
    let e = err_from_is_err_and r c.from_residual-in_err-parts.ensures.1 in
    refused_by r e.0 (of_share c.in_err-parts.field-0.0) (λ x. IfHolds (g.F.Files.holds c.args.files.now) c.args.table.now (λ m s. CutsOff x)) e.1 e.2 (λ m held s hold. share_cuts c.in_err-parts.field-0.0)

pub returns-in_err-parts-clause-cause : goal.returns-in_err-parts-clause-cause
returns-in_err-parts-clause-cause g c =
    let r = c.from_residual-in_err-parts.result in
    let e = err_from_is_err_and r c.from_residual-in_err-parts.ensures.1 in
    share_cause r e.0 c.in_err-parts.field-0.0 _ _ e.1 e.2 c.in_err-parts.ensures.cause

pub returns-in_err-back-clause-cut : goal.returns-in_err-back-clause-cut
returns-in_err-back-clause-cut g c =
    let r = c.from_residual-in_err-back.result in
    let e = err_from_is_err_and r c.from_residual-in_err-back.ensures.1 in
    refused_by r e.0 Memory (λ x. IfHolds (g.F.Files.holds c.args.files.now) c.args.table.now (λ m s. CutsOff x)) e.1 e.2 (λ m held s hold. tt)

pub returns-in_err-back-clause-cause : goal.returns-in_err-back-clause-cause
returns-in_err-back-clause-cause g c =
    let r = c.from_residual-in_err-back.result in
    let e = err_from_is_err_and r c.from_residual-in_err-back.ensures.1 in
    no_cause r e.0 _ _ e.1 e.2 c.begin_sharing.ensures.cause.later

pub returns-in_err-made-clause-cut : goal.returns-in_err-made-clause-cut
returns-in_err-made-clause-cut g c =
    let r = c.from_residual-in_err-made.result in
    let e = err_from_is_err_and r c.from_residual-in_err-made.ensures.1 in
    refused_by r e.0 (of_change c.in_err-made.field-0.0) (λ x. IfHolds (g.F.Files.holds c.args.files.now) c.args.table.now (λ m s. CutsOff x)) e.1 e.2 (cut_then (g.F.Files.holds c.args.files.now) (g.F.Files.holds c.begin_sharing.new.files) c.args.table.now c.begin_sharing.new.table c.in_err-made.field-0.0 c.begin_sharing.ensures.still c.in_err-made.ensures.cut)

pub returns-in_err-made-clause-cause : goal.returns-in_err-made-clause-cause
returns-in_err-made-clause-cause g c =
    let r = c.from_residual-in_err-made.result in
    let e = err_from_is_err_and r c.from_residual-in_err-made.ensures.1 in
    change_cause r e.0 c.in_err-made.field-0.0 _ _ _ c.begin_sharing.ensures.cause.later e.1 e.2 c.in_err-made.ensures.cause

pub returns-in_err-words-clause-counts : goal.returns-in_err-words-clause-counts
returns-in_err-words-clause-counts g c =
    below_self (all_counted c.args.table.now)

pub returns-in_err-words-clause-idle : goal.returns-in_err-words-clause-idle
returns-in_err-words-clause-idle g c none =
    told_same (g.F.Files.holds c.args.files.now) (g.F.Files.holds c.args.files.now) (KeepsRows c.args.table.now.name) refl (λ m held. refl)

pub returns-in_err-words-clause-others : goal.returns-in_err-words-clause-others
returns-in_err-words-clause-others g c =
    told_same (g.F.Files.holds c.args.files.now) (g.F.Files.holds c.args.files.now) (KeepsOthers c.args.table.now.name) refl (λ m held q here there. refl)

pub returns-in_err-parts-clause-same : goal.returns-in_err-parts-clause-same
returns-in_err-parts-clause-same g c =
    same_one c.args.table.now c.begin_sharing.new.table c.begin_sharing.ensures.same

pub returns-in_err-parts-clause-marked : goal.returns-in_err-parts-clause-marked
returns-in_err-parts-clause-marked g c was =
    c.begin_sharing.ensures.changed ∙ was

pub returns-in_err-back-clause-same : goal.returns-in_err-back-clause-same
returns-in_err-back-clause-same g c =
    same_one c.args.table.now c.begin_sharing.new.table c.begin_sharing.ensures.same

pub returns-in_err-back-clause-marked : goal.returns-in_err-back-clause-marked
returns-in_err-back-clause-marked g c was =
    c.begin_sharing.ensures.changed ∙ was

pub returns-in_err-made-clause-same : goal.returns-in_err-made-clause-same
returns-in_err-made-clause-same g c =
    same_then c.args.table.now c.begin_sharing.new.table c.take_back.new.table c.begin_sharing.ensures.same c.take_back.ensures.same

pub returns-in_err-made-clause-marked : goal.returns-in_err-made-clause-marked
returns-in_err-made-clause-marked g c was =
    c.take_back.ensures.marked (c.begin_sharing.ensures.changed ∙ was)

pub returns-in_err-made-clause-counts : goal.returns-in_err-made-clause-counts
returns-in_err-made-clause-counts g c =
    below_then (all_counted c.args.table.now) (all_counted c.begin_sharing.new.table) (all_counted c.take_back.new.table) c.begin_sharing.ensures.counts c.take_back.ensures.counts

pub returns-in_err-made-clause-idle : goal.returns-in_err-made-clause-idle
returns-in_err-made-clause-idle g c none =
    idle_rows c.put_rows_are_known.ensures.values g.F.Reader.FileReader.holds g.F.Reader.FileReader.faults c.args.table.now c.begin_sharing.new.table (g.F.Files.holds c.args.files.now) (g.F.Files.holds c.begin_sharing.new.files) (g.F.Files.holds c.take_back.new.files) c.args.asked.now c.in_ok-parts.parts c.in_ok-back.back c.requires.whole c.requires.kept c.begin_sharing.ensures.still c.begin_sharing.ensures.same.name c.in_ok-parts.ensures.parts c.in_ok-back.ensures.run c.begin_sharing.ensures.rows c.take_back.ensures.rows c.begin_sharing.ensures.others c.take_back.ensures.others none

pub returns-in_err-made-clause-others : goal.returns-in_err-made-clause-others
returns-in_err-made-clause-others g c =
    others_then (g.F.Files.holds c.args.files.now) (g.F.Files.holds c.begin_sharing.new.files) (g.F.Files.holds c.take_back.new.files) c.args.table.now c.begin_sharing.new.table c.begin_sharing.ensures.same.name c.begin_sharing.ensures.others c.take_back.ensures.others

-- ---- it is done

pub returns-clause-same : goal.returns-clause-same
returns-clause-same g c =
    same_then c.args.table.now c.begin_sharing.new.table c.take_back.new.table c.begin_sharing.ensures.same c.take_back.ensures.same

pub returns-clause-marked : goal.returns-clause-marked
returns-clause-marked g c was =
    c.take_back.ensures.marked (c.begin_sharing.ensures.changed ∙ was)

pub returns-clause-counts : goal.returns-clause-counts
returns-clause-counts g c =
    below_then (all_counted c.args.table.now) (all_counted c.begin_sharing.new.table) (all_counted c.take_back.new.table) c.begin_sharing.ensures.counts c.take_back.ensures.counts

pub returns-clause-idle : goal.returns-clause-idle
returns-clause-idle g c none =
    idle_rows c.put_rows_are_known.ensures.values g.F.Reader.FileReader.holds g.F.Reader.FileReader.faults c.args.table.now c.begin_sharing.new.table (g.F.Files.holds c.args.files.now) (g.F.Files.holds c.begin_sharing.new.files) (g.F.Files.holds c.take_back.new.files) c.args.asked.now c.in_ok-parts.parts c.in_ok-back.back c.requires.whole c.requires.kept c.begin_sharing.ensures.still c.begin_sharing.ensures.same.name c.in_ok-parts.ensures.parts c.in_ok-back.ensures.run c.begin_sharing.ensures.rows c.take_back.ensures.rows c.begin_sharing.ensures.others c.take_back.ensures.others none

pub returns-clause-others : goal.returns-clause-others
returns-clause-others g c =
    others_then (g.F.Files.holds c.args.files.now) (g.F.Files.holds c.begin_sharing.new.files) (g.F.Files.holds c.take_back.new.files) c.args.table.now c.begin_sharing.new.table c.begin_sharing.ensures.same.name c.begin_sharing.ensures.others c.take_back.ensures.others

pub returns-clause-gone : goal.returns-clause-gone
returns-clause-gone g c =
    all_gone c.calls_keep_parts.ensures.read c.put_rows_are_known.ensures.first c.put_rows_are_known.ensures.values g.F.Reader.FileReader.holds g.F.Reader.FileReader.faults c.args.table.now c.begin_sharing.new.table c.take_back.new.table (g.F.Files.holds c.args.files.now) (g.F.Files.holds c.begin_sharing.new.files) (g.F.Files.holds c.take_back.new.files) c.args.asked.now c.in_ok-parts.parts c.in_ok-back.back c.in_ok-made.made c.begin_sharing.ensures.still c.begin_sharing.ensures.same.defs c.in_ok-parts.ensures.parts (omega (arith, c.in_ok-parts.ensures.count, c.in_ok-parts.parts.readers.ok.0)) c.in_ok-parts.ensures.number c.in_ok-back.ensures.run c.in_ok-back.ensures.end
    c.in_ok-made.ensures.folded c.in_ok-made.ensures.made c.in_ok-made.ensures.known

pub returns-clause-within : goal.returns-clause-within
returns-clause-within g c =
    all_within c.calls_keep_parts.ensures.read g.F.Reader.FileReader.holds g.F.Reader.FileReader.faults c.begin_sharing.new.table (g.F.Files.holds c.begin_sharing.new.files) c.args.asked.now c.in_ok-parts.parts c.in_ok-back.back c.in_ok-made.made c.in_ok-parts.ensures.parts (omega (arith, c.in_ok-parts.ensures.count, c.in_ok-parts.parts.readers.ok.0)) c.in_ok-back.ensures.run

pub returns-clause-changed : goal.returns-clause-changed
returns-clause-changed g c some =
    let rows = rows_put c.in_ok-back.back.inserter.table in
    let count = c.in_ok-made.ensures.made rows c.in_ok-back.ensures.run.ready in
    c.in_ok-made.ensures.changed rows c.in_ok-back.ensures.run.ready (omega (arith, count, some))

pub returns-clause-unchanged : goal.returns-clause-unchanged
returns-clause-unchanged g c none =
    c.take_back.ensures.unchanged (none_made c.in_ok-back.back c.in_ok-made.made c.in_ok-back.ensures.run.ready c.in_ok-made.ensures.made none) ∙ c.begin_sharing.ensures.changed

pub returns-clause-rows : goal.returns-clause-rows
returns-clause-rows g c none =
    rows_then (g.F.Files.holds c.args.files.now) (g.F.Files.holds c.begin_sharing.new.files) (g.F.Files.holds c.take_back.new.files) c.args.table.now c.begin_sharing.new.table c.begin_sharing.ensures.same.name c.begin_sharing.ensures.rows (c.take_back.ensures.rows (none_made c.in_ok-back.back c.in_ok-made.made c.in_ok-back.ensures.run.ready c.in_ok-made.ensures.made none))

pub returns-clause-cause : goal.returns-clause-cause
returns-clause-cause g c =
    record { later = omega (arith, c.begin_sharing.ensures.cause.later, c.in_ok-made.ensures.cause.later); cause = λ e. absurd cc }
