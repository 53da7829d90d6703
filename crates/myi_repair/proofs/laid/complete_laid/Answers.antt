use Rattle.std.proofs.lemmas.Result.{err_from_is_err_and}
use Rattle.std.proofs.Common.{◌∙◌, List, ℕ, Option, Err, length, refl, ap}
use Rattle.myi_base.proofs.CallerLemmas.{told_then}
use Rattle.myi_defs.proofs.CallerLemmas.{sound}
use Rattle.myi_repair.specs.declared.gathering.Gathered.{Gathered}
use Rattle.myi_repair.specs.Names.{names_of}
use Rattle.myi_repair.proofs.FilesLaws.{told_and}
use Rattle.myi_repair.proofs.EndLaws.{cut_off_later, ends_again}
use Rattle.myi_repair.proofs.RepairLaws.{count_roots, completed, completed_part, without_pairs, rows_kept_or_taken}
use Rattle.myi_repair.proofs.laid.complete_laid.Goals as goal

pub finish_table-requires-clause-sound : goal.finish_table-requires-clause-sound
finish_table-requires-clause-sound g c κs lives = sound c.args.gathered.now.defs c.requires.defs

pub finish_table-requires-clause-roots : goal.finish_table-requires-clause-roots
finish_table-requires-clause-roots g c κs lives =
    let pairs = c.requires.laid.0 in
    let put = c.in_ok-trees.ensures in
    ap (λ (rs : List (Option ℕ)). length rs) (c.deref.ensures.value ∙ (put.trees pairs c.requires.laid.1).roots) ∙ count_roots c.args.gathered.now.defs pairs (put.counted pairs c.requires.laid.1)

pub returns-clause-done : goal.returns-clause-done
returns-clause-done g c pairs are =
    let t = names_of c.args.table.now in
    let whole : Gathered = record c.args.gathered.now { pairs = pairs } in
    let put = c.in_ok-trees.ensures in
    told_then _ _ _ _ _ _ (told_and _ _ _ _ (put.built pairs are) put.rows) c.in_ok-finish_table.ensures.done (λ m k n was finished rows is written.
    completed t t rows whole (without_pairs whole) c.args.now c.in_ok-trees.trees.end c.deref.result.now m k n (sound c.args.gathered.now.defs c.requires.defs) refl refl (put.counted pairs are) is written
    (c.deref.ensures.value ∙ (put.trees pairs are).roots) (put.trees pairs are).end was.0 was.1 finished)

pub returns-clause-whole : goal.returns-clause-whole
returns-clause-whole g c pairs are =
    let t = names_of c.args.table.now in
    let whole : Gathered = record c.args.gathered.now { pairs = pairs } in
    let put = c.in_ok-trees.ensures in
    told_then _ _ _ _ _ _ (told_and _ _ _ _ (told_and _ _ _ _ (put.built pairs are) put.rows) c.put_laid.ensures.both) c.finish_table.ensures.whole (λ m k n was finished rows is written.
    completed_part t t rows whole (without_pairs whole) c.args.now c.in_ok-trees.trees.end c.deref.result.now m k n (sound c.args.gathered.now.defs c.requires.defs) refl refl (put.counted pairs are) is written
    (c.deref.ensures.value ∙ (put.trees pairs are).roots) (put.trees pairs are).end was.0.0 was.0.1 was.1 finished)

pub returns-in_err-finish_table-clause-whole : goal.returns-in_err-finish_table-clause-whole
returns-in_err-finish_table-clause-whole g c pairs are =
    let t = names_of c.args.table.now in
    let whole : Gathered = record c.args.gathered.now { pairs = pairs } in
    let put = c.in_ok-trees.ensures in
    told_then _ _ _ _ _ _ (told_and _ _ _ _ (told_and _ _ _ _ (put.built pairs are) put.rows) c.put_laid.ensures.both) c.finish_table.ensures.whole (λ m k n was finished rows is written.
    completed_part t t rows whole (without_pairs whole) c.args.now c.in_ok-trees.trees.end c.deref.result.now m k n (sound c.args.gathered.now.defs c.requires.defs) refl refl (put.counted pairs are) is written
    (c.deref.ensures.value ∙ (put.trees pairs are).roots) (put.trees pairs are).end was.0.0 was.0.1 was.1 finished)

pub returns-in_err-finish_table-clause-ends : goal.returns-in_err-finish_table-clause-ends
returns-in_err-finish_table-clause-ends g c =
    let e = err_from_is_err_and c.from_residual-in_err-finish_table.result c.from_residual-in_err-finish_table.ensures.1 in
    cut_off_later _ _ _ _ _ _ _ _ c.put_laid.ensures.ends.others c.put_laid.ensures.ends.cause.later (ends_again _ _ _ _ _ _ _ (e.1 ∙ ap Err e.2) c.in_err-finish_table.ensures.ends)

pub returns-clause-rows : goal.returns-clause-rows
returns-clause-rows g c =
    told_then _ _ _ _ _ _ (told_and _ _ _ _ c.in_ok-trees.ensures.rows c.put_laid.ensures.both) (told_and _ _ _ _ c.finish_table.ensures.whole c.finish_table.ensures.alone) (λ m k n was is.
    rows_kept_or_taken (names_of c.args.table.now) c.args.gathered.now c.deref.result.now c.in_ok-trees.trees.end c.args.now m k n was.0 was.1 is.0 is.1)

pub returns-in_err-finish_table-clause-rows : goal.returns-in_err-finish_table-clause-rows
returns-in_err-finish_table-clause-rows g c =
    told_then _ _ _ _ _ _ (told_and _ _ _ _ c.in_ok-trees.ensures.rows c.put_laid.ensures.both) (told_and _ _ _ _ c.finish_table.ensures.whole c.finish_table.ensures.alone) (λ m k n was is.
    rows_kept_or_taken (names_of c.args.table.now) c.args.gathered.now c.deref.result.now c.in_ok-trees.trees.end c.args.now m k n was.0 was.1 is.0 is.1)

pub returns-clause-gone : goal.returns-clause-gone
returns-clause-gone g c = told_then _ _ _ _ _ _ c.put_laid.ensures.both c.in_ok-finish_table.ensures.gone (λ m k n both gone. gone)
