use Rattle.std.proofs.lemmas.Result.{err_from_is_err_and}
use Rattle.std.proofs.Common.{◌∙◌, List, ℕ, Option, Err, length, refl, ap, sym, subst}
use Rattle.myi_base.proofs.CallerLemmas.{told_then}
use Rattle.myi_defs.specs.Sound.{IsSound}
use Rattle.myi_defs.proofs.CallerLemmas.{sound}
use Rattle.myi_repair.specs.Names.{names_of}
use Rattle.myi_repair.proofs.FilesLaws.{told_and}
use Rattle.myi_repair.proofs.EndLaws.{cut_off_later, ends_again}
use Rattle.myi_repair.proofs.RepairLaws.{count_roots, completed, completed_part}
use Rattle.myi_repair.proofs.repair.complete.Goals as goal

pub finish_table-requires-clause-sound : goal.finish_table-requires-clause-sound
finish_table-requires-clause-sound g c κs lives = subst IsSound (ap (λ h. h.defs) (sym c.build.ensures.left)) (sound c.args.gathered.defs c.requires.defs)

pub finish_table-requires-clause-roots : goal.finish_table-requires-clause-roots
finish_table-requires-clause-roots g c κs lives =
    ap (λ (rs : List (Option ℕ)). length rs) (c.deref.ensures.value ∙ c.in_ok-trees.ensures.trees.roots) ∙ count_roots c.args.gathered.defs c.args.gathered.pairs c.requires.pairs.all ∙ ap (λ h. length h.defs.keys) (sym c.build.ensures.left)

pub returns-clause-done : goal.returns-clause-done
returns-clause-done g c =
    let t = names_of c.args.table.now in
    let built = c.in_ok-trees.ensures in
    told_then _ _ _ _ _ _ (told_and _ _ _ _ built.built built.rows) c.in_ok-finish_table.ensures.done (λ m k n was finished rows is written.
    completed t t rows c.args.gathered c.build.new.gathered c.args.now c.in_ok-trees.trees.end c.deref.result.now m k n (sound c.args.gathered.defs c.requires.defs) refl c.build.ensures.left c.requires.pairs.all is written
    (c.deref.ensures.value ∙ built.trees.roots) built.trees.end was.0 was.1 finished)

pub returns-clause-whole : goal.returns-clause-whole
returns-clause-whole g c =
    let t = names_of c.args.table.now in
    let built = c.in_ok-trees.ensures in
    told_then _ _ _ _ _ _ (told_and _ _ _ _ (told_and _ _ _ _ built.built built.rows) c.build.ensures.both) c.finish_table.ensures.whole (λ m k n was finished rows is written.
    completed_part t t rows c.args.gathered c.build.new.gathered c.args.now c.in_ok-trees.trees.end c.deref.result.now m k n (sound c.args.gathered.defs c.requires.defs) refl c.build.ensures.left c.requires.pairs.all is written
    (c.deref.ensures.value ∙ built.trees.roots) built.trees.end was.0.0 was.0.1 was.1 finished)

pub returns-in_err-finish_table-clause-whole : goal.returns-in_err-finish_table-clause-whole
returns-in_err-finish_table-clause-whole g c =
    let t = names_of c.args.table.now in
    let built = c.in_ok-trees.ensures in
    told_then _ _ _ _ _ _ (told_and _ _ _ _ (told_and _ _ _ _ built.built built.rows) c.build.ensures.both) c.finish_table.ensures.whole (λ m k n was finished rows is written.
    completed_part t t rows c.args.gathered c.build.new.gathered c.args.now c.in_ok-trees.trees.end c.deref.result.now m k n (sound c.args.gathered.defs c.requires.defs) refl c.build.ensures.left c.requires.pairs.all is written
    (c.deref.ensures.value ∙ built.trees.roots) built.trees.end was.0.0 was.0.1 was.1 finished)

pub returns-in_err-finish_table-clause-ends : goal.returns-in_err-finish_table-clause-ends
returns-in_err-finish_table-clause-ends g c =
    let e = err_from_is_err_and c.from_residual-in_err-finish_table.result c.from_residual-in_err-finish_table.ensures.1 in
    cut_off_later _ _ _ _ _ _ _ _ c.build.ensures.ends.others c.build.ensures.ends.cause.later (ends_again _ _ _ _ _ _ _ (e.1 ∙ ap Err e.2) c.in_err-finish_table.ensures.ends)
