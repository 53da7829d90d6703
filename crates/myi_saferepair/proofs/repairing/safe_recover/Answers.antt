use Rattle.std.proofs.Common.{◌≤◌, ◌∙◌, Err, refl, sym, ap, subst, arith, ℕ}
use Rattle.std.proofs.lemmas.Result.{IfOk-weaker, err_from_is_err_and}
use Rattle.myi_base.specs.Holding.{Told}
use Rattle.myi_base.proofs.CallerLemmas.{told_more, told_then}
use Rattle.myi_defs.proofs.CallerLemmas.{sound}
use Rattle.myi_repair.specs.Faults.{RoseAtMost}
use Rattle.myi_repair.specs.Names.{FourNames, names_of, names_for, KeepsBoth, KeepsBut, working_left}
use Rattle.myi_repair.specs.Opening.{CutsOff}
use Rattle.myi_repair.specs.Outcome.{Ends}
use Rattle.myi_repair.proofs.CallerLemmas.{apart_of, told_and, told_from, both_after, cut_off_ends, cut_off_later, cleared_ends, ends_again as error_again}
use Rattle.myi_saferepair.specs.declared.fault.Stop.TheVariants.{Cut}
use Rattle.myi_saferepair.specs.Stops.{TellsOfNone}
use Rattle.myi_saferepair.proofs.EndLaws.{keeps_both, keeps_but, both_old, finished, finished_part, repaired_again, whole_again, ends_again}
use Rattle.myi_saferepair.proofs.repairing.safe_recover.Goals as goal

pub fill-requires-clause-apart : goal.fill-requires-clause-apart
fill-requires-clause-apart g c κs within = apart_of _ c.args.name.now c.in_ok-table.ensures

pub finish_table-requires-clause-apart : goal.finish_table-requires-clause-apart
finish_table-requires-clause-apart g c κs within = apart_of _ c.args.name.now c.in_ok-table.ensures

pub finish_table-requires-clause-sound : goal.finish_table-requires-clause-sound
finish_table-requires-clause-sound g c κs within = sound c.in-Ok.filled.gathered.defs c.in-Ok.ensures.defs

pub clear-requires-clause-apart : goal.clear-requires-clause-apart
clear-requires-clause-apart g c κs within = apart_of _ c.args.name.now c.in_ok-table.ensures

pub returns-in_err-finish_table-in-Ok-clause-files : goal.returns-in_err-finish_table-in-Ok-clause-files
returns-in_err-finish_table-in-Ok-clause-files g c =
    let t = names_of c.in_ok-table.table in
    let is = c.in-Ok.ensures in
    let was = told_from _ _ _ _ c.open_reached.ensures.holds (told_and _ _ _ _ is.filled c.fill.ensures.others) in
    told_then _ _ _ _ _ _ was c.finish_table.ensures.whole (λ m k n filled part.
    finished_part c.walks_stay_between.ensures.front c.args.name.now t c.args.extend c.in-Ok.filled c.args.now c.deref.result.now m k n c.in_ok-table.ensures
    (record { fills = filled.0; defined = is.defs; header = is.header; count = is.roots; fit = is.fits; short = is.end; time = omega arith }) (keeps_both t m k (apart_of t c.args.name.now c.in_ok-table.ensures) filled.1) c.deref.ensures.value part)

pub returns-in-Ok-clause-files : goal.returns-in-Ok-clause-files
returns-in-Ok-clause-files g c =
    let t = names_of c.in_ok-table.table in
    let is = c.in-Ok.ensures in
    let was = told_from _ _ _ _ c.open_reached.ensures.holds (told_and _ _ _ _ is.filled c.fill.ensures.others) in
    told_then _ _ _ _ _ _ was c.finish_table.ensures.whole (λ m k n filled part.
    finished_part c.walks_stay_between.ensures.front c.args.name.now t c.args.extend c.in-Ok.filled c.args.now c.deref.result.now m k n c.in_ok-table.ensures
    (record { fills = filled.0; defined = is.defs; header = is.header; count = is.roots; fit = is.fits; short = is.end; time = omega arith }) (keeps_both t m k (apart_of t c.args.name.now c.in_ok-table.ensures) filled.1) c.deref.ensures.value part)

pub returns-in-Ok-clause-repaired : goal.returns-in-Ok-clause-repaired
returns-in-Ok-clause-repaired g c =
    let t = names_of c.in_ok-table.table in
    let is = c.in-Ok.ensures in
    let was = told_from _ _ _ _ c.open_reached.ensures.holds is.filled in
    told_then _ _ _ _ _ _ was c.in_ok-finish_table-in-Ok.ensures.done (λ m k n filled done.
    finished c.walks_stay_between.ensures.front c.args.name.now t c.args.extend c.in-Ok.filled c.args.now c.in-Ok.filled.gathered.report c.deref.result.now m k n c.in_ok-table.ensures
    (record { fills = filled; defined = is.defs; header = is.header; count = is.roots; fit = is.fits; short = is.end; time = omega arith }) c.deref.ensures.value refl done)

pub returns-in_err-finish_table-in-Ok-clause-ends : goal.returns-in_err-finish_table-in-Ok-clause-ends
returns-in_err-finish_table-in-Ok-clause-ends g c =
    let t = names_of c.in_ok-table.table in
    let e = err_from_is_err_and c.from_residual-in_err-finish_table-in-Ok.result c.from_residual-in_err-finish_table-in-Ok.ensures.1 in
    let opened = c.open_reached.ensures.cause.later in
    let filled = c.fill.ensures.cause.later in
    cut_off_ends t _ _ _ _ _ _ c.in_ok-table.ensures
    (cut_off_later t _ _ _ _ _ _ _ (told_from _ _ _ _ c.open_reached.ensures.holds (told_more _ _ _ _ c.fill.ensures.others (λ m n held writes. keeps_but t m n writes))) (omega (arith, opened, filled))
    (error_again _ _ _ _ _ _ _ (e.1 ∙ ap Err e.2) c.in_err-finish_table-in-Ok.ensures.ends))

pub returns-in-Damaged-clause-repaired : goal.returns-in-Damaged-clause-repaired
returns-in-Damaged-clause-repaired g c =
    let t = names_of c.in_ok-table.table in
    let apart = apart_of t c.args.name.now c.in_ok-table.ensures in
    let was : Told (g.F.Files.holds c.args.files.now) (g.F.Files.holds c.clear.new.files) (KeepsBoth t) = told_from _ _ _ _ c.open_reached.ensures.holds
    (told_then _ _ _ _ _ _ c.fill.ensures.others c.clear.ensures.both (λ m k n writes kept. both_after t m k n kept (keeps_both t m k apart writes))) in
    IfOk-weaker c.recover.result _ _ (λ said all. told_then _ _ _ _ _ _ was all (λ m k n both left.
    repaired_again c.args.name.now t c.args.extend c.args.now said m k n c.in_ok-table.ensures both left)) c.recover.ensures.repaired

pub returns-in-Damaged-clause-files : goal.returns-in-Damaged-clause-files
returns-in-Damaged-clause-files g c =
    let t = names_of c.in_ok-table.table in
    let d = c.in_ok-opened.opened.defs in
    let size = c.in_ok-opened.opened.length in
    let apart = apart_of t c.args.name.now c.in_ok-table.ensures in
    let opened = c.in_ok-opened.ensures in
    let was : Told (g.F.Files.holds c.args.files.now) (g.F.Files.holds c.clear.new.files) (KeepsBoth t) = told_from _ _ _ _ c.open_reached.ensures.holds
    (told_then _ _ _ _ _ _ c.fill.ensures.others c.clear.ensures.both (λ m k n writes kept. both_after t m k n kept (keeps_both t m k apart writes))) in
    let all = c.recover.ensures.files in
    record {
      told = λ m held.
          let a = was.told m held in
          let b = all.told a.0 a.1 in (
            b.0,
            b.1,
            whole_again c.args.name.now t c.args.extend c.args.now d size m a.0 b.0 c.in_ok-table.ensures
                (record { defined = opened.defs; header = opened.header; table = opened.table m held; bytes = g.met.F.Files.told_bytes c.args.files.now m held; time = omega arith }) a.2 b.2,
          );
      untold = λ none. all.untold (was.untold none);
    }

pub returns-in-Damaged-clause-ends : goal.returns-in-Damaged-clause-ends
returns-in-Damaged-clause-ends g c =
    let t = names_of c.in_ok-table.table in
    let u = names_for c.args.name.now in
    let d = c.in_ok-opened.opened.defs in
    let size = c.in_ok-opened.opened.length in
    let named = c.in_ok-table.ensures in
    let apart = apart_of t c.args.name.now named in
    let old = g.F.Files.holds c.args.files.now in
    let mid = g.F.Files.holds c.clear.new.files in
    let new = g.F.Files.holds c.recover.new.files in
    let before = g.F.Files.faults c.args.files.now in
    let b0 = g.F.Files.faults c.fill.new.files in
    let b1 = g.F.Files.faults c.clear.new.files in
    let now = g.F.Files.faults c.recover.new.files in
    let opened = c.open_reached.ensures.cause.later in
    let filled = c.fill.ensures.cause.later in
    let both : Told old mid (KeepsBoth t) = told_from _ _ _ _ c.open_reached.ensures.holds
    (told_then _ _ _ _ _ _ c.fill.ensures.others c.clear.ensures.both (λ m k n writes kept. both_after t m k n kept (keeps_both t m k apart writes))) in
    let others : Told old mid (KeepsBut t) = told_from _ _ _ _ c.open_reached.ensures.holds
    (told_then _ _ _ _ _ _ c.fill.ensures.others c.clear.ensures.others (λ m k n writes kept x a b e f. kept x a b e f ∙ keeps_but t m k writes x a b e f)) in
    let gone : (more : ℕ) → RoseAtMost more b0 b1 → Told old mid (λ m n. working_left t n ≤ more) = λ more few. told_from _ _ _ _ c.open_reached.ensures.holds
    (told_then _ _ _ _ _ _ c.fill.ensures.others (c.clear.ensures.gone more few) (λ m k n writes left. left)) in
    subst (λ (v : FourNames). Ends v old new before now c.recover.result) named
    (ends_again t d size old mid new before b0 b1 now c.in_ok-opened.ensures.table both others (omega (arith, opened, filled)) c.clear.ensures.later gone c.recover.result
    (subst (λ (v : FourNames). Ends v mid new b1 now c.recover.result) (sym named) c.recover.ensures.ends))

pub returns-clause-files : goal.returns-clause-files
returns-clause-files g c =
    let t = names_of c.in_ok-table.table in
    let apart = apart_of t c.args.name.now c.in_ok-table.ensures in
    told_from _ _ _ _ c.open_reached.ensures.holds (told_then _ _ _ _ _ _ c.fill.ensures.others c.clear.ensures.both (λ m k n writes kept.
    both_old c.args.name.now t c.args.extend c.args.now m n c.in_ok-table.ensures (both_after t m k n kept (keeps_both t m k apart writes))))

pub returns-clause-ends : goal.returns-clause-ends
returns-clause-ends g c =
    let t = names_of c.in_ok-table.table in
    let opened = c.open_reached.ensures.cause.later in
    let cause = c.in-Err.ensures.cause in
    let cut : CutsOff c.in-Cut.fault = subst TellsOfNone c.in-Cut.is c.in-Err.ensures.cut in
    cut_off_ends t _ _ _ _ _ _ c.in_ok-table.ensures
    (cleared_ends t _ _ _ _ _ _ c.in-Cut.fault cut (λ file. let rose = cause.cause (ap Err (c.in-Cut.is ∙ ap Cut file)) in omega (arith, rose, opened)) (omega (arith, opened, cause.later))
    (told_from _ _ _ _ c.open_reached.ensures.holds (told_more _ _ _ _ c.fill.ensures.others (λ m n held writes. keeps_but t m n writes)))
    c.clear.ensures.later c.clear.ensures.others c.clear.ensures.gone)
