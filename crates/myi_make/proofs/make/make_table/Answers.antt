use Rattle.std.proofs.Common.{◌≡◌, ◌⊎◌, None, sym, subst, arith}
use Rattle.std.specs.Prelude.{IfErr}
use Rattle.std.proofs.lemmas.Result.{err_from_is_err_and}
use Rattle.myi_make.specs.Faults.{CutsOff}
use Rattle.myi_make.specs.MadeTable.{damaged_file}
use Rattle.myi_make.proofs.MakeLaws.{repaired_told, refused_untold, check_untold, leaves_told}
use Rattle.myi_make.proofs.make.make_table.Goals as goal

pub returns-in_err-report-clause-refused : goal.returns-in_err-report-clause-refused
returns-in_err-report-clause-refused g c =
    let e = err_from_is_err_and c.from_residual-in_err-report.result c.from_residual-in_err-report.ensures.1 in
    subst (λ r. IfErr r (λ f. CutsOff f ⊎ (g.F.Files.holds c.args.files.now ≡ None))) (sym e.1)
    (refused_untold c.args.name.now c.args.count c.args.seed _ e.0 _ _ _ c.requires.few e.2 c.in_ok-make_damaged.ensures.made c.in_err-report.ensures.ends.reason)

pub returns-in_err-found-clause-refused : goal.returns-in_err-found-clause-refused
returns-in_err-found-clause-refused g c =
    let e = err_from_is_err_and c.from_residual-in_err-found.result c.from_residual-in_err-found.ensures.1 in
    let told = repaired_told c.args.name.now c.args.count c.args.seed c.args.now c.in_ok-report.report _ _ _ c.requires.few (omega arith) (λ m held. g.met.F.Files.told_bytes c.make_damaged.new.files m held) c.in_ok-make_damaged.ensures.made c.in_ok-report.ensures.repaired in
    subst (λ r. IfErr r (λ f. CutsOff f ⊎ (g.F.Files.holds c.args.files.now ≡ None))) (sym e.1)
    (check_untold c.args.name.now c.args.now (damaged_file c.args.count c.args.seed) c.in_ok-report.report _ e.0 _ _ e.2 told c.in_err-found.ensures.refused)

pub returns-clause-made : goal.returns-clause-made
returns-clause-made g c =
    let told = repaired_told c.args.name.now c.args.count c.args.seed c.args.now c.in_ok-report.report _ _ _ c.requires.few (omega arith) (λ m held. g.met.F.Files.told_bytes c.make_damaged.new.files m held) c.in_ok-make_damaged.ensures.made c.in_ok-report.ensures.repaired in
    leaves_told c.args.name.now c.args.count c.args.seed c.args.now _ _ _ _ c.check.ensures.holds told c.in_ok-found.ensures.findings
