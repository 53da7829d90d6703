use Rattle.std.proofs.Common.{◌≡◌, ℕ, sym, subst, ◌∙◌, arith}
use Rattle.std.specs.Prelude.{IfErr, Any}
use Rattle.std.proofs.lemmas.Result.{err_from_is_err_and}
use Rattle.myi_defs.specs.declared.types.Defs.{Defs}
use Rattle.myi_pack.specs.Packed.{Values}
use Rattle.myi_search.proofs.CallerLemmas.{counts_on}
use Rattle.myi_rowtrees.specs.Duplicates.{MayRepeat}
use Rattle.myi_table.specs.declared.fault.ChangeFault.{ChangeFault}
use Rattle.myi_table.specs.Faults.{CutsOff}
use Rattle.myi_slots.specs.SlotFile.{Never}
use Rattle.myi_table.specs.Refusals.{ByCause}
use Rattle.myi_table.proofs.ChangeLemmas.{any_room}
use Rattle.myi_table.specs.Table.{defs_in, IfHolds}
use Rattle.myi_table.proofs.FoldLemmas.{folds_more, folds_all, folds_cut, same_then, others_then}
use Rattle.myi_table.proofs.table.Table.fold.Goals as goal

pub returns-in_err-insert_at_end-clause-cut : goal.returns-in_err-insert_at_end-clause-cut
returns-in_err-insert_at_end-clause-cut g c =
    let e = err_from_is_err_and c.from_residual-in_err-insert_at_end.result c.from_residual-in_err-insert_at_end.ensures.1 in
    let k = c.loop-i.invariant in
    subst (λ r. IfErr r (λ f. IfHolds (g.F.Files.holds c.args.files.now) c.args.self.now (λ m s. CutsOff f))) (sym e.1)
    (subst (λ (f : ChangeFault). IfHolds (g.F.Files.holds c.args.files.now) c.args.self.now (λ m s. CutsOff f)) (sym e.2)
    (folds_cut c.keyed_refusals_come_in_order.ensures.accepted c.args.rows.now c.loop-i.i c.index-rows-i.result (g.F.Files.holds c.args.files.now) (g.F.Files.holds c.loop-i.files) c.args.self.now c.loop-i.self c.in_err-insert_at_end.field-0.0
    c.loop-i-test.true (sym c.index-rows-i.is) k.same.defs c.requires.can k.folds c.in_err-insert_at_end.ensures.refused))

pub returns-in_err-insert_at_end-clause-causes : goal.returns-in_err-insert_at_end-clause-causes
returns-in_err-insert_at_end-clause-causes g c =
    let e = err_from_is_err_and c.from_residual-in_err-insert_at_end.result c.from_residual-in_err-insert_at_end.ensures.1 in
    let rows = c.args.rows.now in
    let row = c.index-rows-i.result in
    let H : ℕ → Type 0 = λ key. Any (λ (r : Values). MayRepeat (defs_in c.args.self.now) r key) rows in
    let more : (key : ℕ) → MayRepeat (defs_in c.loop-i.self) row key → H key =
    λ key may. (c.loop-i.i, row, c.loop-i-test.true, sym c.index-rows-i.is, subst (λ (d : Defs). MayRepeat d row key) c.loop-i.invariant.same.defs may) in
    subst (λ r. IfErr r (ByCause Never H (Unit {0}))) (sym e.1) (subst (ByCause Never H (Unit {0})) (sym e.2) (any_room Never (MayRepeat (defs_in c.loop-i.self) row) H _ c.in_err-insert_at_end.field-0.0 more c.in_err-insert_at_end.ensures.causes))

pub loop-i-preserved : goal.loop-i-preserved
loop-i-preserved g c =
    let k = c.loop-i.invariant in
    let n = c.in_ok-insert_at_end.ensures in
    record {
      folds = folds_more c.args.rows.now c.loop-i.i c.index-rows-i.result (g.F.Files.holds c.args.files.now) (g.F.Files.holds c.loop-i.files) (g.F.Files.holds c.insert_at_end.new.files) c.args.self.now c.loop-i.self c.insert_at_end.new.self c.in_ok-insert_at_end.field-0
          c.loop-i-test.true (sym c.index-rows-i.is) k.same.defs k.folds n.made;
      kept = n.kept;
      same = same_then c.args.self.now c.loop-i.self c.insert_at_end.new.self k.same n.same;
      whole = n.broken ∙ k.whole;
      was = k.was;
      others = others_then (g.F.Files.holds c.args.files.now) (g.F.Files.holds c.loop-i.files) (g.F.Files.holds c.insert_at_end.new.files) c.args.self.now.name c.loop-i.self.name k.same.name k.others n.others;
      counted = counts_on c.args.self.now.rows.trees.cache c.loop-i.self.rows.trees.cache c.insert_at_end.new.self.rows.trees.cache k.counted n.counted;
      changed = λ some. n.changed;
      none = λ zero. absurd (omega (arith, zero));
      marked = λ was. n.changed;
      faults = let one = k.faults in let two = n.cause.later in omega (arith, one, two);
    }

pub returns-clause-folded : goal.returns-clause-folded
returns-clause-folded g c = folds_all c.args.rows.now c.loop-i.i (g.F.Files.holds c.args.files.now) (g.F.Files.holds c.loop-i.files) c.args.self.now c.loop-i.self c.loop-i-test.false c.loop-i.invariant.folds
