use Rattle.std.proofs.Common.{◌≡◌, subst, sym}
use Rattle.std.specs.Prelude.{IfOk}
use Rattle.std.proofs.lemmas.Result.{IfOk-weaker}
use Rattle.myi_base.specs.Holding.{IfTold}
use Rattle.myi_rows.specs.RowFile.{IsRowAt, ReadsFew}
use Rattle.myi_rows.proofs.FormatLaws.{static_row, dynamic_row, static_few, dynamic_few, dynamic_known}
use Rattle.myi_rows.proofs.row_file.RowFile.read_at.Goals.{in-Static, in-Dynamic}
use Rattle.myi_rows.proofs.row_file.RowFile.read_at.Goals as goal

pub returns-clause-there : goal.returns-clause-there
returns-clause-there g c = elim c.match-self.branch [
  | in-Static w ↦
      subst (λ r. IfOk r (λ row. IfTold (g.F.Files.holds c.args.files.now) (IsRowAt c.args.self.now.file c.args.at row))) (sym w.result-is)
      (IfOk-weaker w.read_at.result _ _ (λ row found m told. static_row _ _ _ _ _ m w.in-Static.is c.self.view_is c.self.invariant.1 (found m told)) w.read_at.ensures.there)
  | in-Dynamic w ↦
      subst (λ r. IfOk r (λ row. IfTold (g.F.Files.holds c.args.files.now) (IsRowAt c.args.self.now.file c.args.at row))) (sym w.result-is)
      (IfOk-weaker w.read_at-in-Dynamic.result _ _ (λ row found m told. dynamic_row _ _ _ _ _ m w.in-Dynamic.is c.self.view_is c.self.invariant.1 (found m told)) w.read_at-in-Dynamic.ensures.there)
]

pub returns-clause-few : goal.returns-clause-few
returns-clause-few g c = elim c.match-self.branch [
  | in-Static w ↦ λ known m told. subst (λ f. ReadsFew c.args.self.now.file c.args.at (g.F.Files.reads c.args.files.now) (g.F.Files.reads f) m) (sym w.files-is)
      (static_few _ _ _ _ _ _ m w.in-Static.is c.self.view_is c.self.invariant.1 w.read_at.ensures.few)
  | in-Dynamic w ↦ λ known m told. subst (λ f. ReadsFew c.args.self.now.file c.args.at (g.F.Files.reads c.args.files.now) (g.F.Files.reads f) m) (sym w.files-is)
      (dynamic_few _ _ _ _ _ _ m w.in-Dynamic.is c.self.view_is c.self.invariant.1 (w.read_at-in-Dynamic.ensures.few (dynamic_known _ _ _ w.in-Dynamic.is c.self.view_is c.self.invariant.1 known) m told))
]
