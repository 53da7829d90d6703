use Rattle.std.proofs.Common.{◌≡◌, subst, sym}
use Rattle.std.specs.Prelude.{IfOk}
use Rattle.std.proofs.lemmas.Result.{IfOk-weaker}
use Rattle.myi_base.specs.Holding.{IfTold}
use Rattle.myi_rows.specs.RowFile.{IsRowAt, ReadsFew}
use Rattle.myi_rows.proofs.FormatLaws.{static_there, dynamic_there, static_row, dynamic_row, static_few, dynamic_few}
use Rattle.myi_rows.proofs.row_file.RowFile.row_at.Goals.{in-Static, in-Dynamic}
use Rattle.myi_rows.proofs.row_file.RowFile.row_at.Goals as goal

pub row_at-requires-clause-there : goal.row_at-requires-clause-there
row_at-requires-clause-there g c κs live m told = static_there _ _ _ _ m c.in-Static.is c.self.view_is c.self.invariant.1 (c.requires.there m told)

pub row_at-requires-in-Dynamic-clause-there : goal.row_at-requires-in-Dynamic-clause-there
row_at-requires-in-Dynamic-clause-there g c κs live m told = dynamic_there _ _ _ _ m c.in-Dynamic.is c.self.view_is c.self.invariant.1 (c.requires.there m told)

pub returns-clause-told : goal.returns-clause-told
returns-clause-told g c = elim c.match-self.branch [
  | in-Static w ↦
      subst (λ r. IfOk r (λ row. IfTold (g.F.Files.holds c.args.files.now) (IsRowAt c.args.self.now.file c.args.at row))) (sym w.result-is)
      (IfOk-weaker w.row_at.result _ _ (λ row found m told. static_row _ _ _ _ _ m w.in-Static.is c.self.view_is c.self.invariant.1 (found m told)) w.row_at.ensures.told)
  | in-Dynamic w ↦
      subst (λ r. IfOk r (λ row. IfTold (g.F.Files.holds c.args.files.now) (IsRowAt c.args.self.now.file c.args.at row))) (sym w.result-is)
      (IfOk-weaker w.row_at-in-Dynamic.result _ _ (λ row found m told. dynamic_row _ _ _ _ _ m w.in-Dynamic.is c.self.view_is c.self.invariant.1 (found m told)) w.row_at-in-Dynamic.ensures.told)
]

pub returns-clause-few : goal.returns-clause-few
returns-clause-few g c = elim c.match-self.branch [
  | in-Static w ↦ λ m told. subst (λ f. ReadsFew c.args.self.now.file c.args.at (g.F.Files.reads c.args.files.now) (g.F.Files.reads f) m) (sym w.files-is)
      (static_few _ _ _ _ _ _ m w.in-Static.is c.self.view_is c.self.invariant.1 w.row_at.ensures.few)
  | in-Dynamic w ↦ λ m told. subst (λ f. ReadsFew c.args.self.now.file c.args.at (g.F.Files.reads c.args.files.now) (g.F.Files.reads f) m) (sym w.files-is)
      (dynamic_few _ _ _ _ _ _ m w.in-Dynamic.is c.self.view_is c.self.invariant.1 (w.row_at-in-Dynamic.ensures.few m told))
]
