use Rattle.std.proofs.Common.{subst, sym}
use Rattle.std.specs.Prelude.{IfErr}
use Rattle.myi_slots.specs.SlotFile.{ByCause, Never}
use Rattle.myi_rows.specs.Refusals.{LacksEnd, LacksEndBy}
use Rattle.myi_rows.proofs.FormatLaws.{static_by, dynamic_by}
use Rattle.myi_rows.proofs.row_file.RowFile.insert_at_end.Goals.{in-Static, in-Dynamic}
use Rattle.myi_rows.proofs.row_file.RowFile.insert_at_end.Goals as goal

pub returns-clause-causes : goal.returns-clause-causes
returns-clause-causes g c = elim c.match-self.branch [
  | in-Static w ↦
      subst (λ r. IfErr r (ByCause Never (LacksEnd c.args.self.now.file c.args.row.now) Never)) (sym w.result-is)
      (static_by (λ k f. IfErr w.insert_at_end.result (ByCause Never (LacksEndBy k f.file c.args.row.now) Never)) _ _ _ w.in-Static.is c.self.view_is c.self.invariant.1 w.insert_at_end.ensures.causes)
  | in-Dynamic w ↦
      subst (λ r. IfErr r (ByCause Never (LacksEnd c.args.self.now.file c.args.row.now) Never)) (sym w.result-is)
      (dynamic_by (λ k f. IfErr w.insert_at_end-in-Dynamic.result (ByCause Never (LacksEndBy k f.file c.args.row.now) Never)) _ _ _ w.in-Dynamic.is c.self.view_is c.self.invariant.1 w.insert_at_end-in-Dynamic.ensures.causes)
]
