use Rattle.std.proofs.Common.{subst, sym}
use Rattle.std.specs.Prelude.{IfErr}
use Rattle.myi_slots.specs.SlotFile.{ByCause, Never}
use Rattle.myi_rows.specs.Refusals.{LacksRoom, LacksRoomBy, FindsBad, FindsBadBy}
use Rattle.myi_rows.proofs.FormatLaws.{static_by, dynamic_by}
use Rattle.myi_rows.proofs.row_file.RowFile.insert.Goals.{in-Static, in-Dynamic}
use Rattle.myi_rows.proofs.row_file.RowFile.insert.Goals as goal

pub returns-clause-causes : goal.returns-clause-causes
returns-clause-causes g c = elim c.match-self.branch [
  | in-Static w ↦
      subst (λ r. IfErr r (ByCause Never (LacksRoom c.args.self.now.file c.args.row.now (g.F.Files.holds c.args.files.now)) (FindsBad c.args.self.now.file c.args.row.now (g.F.Files.holds c.args.files.now)))) (sym w.result-is)
      (static_by (λ k f. IfErr w.insert.result (ByCause Never (LacksRoomBy k f.file c.args.row.now (g.F.Files.holds c.args.files.now)) (FindsBadBy k f.file c.args.row.now (g.F.Files.holds c.args.files.now)))) _ _ _ w.in-Static.is c.self.view_is c.self.invariant.1 w.insert.ensures.causes)
  | in-Dynamic w ↦
      subst (λ r. IfErr r (ByCause Never (LacksRoom c.args.self.now.file c.args.row.now (g.F.Files.holds c.args.files.now)) (FindsBad c.args.self.now.file c.args.row.now (g.F.Files.holds c.args.files.now)))) (sym w.result-is)
      (dynamic_by (λ k f. IfErr w.insert-in-Dynamic.result (ByCause Never (LacksRoomBy k f.file c.args.row.now (g.F.Files.holds c.args.files.now)) (FindsBadBy k f.file c.args.row.now (g.F.Files.holds c.args.files.now)))) _ _ _ w.in-Dynamic.is c.self.view_is c.self.invariant.1 w.insert-in-Dynamic.ensures.causes)
]
