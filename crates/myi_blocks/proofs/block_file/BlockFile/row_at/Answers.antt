use Rattle.std.proofs.Common.{subst}
use Rattle.std.specs.Prelude.{IfOk}
use Rattle.myi_base.specs.Holding.{IfTold}
use Rattle.myi_blocks.specs.RowReading.{IsRowAt, ReadsFew}
use Rattle.myi_blocks.specs.Places.{NotedFile}
use Rattle.myi_blocks.proofs.block_file.BlockFile.row_at.Goals as goal

pub returns-clause-told : goal.returns-clause-told
returns-clause-told g c = subst (λ (f : NotedFile). IfOk c.read_row.result (λ row. IfTold (g.F.Files.holds c.args.files.now) (IsRowAt f.file c.args.at row))) c.self.view_is c.read_row.ensures.told

pub returns-clause-few : goal.returns-clause-few
returns-clause-few g c m held = subst (λ (f : NotedFile). ReadsFew f.file c.args.at (g.F.Files.reads c.args.files.now) (g.F.Files.reads c.read_row.new.files) m) c.self.view_is (c.read_row.ensures.few m held)
