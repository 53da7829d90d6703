use Rattle.std.proofs.Common.{refl}
use Rattle.myi_repair.proofs.KeepLaws.{written_none}
use Rattle.myi_repair.proofs.new_rows.NewRows.new.Goals as goal

pub returns : goal.returns
returns c d choose = written_none d choose _ refl refl refl c.new.ensures
