use Rattle.std.proofs.Common.{refl}
use Rattle.myi_repair.proofs.KeepLaws.{left_out}
use Rattle.myi_repair.proofs.new_rows.NewRows.leave_out.Goals as goal

pub returns : goal.returns
returns c d row s fit = left_out d row c.args.self.now _ fit refl refl refl c.in_ok-push.ensures.added s
