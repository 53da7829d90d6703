use Rattle.std.proofs.Common.{refl}
use Rattle.myi_keycache.proofs.laws.pages_written_in_turn.Goals as goal

pub returns : goal.returns
returns c = record { over = refl; apart = refl }
