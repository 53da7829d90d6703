use Rattle.myi_snapshots.proofs.KnownLemmas.{read, values, first, few}
use Rattle.myi_snapshots.proofs.laws.known_rows_are_first.Goals as goal

pub returns : goal.returns
returns c = record { read = read; values = values; first = first; few = few }
