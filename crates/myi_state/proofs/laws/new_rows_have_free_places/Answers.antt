use Rattle.myi_state.proofs.KeptLemmas.{next-free-at, end-free-at}
use Rattle.myi_state.proofs.laws.new_rows_have_free_places.Goals as goal

pub returns : goal.returns
returns c = record { next = next-free-at; end = end-free-at }
