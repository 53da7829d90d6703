use Rattle.myi_keycache.proofs.LeaveLemmas.{first_old, first_young, no_hot}
use Rattle.myi_keycache.proofs.laws.hot_pages_age.Goals as goal

pub returns : goal.returns
returns c = record { old = first_old; young = first_young; none = no_hot }
