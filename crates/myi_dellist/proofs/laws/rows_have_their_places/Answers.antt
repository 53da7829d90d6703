use Rattle.myi_dellist.proofs.FirstLemmas.{update-place, place-new}
use Rattle.myi_dellist.proofs.laws.rows_have_their_places.Goals as goal

pub returns : goal.returns
returns c = record { updated = update-place; inserted = place-new }
