use Rattle.myi_dellist.proofs.UpdateLemmas.{update-counts, update-grows, update-tile, update-holes}
use Rattle.myi_dellist.proofs.laws.placed_rows_tile.Goals as goal

pub returns : goal.returns
returns c = record { counts = update-counts; grows = update-grows; tile = update-tile; sizes = update-holes }
