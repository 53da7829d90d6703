use Rattle.myi_dellist.proofs.CallerLemmas.{end-counts, end-grows, end-tile, end-place}
use Rattle.myi_dellist.proofs.laws.appended_rows_tile.Goals as goal

pub returns : goal.returns
returns c = record { counts = end-counts; grows = end-grows; tile = end-tile; place = end-place }
