use Rattle.myi_ranges.proofs.RowLemmas.{position_named}
use Rattle.myi_ranges.proofs.laws.pointers_lead_to_rows.Goals as goal

pub returns : goal.returns
returns c = position_named
