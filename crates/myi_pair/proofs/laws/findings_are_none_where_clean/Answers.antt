use Rattle.myi_pair.proofs.FoundLaws.{none_where_clean, clean_where_none, none_recovered}
use Rattle.myi_pair.proofs.laws.findings_are_none_where_clean.Goals as goal

pub returns : goal.returns
returns c = record { none = none_where_clean; clean = clean_where_none; recovered = none_recovered }
