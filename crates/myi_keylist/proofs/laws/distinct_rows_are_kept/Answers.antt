use Rattle.myi_keylist.proofs.FirstLaws.{all_kept}
use Rattle.myi_keylist.proofs.laws.distinct_rows_are_kept.Goals as goal

pub returns : goal.returns
returns c = λ keys rows apart. all_kept keys rows apart
