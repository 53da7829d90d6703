use Rattle.myi_keylist.proofs.KeptLaws.{kept_listed}
use Rattle.myi_keylist.proofs.laws.kept_rows_are_listed.Goals as goal

pub returns : goal.returns
returns c = λ key rows some flags pointers long same rise. kept_listed key rows some flags pointers long same rise
