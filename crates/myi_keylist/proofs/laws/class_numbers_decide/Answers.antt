use Rattle.myi_keylist.proofs.ClassLaws.{classes_keep}
use Rattle.myi_keylist.proofs.laws.class_numbers_decide.Goals as goal

pub returns : goal.returns
returns c = λ repeats rows columns are. classes_keep repeats rows columns are
