use Rattle.myi_keylist.proofs.PointerLaws.{kept_sorted}
use Rattle.myi_keylist.proofs.laws.kept_pointers_keep_order.Goals as goal

pub returns : goal.returns
returns c = λ flags pointers pairs rise. kept_sorted flags pointers pairs rise
