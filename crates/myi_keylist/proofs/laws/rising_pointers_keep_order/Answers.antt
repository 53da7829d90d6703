use Rattle.myi_keylist.proofs.PointerLaws.{pointers_sorted}
use Rattle.myi_keylist.proofs.laws.rising_pointers_keep_order.Goals as goal

pub returns : goal.returns
returns c = λ pointers pairs rise all. pointers_sorted pointers pairs rise all
