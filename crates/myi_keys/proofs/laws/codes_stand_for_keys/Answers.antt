use Rattle.std.proofs.Common.{refl}
use Rattle.std.proofs.lemmas.Cmp.{on_total}
use Rattle.myi_keys.specs.OrderLaws.{key_total}
use Rattle.myi_keys.specs.Codes.{key_code}
use Rattle.myi_keys.specs.Comparing.{key_front}
use Rattle.myi_keys.proofs.Fronts.{key_again, front_again, code_is, prefix_less, alike_order}
use Rattle.myi_keys.proofs.laws.codes_stand_for_keys.Goals as goal

pub returns-clause-again : goal.returns-clause-again
returns-clause-again c = front_again

pub returns-clause-code : goal.returns-clause-code
returns-clause-code c = λ key is. (code_is (key_code key) key is refl).0

pub returns-clause-order : goal.returns-clause-order
returns-clause-order c = λ one other is isnt. rw (key_again one is.0, key_again other isnt.0) refl

pub returns-clause-total : goal.returns-clause-total
returns-clause-total c = on_total key_front key_total

pub returns-clause-prefixes : goal.returns-clause-prefixes
returns-clause-prefixes c = prefix_less

pub returns-clause-alike : goal.returns-clause-alike
returns-clause-alike c = alike_order
