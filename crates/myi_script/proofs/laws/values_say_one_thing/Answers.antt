use Rattle.std.proofs.Common.{◌≡◌, Some, sym, ◌∙◌}
use Rattle.myi_script.proofs.ValueLemmas.{value_back}
use Rattle.myi_script.proofs.laws.values_say_one_thing.Goals as goal

pub returns : goal.returns
returns c = λ f w v u one two. let e : Some v ≡ Some u = sym (value_back f w v one) ∙ value_back f w u two in cc
