use Rattle.std.proofs.Common.{sym, ◌∙◌}
use Rattle.myi_mergelist.specs.MergeList.{lines}
use Rattle.myi_mergelist.proofs.MethodLemmas.{method_back}
use Rattle.myi_mergelist.proofs.laws.lists_say_one_thing.Goals as goal

pub returns : goal.returns
returns c = λ text members others method other a b. (a.names_are ∙ sym b.names_are, sym (method_back (lines text) method a.method_is) ∙ method_back (lines text) other b.method_is)
