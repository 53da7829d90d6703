use Rattle.std.proofs.Common.{None, refl}
use Rattle.myi_mergelist.specs.MergeList.{lines}
use Rattle.myi_mergelist.specs.Reading.{method_of}
use Rattle.myi_mergelist.proofs.MethodLemmas.{method_read}
use Rattle.myi_mergelist.proofs.laws.texts_that_are_lists.Goals as goal

pub returns : goal.returns
returns c = λ text utf8 some few once. (
  method_of None (lines text),
  record {
    utf8 = utf8;
    names_are = refl;
    some = some;
    few = few;
    once = once;
    method_is = method_read (lines text) (method_of None (lines text)) refl;
  },
)
