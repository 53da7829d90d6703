-- Pairs that are sorted in place.
use Rattle.std.proofs.Common.{◌≡◌, List, sym, ap, ◌∙◌}
use Rattle.std.specs.List.{AllByRecursion}
use Rattle.std.proofs.lemmas.List.Sorted.{All-permutation, IsPermutation-refl}
use Rattle.std.proofs.lemmas.List.Elements.{All-from_recursion, recursion_from_All}
use Rattle.myi_keylist.specs.declared.pair.Pair.{Pair}
use Rattle.myi_keylist.specs.PairOrder.{sorted}
use Rattle.myi_keylist.proofs.CallerLemmas.{sorted_permutes, sorted_sorted, sorted_is}

-- what holds of all pairs holds of all once they are sorted
pub sorted_all : (P : Pair → Type 0) (ps : List Pair) → AllByRecursion P ps → AllByRecursion P (sorted ps)
sorted_all P ps all = recursion_from_All P (sorted ps) (All-permutation P ps (sorted ps) (sorted_permutes ps) (All-from_recursion P ps all))

sorted_again : (ps : List Pair) → sorted (sorted ps) ≡ sorted ps
sorted_again ps = sym (sorted_is (sorted ps) (sorted ps) (IsPermutation-refl (sorted ps)) (sorted_sorted ps))

pub same_sorted : (old new : List Pair) → new ≡ sorted old → sorted new ≡ sorted old
same_sorted old new is = ap sorted is ∙ sorted_again old

pub sorted_self : (old new : List Pair) → new ≡ sorted old → sorted new ≡ new
sorted_self old new is = same_sorted old new is ∙ sym is
