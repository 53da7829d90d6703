use Rattle.std.proofs.Common.{sym, ◌∙◌, length}
use Rattle.myi_pair.specs.FirstRows.{key_numbers}
use Rattle.myi_rowtrees.proofs.PairLemmas.{numbers_long}
use Rattle.myi_rowtrees.proofs.PlaceLemmas.{to_trees, of_trees}
use Rattle.myi_rowtrees.proofs.laws.trees_of_pairs_are_trees.Goals as goal

pub returns : goal.returns
returns c = record {
  there = λ d x busy roots walks have. to_trees d x busy (key_numbers d) roots walks have;
  back = λ d x busy roots walks same have. of_trees d x busy (key_numbers d) roots walks (same ∙ sym (numbers_long 1 (length d.keys))) have;
}
