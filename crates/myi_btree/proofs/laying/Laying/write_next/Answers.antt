use Rattle.std.proofs.Common.{◌≡◌, ◌+◌, ℕ, suc, not, eqb, Bool, List, length, take, drop, sym, ap, subst, ◌∙◌, arith}
use Rattle.myi_keylist.specs.declared.pair.Pair.{Pair}
use Rattle.myi_btree.specs.Walk.{Node, node_with}
use Rattle.myi_btree.specs.Nodes.{page_of_node}
use Rattle.myi_btree.specs.Sizes.{IsCount}
use Rattle.myi_btree.specs.Levels.{FitsPage}
use Rattle.myi_btree.specs.Laying.{pairs_left, children_left}
use Rattle.myi_btree.proofs.FitCount.{few_on}
use Rattle.myi_btree.proofs.LayingLaws.{fits_next}
use Rattle.myi_btree.proofs.laying.Laying.write_next.Goals as goal

pub overflow_add-count : goal.overflow_add-count
overflow_add-count c =
    let few = few_on c.args.self.now.setup.place _ _ c.page_count-count.result c.requires.placed c.page_count-count.ensures.count in
    omega (arith, few)

pub write_pairs-requires-clause-page : goal.write_pairs-requires-clause-page
write_pairs-requires-clause-page c =
    let place = c.args.self.now.setup.place in
    let count : ℕ = c.page_count-count.result in
    let pairs : List Pair = pairs_left c.args.self.now in
    let children : List ℕ = children_left c.args.self.now in
    let pairs_are : drop c.args.self.now.start c.pairs_of-pairs.result.now ≡ pairs = ap (λ (t : List Pair). drop c.args.self.now.start t) c.pairs_of-pairs.ensures in
    let children_are : c.children_at.result.1.now ≡ children = c.children_at.ensures.back ∙ ap (λ (t : List ℕ). drop c.args.self.now.start t) c.deref.ensures.value in
    let flag : not c.is_empty.result ≡ not (eqb (length children) 0) = ap not (c.is_empty.ensures ∙ ap (λ (t : List ℕ). eqb (length t) 0) children_are) in
    let is : IsCount place (not (eqb (length children) 0)) pairs count = subst (λ (b : Bool). IsCount place b pairs count) flag (subst (λ (t : List Pair). IsCount place (not c.is_empty.result) t count) pairs_are c.page_count-count.ensures.count) in
    let one : count + 1 ≡ suc count = omega arith in
    let first : c.children_at-2.result.0.now ≡ take (suc count) children = c.children_at-2.ensures.front ∙ ap (λ (n : ℕ). take n c.children_at.result.1.now) one ∙ ap (take (suc count)) children_are in
    let node : node_with (take count (drop c.args.self.now.start c.pairs_of-pairs.result.now)) c.children_at-2.result.0.now ≡ node_with (take count pairs) (take (suc count) children) =
    ap (λ (t : List Pair). node_with (take count t) c.children_at-2.result.0.now) pairs_are ∙ ap (node_with (take count pairs)) first in
    subst (λ (n : Node). FitsPage place (page_of_node n)) (sym node) (fits_next place pairs children count c.requires.level is)
