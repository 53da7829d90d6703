use Rattle.std.proofs.Common.{rules, ◌≡◌, ◌∙◌, ◌+◌, ◌%◌, ◌<◌, List, [], ◌∷◌, ◌++◌, length, get_or, unwrap_or, ap, sym, arith}
use Rattle.std.proofs.lemmas.List.{length_push, get_or_default}
use Rattle.std.proofs.lemmas.Iterator.Adapters.{YieldsList-from_vec}
use Rattle.std.proofs.lemmas.Iterator.Consumers.{YieldsList-turn, YieldsList-end}
use Rattle.myi_base.specs.Holding.{bytes_of}
use Rattle.myi_base.proofs.CallerLemmas.{told_more, told_then}
use Rattle.myi_keylist.specs.declared.pair.Pair.{Pair}
use Rattle.myi_keylist.specs.PairOrder.{sorted}
use Rattle.myi_pair.specs.Trees.{place_of}
use Rattle.myi_repair.specs.LaidInMemory.{IsTreeOf}
use Rattle.myi_repair.proofs.TreeLaws.{laid_all, holds_all}
use Rattle.myi_repair.proofs.MovedLaws.{begin_laid, begin_held, next_laid, next_held}
use Rattle.myi_repair.proofs.laid.put_trees.Goals as goal

pub put_tree-requires-clause-end : goal.put_tree-requires-clause-end
put_tree-requires-clause-end g c κs lives = (c.loop-tree.invariant.laid c.requires.laid.0 c.requires.laid.1).whole

pub put_tree-requires-clause-tree : goal.put_tree-requires-clause-tree
put_tree-requires-clause-tree g c κs lives =
    let pairs = c.requires.laid.0 in
    let are = c.requires.laid.1 in
    let i = length c.loop-tree.yielded in
    let given = c.into_iter-tree-iterator.ensures.into_iter_gives in
    let turn = YieldsList-turn (YieldsList-from_vec {s = c.into_iter-tree-iterator.result} c.args.laid.items given.0 (omega (arith, given.1, c.args.laid.ok.0))) c.loop-tree.yielded c.loop-tree.tree-iterator c.loop-tree.yielded_by c.next.result c.next.new.self c.in-Some.tree c.in-Some.is c.next.ensures.steps in
    (place_of c.args.defs.now (i + 1), sorted (get_or pairs i []), are.each i (omega (arith, turn.0, are.count)) c.in-Some.tree turn.1)

pub loop-tree-preserved : goal.loop-tree-preserved
loop-tree-preserved g c =
    let was = c.loop-tree.invariant in
    let d = c.args.defs.now in
    let i = length c.loop-tree.yielded in
    let tree = c.in-Some.tree in
    let end = c.loop-tree.trees.end in
    let given = c.into_iter-tree-iterator.ensures.into_iter_gives in
    let turn = YieldsList-turn (YieldsList-from_vec {s = c.into_iter-tree-iterator.result} c.args.laid.items given.0 (omega (arith, given.1, c.args.laid.ok.0))) c.loop-tree.yielded c.loop-tree.tree-iterator c.loop-tree.yielded_by c.next.result c.next.new.self tree c.in-Some.is c.next.ensures.steps in
    let one = c.put_tree.ensures in
    let more : length (c.loop-tree.yielded ++ tree ∷ []) ≡ i + 1 = length_push c.loop-tree.yielded tree in
    record {
      laid = λ pairs are.
          let inside : i < length pairs = omega (arith, turn.0, are.count) in
          let ps : List Pair = get_or pairs i [] in
          let is : IsTreeOf (place_of d (i + 1)) (sorted ps) tree = are.each i inside tree turn.1 in
          next_laid d pairs i end ps tree inside are.all (get_or_default pairs i [] ps inside) is (length (c.loop-tree.yielded ++ tree ∷ [])) more c.put_tree.new.trees.end c.loop-tree.trees.roots.items c.put_tree.new.trees.roots.items c.in_ok-put_tree.ensures.fits
          (c.in_ok-put_tree.ensures.root (place_of d (i + 1)) (sorted ps) is) (c.in_ok-put_tree.ensures.end (place_of d (i + 1)) (sorted ps) is) (was.laid pairs are);
      told = λ pairs are.
          let inside : i < length pairs = omega (arith, turn.0, are.count) in
          let ps : List Pair = get_or pairs i [] in
          let is : IsTreeOf (place_of d (i + 1)) (sorted ps) tree = are.each i inside tree turn.1 in
          told_then _ _ _ _ _ _ (was.told pairs are) (c.in_ok-put_tree.ensures.written (place_of d (i + 1)) (sorted ps) is) (λ m k n held wrote.
          next_held d pairs i end ps tree inside are.all (get_or_default pairs i [] ps inside) is (length (c.loop-tree.yielded ++ tree ∷ [])) more c.put_tree.new.trees.end c.loop-tree.trees.roots.items (bytes_of c.args.file.now k) (bytes_of c.args.file.now n) c.in_ok-put_tree.ensures.fits
          (c.in_ok-put_tree.ensures.end (place_of d (i + 1)) (sorted ps) is) (was.laid pairs are) (ap (λ o. unwrap_or o []) wrote.here) held);
      others = told_then _ _ _ _ _ _ was.others one.ends.others (λ m k n first second q differs. second q differs ∙ first q differs);
      later = omega (arith, was.later, one.ends.cause.later);
    }

pub returns-clause-built : goal.returns-clause-built
returns-clause-built g c pairs are =
    let was = c.loop-tree.invariant in
    let d = c.args.defs.now in
    let given = c.into_iter-tree-iterator.ensures.into_iter_gives in
    let all = YieldsList-end (YieldsList-from_vec {s = c.into_iter-tree-iterator.result} c.args.laid.items given.0 (omega (arith, given.1, c.args.laid.ok.0))) c.loop-tree.yielded c.loop-tree.tree-iterator c.loop-tree.yielded_by c.next.result c.next.new.self c.in-None.is c.next.ensures.steps in
    let whole = laid_all d pairs (length c.loop-tree.yielded) c.loop-tree.trees.end c.loop-tree.trees.roots.items (all.1 ∙ are.count) are.all (was.laid pairs are) in
    told_more _ _ _ _ (was.told pairs are) (λ m n held before. holds_all d pairs (length c.loop-tree.yielded) c.loop-tree.trees.end (bytes_of c.args.file.now n) (all.1 ∙ are.count) are.all whole.1 before)

pub returns-clause-trees : goal.returns-clause-trees
returns-clause-trees g c pairs are =
    let was = c.loop-tree.invariant in
    let d = c.args.defs.now in
    let given = c.into_iter-tree-iterator.ensures.into_iter_gives in
    let all = YieldsList-end (YieldsList-from_vec {s = c.into_iter-tree-iterator.result} c.args.laid.items given.0 (omega (arith, given.1, c.args.laid.ok.0))) c.loop-tree.yielded c.loop-tree.tree-iterator c.loop-tree.yielded_by c.next.result c.next.new.self c.in-None.is c.next.ensures.steps in
    let whole = laid_all d pairs (length c.loop-tree.yielded) c.loop-tree.trees.end c.loop-tree.trees.roots.items (all.1 ∙ are.count) are.all (was.laid pairs are) in
    record { roots = whole.0; end = whole.1 }

pub returns-clause-places : goal.returns-clause-places
returns-clause-places g c = (c.loop-tree.invariant.laid c.requires.laid.0 c.requires.laid.1).places

pub loop-tree-init : goal.loop-tree-init
loop-tree-init g c =
    let d = c.args.defs.now in
    let made = c.in_ok-trees.ensures in
    let start = made.end ∙ c.first_page.ensures.value in
    record {
      laid = λ pairs are. begin_laid d pairs c.in_ok-trees.trees.end c.in_ok-trees.trees.roots.items made.roots start (ap (λ n. n % 1024) (sym c.first_page.ensures.value) ∙ c.first_page.ensures.multiple);
      told = λ pairs are. told_more _ _ _ _ c.in_ok-cut.ensures.ok (λ m n held cut. begin_held d pairs c.in_ok-trees.trees.end c.args.file.now m n start cut);
      others = told_more _ _ _ _ c.in_ok-cut.ensures.ok (λ m n held cut. cut.others);
      later = c.in_ok-cut.ensures.cause.later;
    }

pub returns-in_err-put_tree-clause-ends : goal.returns-in_err-put_tree-clause-ends
returns-in_err-put_tree-clause-ends g c =
    let was = c.loop-tree.invariant in
    let one = c.put_tree.ensures.ends in
    record {
      cut = search rules;
      others = told_then _ _ _ _ _ _ was.others one.others (λ m k n first second q differs. second q differs ∙ first q differs);
      cause = search rules;
    }
