use Rattle.std.proofs.Common.{◌≡◌, ◌∙◌, ℕ, Option, ◌+◌, ◌^◌, ◌<◌, List, [], ◌∷◌, ◌++◌, length, ap, sym, subst, arith}
use Rattle.std.proofs.lemmas.List.{length_push}
use Rattle.std.proofs.lemmas.Iterator.Adapters.{YieldsList-from_vec}
use Rattle.std.proofs.lemmas.Iterator.Consumers.{YieldsList-turn, YieldsList-end}
use Rattle.std.specs.List.{AllByRecursion}
use Rattle.myi_base.proofs.CallerLemmas.{told_more, told_then}
use Rattle.myi_data.specs.Keys.{IsKeyNumber}
use Rattle.myi_keys.specs.Limits.{IsKey}
use Rattle.myi_keylist.specs.declared.pair.Pair.{Pair}
use Rattle.myi_btree.specs.Sizes.{IsPlaced, AreSized}
use Rattle.myi_keylist.specs.PairOrder.{sorted}
use Rattle.myi_pair.specs.Trees.{place_of}
use Rattle.myi_btree.specs.TreePages.{tree_end, CanBeLaid}
use Rattle.myi_pair.proofs.CallerLemmas.{placed}
use Rattle.myi_repair.proofs.TreeLaws.{AreLaidTo, LaysTo, sorted_sized, sorted_keys, item_is, laid_next, lays_next, laid_all, lays_all}
use Rattle.myi_repair.proofs.trees.lay_trees.Goals as goal

pub build_tree-requires-clause-placed : goal.build_tree-requires-clause-placed
build_tree-requires-clause-placed g c κs lives =
    let was = c.loop-pairs.invariant in
    let d = c.args.defs.now in
    let lists = c.args.pairs.items in
    let i = length c.loop-pairs.yielded in
    let given = c.into_iter-pairs-iterator.ensures.into_iter_gives in
    let turn = YieldsList-turn (YieldsList-from_vec {s = c.into_iter-pairs-iterator.result} lists given.0 (omega (arith, given.1, c.args.pairs.ok.0))) c.loop-pairs.yielded c.loop-pairs.pairs-iterator c.loop-pairs.yielded_by c.next.result c.next.new.self c.in-Some.pairs c.in-Some.is c.next.ensures.steps in
    let keyed : IsKeyNumber d (i + 1) = (omega arith, omega (arith, turn.0, c.requires.pairs.all)) in
    let number : c.len-in-loop-pairs.result ≡ i = omega (arith, c.len-in-loop-pairs.ensures, was.count, c.loop-pairs.trees.roots.ok.0) in
    let place : c.place_of-place.result ≡ place_of d (i + 1) = c.place_of-place.ensures ∙ ap (λ n. place_of d (n + 1)) number in
    subst IsPlaced (sym place) (placed d c.requires.sound (i + 1) keyed)

pub loop-pairs-preserved : goal.loop-pairs-preserved
loop-pairs-preserved g c =
    let was = c.loop-pairs.invariant in
    let d = c.args.defs.now in
    let lists = c.args.pairs.items in
    let i = length c.loop-pairs.yielded in
    let ps = c.in-Some.pairs in
    let end = c.loop-pairs.room.end in
    let given = c.into_iter-pairs-iterator.ensures.into_iter_gives in
    let turn = YieldsList-turn (YieldsList-from_vec {s = c.into_iter-pairs-iterator.result} lists given.0 (omega (arith, given.1, c.args.pairs.ok.0))) c.loop-pairs.yielded c.loop-pairs.pairs-iterator c.loop-pairs.yielded_by c.next.result c.next.new.self ps c.in-Some.is c.next.ensures.steps in
    let inside : i < length d.keys = omega (arith, turn.0, c.requires.pairs.all) in
    let keyed : IsKeyNumber d (i + 1) = (omega arith, omega (arith, inside)) in
    let number : c.len-in-loop-pairs.result ≡ i = omega (arith, c.len-in-loop-pairs.ensures, was.count, c.loop-pairs.trees.roots.ok.0) in
    let place : c.place_of-place.result ≡ place_of d (i + 1) = c.place_of-place.ensures ∙ ap (λ n. place_of d (n + 1)) number in
    let one = c.in_ok-root.ensures in
    let root = rw place at one.root in
    let ended : c.build_tree.new.room.end ≡ tree_end (place_of d (i + 1)) end (sorted ps) = rw place at one.end in
    let more : length (c.loop-pairs.yielded ++ ps ∷ []) ≡ i + 1 = length_push c.loop-pairs.yielded ps in
    let short : c.build_tree.new.room.end < 2 ^ 64 = c.push.ensures.fits in
    let can : CanBeLaid (place_of d (i + 1)) end (sorted ps) = record {
      placed = placed d c.requires.sound (i + 1) keyed;
      at = was.laid.whole;
      sized = sorted_sized (place_of d (i + 1)) ps (subst (AreSized (place_of d (i + 1))) (item_is lists i ps turn.0 turn.1) (c.requires.pairs.sized i inside));
      keys = sorted_keys ps (subst (λ (qs : List Pair). AllByRecursion (λ (p : Pair). IsKey p.key) qs) (item_is lists i ps turn.0 turn.1) (c.requires.pairs.keys i inside));
      room = omega (arith, short, ended);
    } in
    record {
      count = ap (λ (rs : List (Option ℕ)). length rs) c.in_ok-push.ensures.roots ∙ length_push c.loop-pairs.trees.roots.items c.in_ok-root.root ∙ omega (arith, more, was.count);
      end = c.in_ok-push.ensures.end;
      laid = subst (λ n. AreLaidTo d lists n c.build_tree.new.room.end c.push.new.self.roots.items) (sym more)
          (subst (AreLaidTo d lists (i + 1) c.build_tree.new.room.end) (sym c.in_ok-push.ensures.roots)
          (laid_next d lists i end ps turn.0 c.requires.pairs.all turn.1 c.build_tree.new.room.end c.in_ok-root.root c.loop-pairs.trees.roots.items can.placed ended short root was.laid));
      told = told_then _ _ _ _ _ _ was.told one.laid (λ m k n before laid.
          subst (λ count. LaysTo d lists count c.build_tree.new.room.end c.args.cache.now c.build_tree.new.cache m n) (sym more)
          (lays_next d lists i end ps turn.0 c.requires.pairs.all turn.1 c.build_tree.new.room.end c.args.cache.now c.loop-pairs.cache c.build_tree.new.cache m k n can ended was.name (rw place at laid) before));
      name = one.name ∙ was.name;
      later = omega (arith, was.later, one.ends.cause.later);
    }

pub returns-clause-laid : goal.returns-clause-laid
returns-clause-laid g c =
    let was = c.loop-pairs.invariant in
    let d = c.args.defs.now in
    let lists = c.args.pairs.items in
    let given = c.into_iter-pairs-iterator.ensures.into_iter_gives in
    let all = YieldsList-end (YieldsList-from_vec {s = c.into_iter-pairs-iterator.result} lists given.0 (omega (arith, given.1, c.args.pairs.ok.0))) c.loop-pairs.yielded c.loop-pairs.pairs-iterator c.loop-pairs.yielded_by c.next.result c.next.new.self c.in-None.is c.next.ensures.steps in
    told_more _ _ _ _ was.told (λ m n held before. lays_all d lists (length c.loop-pairs.yielded) c.loop-pairs.room.end c.args.cache.now c.loop-pairs.cache m n all.1 c.requires.pairs.all (laid_all d lists (length c.loop-pairs.yielded) c.loop-pairs.room.end c.loop-pairs.trees.roots.items all.1 c.requires.pairs.all was.laid).1 before)

pub returns-clause-trees : goal.returns-clause-trees
returns-clause-trees g c =
    let was = c.loop-pairs.invariant in
    let d = c.args.defs.now in
    let lists = c.args.pairs.items in
    let given = c.into_iter-pairs-iterator.ensures.into_iter_gives in
    let all = YieldsList-end (YieldsList-from_vec {s = c.into_iter-pairs-iterator.result} lists given.0 (omega (arith, given.1, c.args.pairs.ok.0))) c.loop-pairs.yielded c.loop-pairs.pairs-iterator c.loop-pairs.yielded_by c.next.result c.next.new.self c.in-None.is c.next.ensures.steps in
    let whole = laid_all d lists (length c.loop-pairs.yielded) c.loop-pairs.room.end c.loop-pairs.trees.roots.items all.1 c.requires.pairs.all was.laid in
    record { roots = whole.0; end = was.end ∙ whole.1 }
