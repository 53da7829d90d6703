use Rattle.std.proofs.Common.{◌≡◌, ◌∙◌, ◌<◌, ◌+◌, suc, [], ◌∷◌, ◌++◌, length, refl, sym, ap, subst, arith}
use Rattle.std.proofs.lemmas.List.{length_push}
use Rattle.std.proofs.lemmas.Iterator.Adapters.{YieldsList-from_vec}
use Rattle.std.proofs.lemmas.Iterator.Consumers.{YieldsList-turn, YieldsList-end}
use Rattle.myi_defs.proofs.CallerLemmas.{sound}
use Rattle.myi_data.specs.Keys.{IsKeyNumber}
use Rattle.myi_btree.specs.Sizes.{IsPlaced}
use Rattle.myi_pair.proofs.CallerLemmas.{placed}
use Rattle.myi_check.specs.declared.walks.TreeKey.{TreeKey}
use Rattle.myi_check.specs.Keys.{HasSoFar}
use Rattle.myi_check.specs.Sections.{AreInOrder}
use Rattle.myi_check.proofs.OrderLaws.{wider}
use Rattle.myi_check.proofs.KeysLaws.{found_first, found_all, key_next, list_is, rooted, none_sized}
use Rattle.myi_check.proofs.keys.check_keys.Goals as goal

pub first_page-requires : goal.first_page-requires
first_page-requires g c = sound c.args.defs.now c.requires.defs

pub loop-pairs-init : goal.loop-pairs-init
loop-pairs-init g c = record {
  number = c.new-found.ensures.number;
  sized = none_sized c.new-found.result.busy.trees.items c.new-found.ensures.none;
  order = subst (AreInOrder 2 (1 + c.new-found.result.number)) (sym c.new-found.ensures.findings) (omega (arith, c.new-found.ensures.number));
  holds = refl;
  faults = omega arith;
  so_far = λ m held x rows is roots lists. found_first c.args.defs.now x rows c.new-found.result c.new-found.ensures.findings (c.new-found.ensures.first ∙ c.first_page.ensures.value) c.new-found.ensures.none c.new-found.ensures.walks c.new-found.ensures.bytes;
}

pub check_key-requires-clause-placed : goal.check_key-requires-clause-placed
check_key-requires-clause-placed g c κs lives =
    let was = c.loop-pairs.invariant in
    let d = c.args.defs.now in
    let items = c.into_vec-pairs-items.result in
    let given = c.into_iter-pairs-iterator.ensures.into_iter_gives in
    let turn = YieldsList-turn (YieldsList-from_vec {s = c.into_iter-pairs-iterator.result} items.items given.0 (omega (arith, given.1, items.ok.0))) c.loop-pairs.yielded c.loop-pairs.pairs-iterator c.loop-pairs.yielded_by c.next.result c.next.new.self c.in-Some.pairs c.in-Some.is c.next.ensures.steps in
    let inside : length c.loop-pairs.yielded < length d.keys = omega (arith, turn.0, ap length c.into_vec-pairs-items.ensures, c.requires.lists) in
    let keyed : IsKeyNumber d c.loop-pairs.found.number = (omega (arith, was.number), omega (arith, was.number, inside)) in
    subst IsPlaced (sym (ap (λ (k : TreeKey). k.place) c.tree_key-key.ensures)) (rooted d c.loop-pairs.found.number _ (placed d (sound d c.requires.defs) c.loop-pairs.found.number keyed))

pub check_key-requires-clause-number : goal.check_key-requires-clause-number
check_key-requires-clause-number g c κs lives =
    let items = c.into_vec-pairs-items.result in
    let given = c.into_iter-pairs-iterator.ensures.into_iter_gives in
    let turn = YieldsList-turn (YieldsList-from_vec {s = c.into_iter-pairs-iterator.result} items.items given.0 (omega (arith, given.1, items.ok.0))) c.loop-pairs.yielded c.loop-pairs.pairs-iterator c.loop-pairs.yielded_by c.next.result c.next.new.self c.in-Some.pairs c.in-Some.is c.next.ensures.steps in
    omega (arith, turn.0, ap length c.into_vec-pairs-items.ensures, c.requires.lists, (sound c.args.defs.now c.requires.defs).few_keys, c.loop-pairs.invariant.number)

pub loop-pairs-preserved : goal.loop-pairs-preserved
loop-pairs-preserved g c =
    let was = c.loop-pairs.invariant in
    let d = c.args.defs.now in
    let i = length c.loop-pairs.yielded in
    let ps = c.in-Some.pairs in
    let items = c.into_vec-pairs-items.result in
    let given = c.into_iter-pairs-iterator.ensures.into_iter_gives in
    let turn = YieldsList-turn (YieldsList-from_vec {s = c.into_iter-pairs-iterator.result} items.items given.0 (omega (arith, given.1, items.ok.0))) c.loop-pairs.yielded c.loop-pairs.pairs-iterator c.loop-pairs.yielded_by c.next.result c.next.new.self ps c.in-Some.is c.next.ensures.steps in
    let inside : i < length d.keys = omega (arith, turn.0, ap length c.into_vec-pairs-items.ensures, c.requires.lists) in
    let one = c.in_ok-check_key.ensures in
    record {
      number = omega (arith, one.number, was.number, length_push c.loop-pairs.yielded ps);
      sized = one.sized;
      order = one.order was.order;
      holds = c.check_key.ensures.holds ∙ was.holds;
      faults = omega (arith, was.faults, c.check_key.ensures.cause.later);
      so_far = λ m held x rows is roots lists.
          subst (λ n. HasSoFar d x rows n c.check_key.new.found) (let e : suc i ≡ length (c.loop-pairs.yielded ++ ps ∷ []) = omega (arith, length_push c.loop-pairs.yielded ps) in e)
          (key_next d x rows i c.args.roots.now _ c.tree_key-key.result ps c.loop-pairs.found c.check_key.new.found inside c.requires.roots roots was.number c.tree_key-key.ensures (list_is d rows items.items c.args.lists i ps c.into_vec-pairs-items.ensures lists inside turn.1) (one.shows m (was.holds ∙ held) x is) (was.so_far m held x rows is roots lists));
    }

pub returns-clause-found : goal.returns-clause-found
returns-clause-found g c = λ m held x rows is roots lists.
    let was = c.loop-pairs.invariant in
    let items = c.into_vec-pairs-items.result in
    let given = c.into_iter-pairs-iterator.ensures.into_iter_gives in
    let all = YieldsList-end (YieldsList-from_vec {s = c.into_iter-pairs-iterator.result} items.items given.0 (omega (arith, given.1, items.ok.0))) c.loop-pairs.yielded c.loop-pairs.pairs-iterator c.loop-pairs.yielded_by c.next.result c.next.new.self c.in-None.is c.next.ensures.steps in
    found_all c.args.defs.now x rows (length c.loop-pairs.yielded) c.loop-pairs.found c.into_found.result (omega (arith, all.1, ap length c.into_vec-pairs-items.ensures, c.requires.lists)) c.into_found.ensures.fits (ap (λ v. v.items) c.into_found.ensures.findings) c.into_found.ensures.bytes (was.so_far m held x rows is roots lists)

pub returns-clause-order : goal.returns-clause-order
returns-clause-order g c =
    let was = c.loop-pairs.invariant in
    let items = c.into_vec-pairs-items.result in
    let given = c.into_iter-pairs-iterator.ensures.into_iter_gives in
    let all = YieldsList-end (YieldsList-from_vec {s = c.into_iter-pairs-iterator.result} items.items given.0 (omega (arith, given.1, items.ok.0))) c.loop-pairs.yielded c.loop-pairs.pairs-iterator c.loop-pairs.yielded_by c.next.result c.next.new.self c.in-None.is c.next.ensures.steps in
    subst (AreInOrder 2 256) (sym (ap (λ v. v.items) c.into_found.ensures.findings))
    (wider 2 (1 + c.loop-pairs.found.number) 256 c.loop-pairs.found.findings.items (omega (arith, was.number, all.1, ap length c.into_vec-pairs-items.ensures, c.requires.lists, (sound c.args.defs.now c.requires.defs).few_keys)) was.order)
