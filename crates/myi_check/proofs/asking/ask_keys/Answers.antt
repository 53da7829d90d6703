use Rattle.std.proofs.Common.{◌≡◌, ◌∙◌, ◌<◌, ◌+◌, suc, length, refl, sym, ap, subst, arith}
use Rattle.myi_defs.proofs.CallerLemmas.{sound}
use Rattle.myi_data.specs.Keys.{IsKeyNumber}
use Rattle.myi_btree.specs.Sizes.{IsPlaced}
use Rattle.myi_pair.specs.KeyList.{pairs_of}
use Rattle.myi_pair.proofs.CallerLemmas.{placed}
use Rattle.myi_check.specs.declared.walks.TreeKey.{TreeKey}
use Rattle.myi_check.specs.Rows.{rows_in}
use Rattle.myi_check.specs.Keys.{HasSoFar}
use Rattle.myi_check.specs.Sections.{AreInOrder}
use Rattle.myi_check.proofs.OrderLaws.{wider}
use Rattle.myi_check.proofs.KeysLaws.{found_first, found_all, key_next, rooted, none_sized}
use Rattle.myi_check.proofs.asking.ask_keys.Goals as goal

pub first_page-requires : goal.first_page-requires
first_page-requires g c = sound c.args.defs.now c.requires.defs

pub loop-key-init : goal.loop-key-init
loop-key-init g c = record {
  number = c.new-found.ensures.number;
  sized = none_sized c.new-found.result.busy.trees.items c.new-found.ensures.none;
  order = subst (AreInOrder 2 (1 + c.new-found.result.number)) (sym c.new-found.ensures.findings) (omega (arith, c.new-found.ensures.number));
  holds = refl;
  faults = omega arith;
  so_far = λ m held x d there file roots scanned. found_first c.args.defs.now x (rows_in c.args.defs.now d) c.new-found.result c.new-found.ensures.findings (c.new-found.ensures.first ∙ c.first_page.ensures.value) c.new-found.ensures.none c.new-found.ensures.walks c.new-found.ensures.bytes;
}

pub ask_key-requires-clause-asked : goal.ask_key-requires-clause-asked
ask_key-requires-clause-asked g c κs lives =
    let was = c.loop-key.invariant in
    record {
      sound = sound c.args.defs.now c.requires.defs;
      number = (omega (arith, was.number), omega (arith, was.number, c.loop-key-test.true, c.requires.roots));
    }

pub ask_key-requires-clause-placed : goal.ask_key-requires-clause-placed
ask_key-requires-clause-placed g c κs lives =
    let was = c.loop-key.invariant in
    let d = c.args.defs.now in
    let keyed : IsKeyNumber d c.loop-key.found.number = (omega (arith, was.number), omega (arith, was.number, c.loop-key-test.true, c.requires.roots)) in
    subst IsPlaced (sym (ap (λ (k : TreeKey). k.place) c.tree_key-tree.ensures)) (rooted d c.loop-key.found.number _ (placed d (sound d c.requires.defs) c.loop-key.found.number keyed))

pub ask_key-requires-clause-number : goal.ask_key-requires-clause-number
ask_key-requires-clause-number g c κs lives = omega (arith, c.loop-key.invariant.number, c.loop-key-test.true, c.requires.roots, (sound c.args.defs.now c.requires.defs).few_keys)

pub loop-key-preserved : goal.loop-key-preserved
loop-key-preserved g c =
    let was = c.loop-key.invariant in
    let d = c.args.defs.now in
    let i = c.loop-key._key in
    let one = c.in_ok-ask_key.ensures in
    let on = c.if-not-branch.false in
    let inside : i < length d.keys = omega (arith, c.loop-key-test.true, c.requires.roots) in
    let next : suc i ≡ i + 1 = omega arith in
    record {
      number = omega (arith, one.number on, was.number);
      sized = one.sized on;
      order = one.order on was.order;
      holds = c.ask_key.ensures.holds ∙ was.holds;
      faults = omega (arith, was.faults, c.ask_key.ensures.cause.later);
      so_far = λ m held x file there is roots scanned.
          let rows = rows_in d file in
          let numbered : c.loop-key.found.number ≡ suc i = was.number ∙ sym next in
          subst (λ n. HasSoFar d x rows n c.ask_key.new.found) next
          (key_next d x rows i c.args.roots.now _ c.tree_key-tree.result (pairs_of d c.loop-key.found.number rows) c.loop-key.found c.ask_key.new.found inside c.requires.roots roots was.number c.tree_key-tree.ensures (ap (λ k. pairs_of d k rows) numbered) (one.shows on m (was.holds ∙ held) x file there is scanned) (was.so_far m held x file there is roots scanned));
    }

pub returns-clause-found : goal.returns-clause-found
returns-clause-found g c = λ m held x d there file roots scanned.
    found_all c.args.defs.now x (rows_in c.args.defs.now d) c.loop-key._key c.loop-key.found c.into_found.result (omega (arith, c.loop-key-test.false, c.requires.roots, c.loop-key.auto)) c.into_found.ensures.fits (ap (λ v. v.items) c.into_found.ensures.findings) c.into_found.ensures.bytes (c.loop-key.invariant.so_far m held x d there file roots scanned)

pub returns-clause-order : goal.returns-clause-order
returns-clause-order g c =
    let was = c.loop-key.invariant in
    subst (AreInOrder 2 256) (sym (ap (λ v. v.items) c.into_found.ensures.findings))
    (wider 2 (1 + c.loop-key.found.number) 256 c.loop-key.found.findings.items (omega (arith, was.number, c.loop-key-test.false, c.requires.roots, c.loop-key.auto, (sound c.args.defs.now c.requires.defs).few_keys)) was.order)
