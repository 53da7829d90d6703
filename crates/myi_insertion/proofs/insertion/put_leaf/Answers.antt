use Rattle.std.proofs.Common.{◌≡◌, ℕ, List, [], ◌∷◌, ◌++◌, Some, length, take, drop, refl, sym, ap, subst, ◌∙◌, arith}
use Rattle.std.specs.Prelude.{is_some}
use Rattle.myi_keys.specs.Comparing.{key_front}
use Rattle.myi_keylist.specs.declared.pair.Pair.{Pair}
use Rattle.myi_keylist.specs.PairOrder.{pair_with}
use Rattle.myi_btree.specs.Walk.{node_with}
use Rattle.myi_insertion.proofs.PageLaws.{pair_again, is_code_of}
use Rattle.myi_btree.specs.Nodes.{node_in}
use Rattle.myi_insertion.specs.Spots.{with_pair}
use Rattle.myi_insertion.proofs.WriteLaws.{wrote}
use Rattle.myi_insertion.proofs.LeafLaws.{leaf_lays}
use Rattle.myi_insertion.proofs.SplitLaws.{if_some, pair_written}
use Rattle.myi_insertion.proofs.SpotLaws.{same_node, leaf_fills}
use Rattle.myi_insertion.proofs.insertion.put_leaf.Goals as goal

pub with_pair-requires-clause-inside : goal.with_pair-requires-clause-inside
with_pair-requires-clause-inside g c =
    let r = c.requires.spot (ap is_some (sym c.in_ok-leaf.ensures.node)) in
    let same = same_node c.in_ok-leaf.leaf.pairs r.pairs c.in_ok-leaf.leaf.children.items r.children _ c.in_ok-leaf.ensures.node r.stands in
    omega (arith, r.inside, ap length same.0)

pub with_pair-requires-clause-code : goal.with_pair-requires-clause-code
with_pair-requires-clause-code g c = is_code_of c.code.result.now c.args.task.now.pair.now c.code.ensures.key c.code.ensures.value

pub settle-requires-clause-page : goal.settle-requires-clause-page
settle-requires-clause-page g c = λ κs lives.
    let p : Pair = c.args.task.now.pair.now in
    let r = c.requires.spot (ap is_some (sym c.in_ok-leaf.ensures.node)) in
    let i : ℕ = c.args.page.now.spot.index in
    let leaf = c.in_ok-leaf.leaf in
    let code : pair_with (key_front c.code.result.now) p.row ≡ p = pair_again c.code.result.now p.row p c.code.ensures.key c.code.ensures.value refl in
    let same = same_node leaf.pairs r.pairs leaf.children.items r.children _ c.in_ok-leaf.ensures.node r.stands in
    pair_written c.args.task.now.setup.place.rec_ref i leaf.pairs c.in_ok-grown.grown.pairs leaf.children.items c.in_ok-grown.grown.children.items p c.in_ok-leaf.ensures.written (omega (arith, r.inside, ap length same.0)) c.requires.row c.code.ensures.key
    (c.in_ok-grown.ensures.pairs ∙ ap (λ (q : Pair). (take i leaf.pairs ++ q ∷ []) ++ drop i leaf.pairs) code) c.in_ok-grown.ensures.children

pub returns-clause-settles : goal.returns-clause-settles
returns-clause-settles g c = λ m held pairs stands.
    let p : Pair = c.args.task.now.pair.now in
    let i : ℕ = c.args.page.now.spot.index in
    let leaf = c.in_ok-leaf.leaf in
    let code : pair_with (key_front c.code.result.now) p.row ≡ p = pair_again c.code.result.now p.row p c.code.ensures.key c.code.ensures.value refl in
    let same = same_node leaf.pairs pairs leaf.children.items [] _ c.in_ok-leaf.ensures.node stands in
    leaf_fills c.args.task.now.setup.place c.args.cache.now (g.F.Files.holds c.args.files.now) c.args.room.now c.args.at i p leaf.pairs pairs c.in_ok-grown.grown.pairs c.in_ok-grown.grown.children.items (g.F.Files.holds c.settle.new.files) c.settle.new.cache c.settle.new.room c.in_ok-strip.strip.places.items c.in_ok-strip.strip.separators same.0
    (c.in_ok-grown.ensures.pairs ∙ ap (λ (q : Pair). (take i leaf.pairs ++ q ∷ []) ++ drop i leaf.pairs) code) c.in_ok-grown.ensures.children c.in_ok-strip.ensures.settles m held

pub returns-in-Some-clause-settles : goal.returns-in-Some-clause-settles
returns-in-Some-clause-settles g c = λ m held pairs stands height xs below stand can.
    let place = c.args.task.now.setup.place in
    let node = node_with (with_pair c.args.page.now.spot.index c.args.task.now.pair.now pairs) [] in
    let read = if_some c.in_ok-bytes.field-0 c.in-Some.bytes (λ bytes. (pairs : List Pair) → node_in place.rec_ref c.args.page.now.bytes.items ≡ Some (node_with pairs []) → node_in place.rec_ref bytes.items ≡ Some (node_with (with_pair c.args.page.now.spot.index c.args.task.now.pair.now pairs) [])) c.in-Some.is c.in_ok-bytes.ensures.bytes in
    let long = if_some c.in_ok-bytes.field-0 c.in-Some.bytes (λ bytes. length bytes.items ≡ place.block_length) c.in-Some.is c.in_ok-bytes.ensures.long in
    leaf_lays place c.args.cache.now m (g.F.Files.holds c.args.files.now) (g.F.Files.holds c.put.new.files) c.put.new.self c.args.at below c.args.room.now height xs (with_pair c.args.page.now.spot.index c.args.task.now.pair.now pairs) [] c.in_ok-same.same.places.items c.in_ok-same.same.separators
    (let l = c.requires.placed.least in omega arith) held
    (λ m held pages room can here. wrote place c.args.cache.now m pages room (g.F.Files.holds c.args.files.now) (g.F.Files.holds c.put.new.files) c.put.new.self c.args.at c.deref.result.now node c.requires.placed held c.requires.at.0 (ap length c.deref.ensures.value ∙ long) (ap (node_in place.rec_ref) c.deref.ensures.value ∙ read pairs stands) c.in_ok-put.ensures.ok c.put.ensures.others c.put.ensures.added c.put.ensures.name can here)
    stand can c.in_ok-same.ensures.places c.in_ok-same.ensures.separators
