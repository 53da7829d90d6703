use Rattle.std.proofs.Common.{suc, ◌≡◌, nat_cmp, length, Some, refl, sym, ap, ◌∙◌, arith}
use Rattle.std.proofs.lemmas.Result.{err_from_is_err_and}
use Rattle.std.specs.BTreeSet.{insert_key}
use Rattle.myi_btree.specs.Walk.{Node}
use Rattle.myi_btree.specs.Nodes.{node_view}
use Rattle.myi_btree.specs.Serving.{nodes_at}
use Rattle.myi_btree.proofs.WalkLaws.{if_err, entered_ok, entered_not, entered_none, more_keys, met_more, all_more}
use Rattle.myi_btree.proofs.ServeLaws.{serves_on, reads_none, goes_same}
use Rattle.myi_btree.proofs.Inserted.{asks_more, asks_none}
use Rattle.myi_btree.proofs.CanLaws.{asks}
use Rattle.myi_btree.proofs.walk.enter.Goals as goal

pub returns-then-not-is_apart-clause-damaged : goal.returns-then-not-is_apart-clause-damaged
returns-then-not-is_apart-clause-damaged g c = λ p e v seen k.
    entered_not c.args.setup.place.block_length (nodes_at c.args.setup.place v) c.args.at c.args.visited.now.places.keys seen c.is_apart.result k.has c.is_apart.ensures c.if-not-is_apart.true

pub returns-then-not-is_apart-clause-cache : goal.returns-then-not-is_apart-clause-cache
returns-then-not-is_apart-clause-cache g c = reads_none (g.F.Files.holds c.args.files.now) c.args.cache.now

pub returns-then-not-is_apart-clause-served : goal.returns-then-not-is_apart-clause-served
returns-then-not-is_apart-clause-served g c = λ v seen k. k.goes

pub returns-then-not-is_apart-clause-asked : goal.returns-then-not-is_apart-clause-asked
returns-then-not-is_apart-clause-asked g c = λ v seen k. asks_none c.args.setup.place v _ c.args.cache.now c.args.visited.now.places.keys _ _ k.goes (omega arith)

pub returns-in_err-node-clause-damaged : goal.returns-in_err-node-clause-damaged
returns-in_err-node-clause-damaged g c =
    let e = err_from_is_err_and c.from_residual.result c.from_residual.ensures.1 in
    if_err c.from_residual.result e.0 _ e.1
    (λ p d v seen k.
    let f = c.in_err-node.ensures.damaged p (sym e.2 ∙ d) in
    entered_none c.args.setup.place.block_length (nodes_at c.args.setup.place v) c.args.at seen (f.1 v (asks _ _ _ _ _ _ _ k)))

pub returns-in_err-node-clause-served : goal.returns-in_err-node-clause-served
returns-in_err-node-clause-served g c = λ v seen k. record {
  serves = serves_on c.args.setup.place v _ _ c.args.cache.now c.load_node.new.cache c.args.at (asks _ _ _ _ _ _ _ k) c.load_node.ensures.cache c.load_node.ensures.stays c.load_node.ensures.added;
  named = k.goes.named;
  ascends = k.goes.ascends;
}

pub returns-in_err-node-clause-asked : goal.returns-in_err-node-clause-asked
returns-in_err-node-clause-asked g c = λ v seen k.
    let long : length (insert_key nat_cmp c.args.visited.now.places.keys c.args.at) ≡ suc (length c.args.visited.now.places.keys) = more_keys c.args.setup.place.block_length c.args.visited.now.places.keys (insert_key nat_cmp c.args.visited.now.places.keys c.args.at) c.args.at c.is_apart.result (omega (arith, c.requires.placed.least)) c.is_apart.ensures c.if-not-is_apart.false refl in
    asks_more c.args.setup.place v _ _ c.args.cache.now c.load_node.new.cache c.args.at c.args.visited.now.places.keys _ _ (asks _ _ _ _ _ _ _ k) c.load_node.ensures.cache c.load_node.ensures.stays c.load_node.ensures.added k.goes.named k.goes.ascends long c.load_node.ensures.once

pub returns-in_err-insert-clause-served : goal.returns-in_err-insert-clause-served
returns-in_err-insert-clause-served g c = λ v seen k. goes_same c.args.setup.place v _ c.load_node.new.cache c.args.visited.now (record c.args.visited.now { places = c.insert.new.self }) c.in_err-insert.ensures.err (record {
  serves = serves_on c.args.setup.place v _ _ c.args.cache.now c.load_node.new.cache c.args.at (asks _ _ _ _ _ _ _ k) c.load_node.ensures.cache c.load_node.ensures.stays c.load_node.ensures.added;
  named = k.goes.named;
  ascends = k.goes.ascends;
})

pub returns-in_err-insert-clause-asked : goal.returns-in_err-insert-clause-asked
returns-in_err-insert-clause-asked g c = λ v seen k.
    let long : length (insert_key nat_cmp c.args.visited.now.places.keys c.args.at) ≡ suc (length c.args.visited.now.places.keys) = more_keys c.args.setup.place.block_length c.args.visited.now.places.keys (insert_key nat_cmp c.args.visited.now.places.keys c.args.at) c.args.at c.is_apart.result (omega (arith, c.requires.placed.least)) c.is_apart.ensures c.if-not-is_apart.false refl in
    asks_more c.args.setup.place v _ _ c.args.cache.now c.load_node.new.cache c.args.at c.args.visited.now.places.keys _ _ (asks _ _ _ _ _ _ _ k) c.load_node.ensures.cache c.load_node.ensures.stays c.load_node.ensures.added k.goes.named k.goes.ascends long c.load_node.ensures.once

pub returns-in_err-insert-clause-most : goal.returns-in_err-insert-clause-most
returns-in_err-insert-clause-most g c = omega (arith, c.load_node.ensures.once, ap length c.in_err-insert.ensures.err)

pub returns-clause-served : goal.returns-clause-served
returns-clause-served g c = λ v seen k. record {
  serves = serves_on c.args.setup.place v _ _ c.args.cache.now c.load_node.new.cache c.args.at (asks _ _ _ _ _ _ _ k) c.load_node.ensures.cache c.load_node.ensures.stays c.load_node.ensures.added;
  named = all_more c.args.visited.now.places.keys c.insert.new.self.keys c.args.at v.asked c.in_ok-insert.ensures.keys k.asked k.goes.named;
  ascends = c.insert.ensures.ordered;
}

pub returns-clause-asked : goal.returns-clause-asked
returns-clause-asked g c = λ v seen k.
    let long : length (insert_key nat_cmp c.args.visited.now.places.keys c.args.at) ≡ suc (length c.args.visited.now.places.keys) = more_keys c.args.setup.place.block_length c.args.visited.now.places.keys (insert_key nat_cmp c.args.visited.now.places.keys c.args.at) c.args.at c.is_apart.result (omega (arith, c.requires.placed.least)) c.is_apart.ensures c.if-not-is_apart.false refl in
    asks_more c.args.setup.place v _ _ c.args.cache.now c.load_node.new.cache c.args.at c.args.visited.now.places.keys _ _ (asks _ _ _ _ _ _ _ k) c.load_node.ensures.cache c.load_node.ensures.stays c.load_node.ensures.added k.goes.named k.goes.ascends long c.load_node.ensures.once

pub returns-clause-once : goal.returns-clause-once
returns-clause-once g c = omega (arith, c.load_node.ensures.once, more_keys c.args.setup.place.block_length c.args.visited.now.places.keys c.insert.new.self.keys c.args.at c.is_apart.result (omega (arith, c.requires.placed.least)) c.is_apart.ensures c.if-not-is_apart.false c.in_ok-insert.ensures.keys)

pub returns-clause-most : goal.returns-clause-most
returns-clause-most g c = omega (arith, c.load_node.ensures.once, more_keys c.args.setup.place.block_length c.args.visited.now.places.keys c.insert.new.self.keys c.args.at c.is_apart.result (omega (arith, c.requires.placed.least)) c.is_apart.ensures c.if-not-is_apart.false c.in_ok-insert.ensures.keys)

pub returns-clause-counted : goal.returns-clause-counted
returns-clause-counted g c = (1, omega (arith, more_keys c.args.setup.place.block_length c.args.visited.now.places.keys c.insert.new.self.keys c.args.at c.is_apart.result (omega (arith, c.requires.placed.least)) c.is_apart.ensures c.if-not-is_apart.false c.in_ok-insert.ensures.keys), c.in_ok-node.ensures.counted)

pub returns-clause-node : goal.returns-clause-node
returns-clause-node g c = λ v seen k.
    entered_ok c.args.setup.place.block_length (nodes_at c.args.setup.place v) c.args.at c.args.visited.now.places.keys seen (node_view c.in_ok-node.node) c.is_apart.result k.has c.is_apart.ensures c.if-not-is_apart.false (c.in_ok-node.ensures.node v (asks _ _ _ _ _ _ _ k))
    ∙ ap (λ (n : Node). Some n) (sym c.«open».ensures.left)

pub returns-clause-met : goal.returns-clause-met
returns-clause-met g c = λ seen has. met_more c.args.visited.now.places.keys seen c.insert.new.self.keys c.args.at c.in_ok-insert.ensures.keys
    (more_keys c.args.setup.place.block_length c.args.visited.now.places.keys c.insert.new.self.keys c.args.at c.is_apart.result (omega (arith, c.requires.placed.least)) c.is_apart.ensures c.if-not-is_apart.false c.in_ok-insert.ensures.keys) has
