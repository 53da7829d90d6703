use Rattle.std.proofs.Common.{length, sym, ap, ◌∙◌, arith}
use Rattle.myi_keycache.specs.Order.{Order}
use Rattle.myi_keycache.proofs.OrderLemmas.{split, same_length}
use Rattle.myi_keycache.proofs.AgeLemmas.{still, some_hot, first_moves, went}
use Rattle.myi_keycache.proofs.blocks.Blocks.age.Goals as goal

pub clear_hits-requires : goal.clear_hits-requires
clear_hits-requires c = some_hot c.args.self.now c.is_first_old.result c.if-is_first_old.true c.is_first_old.ensures.none

pub move_to_warm_beginning-requires : goal.move_to_warm_beginning-requires
move_to_warm_beginning-requires c =
    let lt = some_hot c.args.self.now c.is_first_old.result c.if-is_first_old.true c.is_first_old.ensures.none in
    let s = split c.args.self.now.pages c.args.self.now.warm lt in
    let is = c.clear_hits.ensures s in
    omega (arith, lt, ap (λ (o : Order). o.warm) is, ap (λ (o : Order). length o.pages) is, same_length c.args.self.now.pages c.args.self.now.warm s (record s.page { hits = 0 }))

pub returns-then-is_first_old : goal.returns-then-is_first_old
returns-then-is_first_old c =
    let lt = some_hot c.args.self.now c.is_first_old.result c.if-is_first_old.true c.is_first_old.ensures.none in
    let s = split c.args.self.now.pages c.args.self.now.warm lt in
    let a = went c.args.self.now c.move_to_warm_beginning.new.self s (sym (c.is_first_old.ensures.old s) ∙ c.if-is_first_old.true)
    (first_moves c.args.self.now c.clear_hits.new.self c.move_to_warm_beginning.new.self s (c.clear_hits.ensures s) c.move_to_warm_beginning.ensures) in
    record { lists = a.lists; setup = a.setup; alike = a.alike }

pub returns-else-is_first_old : goal.returns-else-is_first_old
returns-else-is_first_old c =
    let a = still c.args.self.now c.is_first_old.result c.if-is_first_old.false c.is_first_old.ensures.old in
    record { lists = a.lists; setup = a.setup; alike = a.alike }
