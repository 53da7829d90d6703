use Rattle.std.proofs.Common.{sym, ◌∙◌, arith, ap}
use Rattle.myi_keycache.proofs.OrderLemmas.{split}
use Rattle.myi_keycache.proofs.HitLemmas.{some_index, index_within, counted_place, hit_hot, hit_warm, is_warm}
use Rattle.myi_keycache.specs.Order.{Order}
use Rattle.std.specs.Prelude.{is_some}
use Rattle.std.proofs.lemmas.Option.{same_Some}
use Rattle.myi_keycache.proofs.blocks.Blocks.ask.Goals as goal

pub move_to_hot_end-requires : goal.move_to_hot_end-requires
move_to_hot_end-requires c =
    let x = some_index _ c.requires in
    ap is_some (counted_place c.args.self.now c.count_hit.new.self x.0 c.args.name.at c.args.name.size x.1 (c.count_hit.ensures.page x.0 x.1))

pub move_to_warm_end-requires-clause-kept : goal.move_to_warm_end-requires-clause-kept
move_to_warm_end-requires-clause-kept c =
    let x = some_index _ c.requires in
    ap is_some (counted_place c.args.self.now c.count_hit.new.self x.0 c.args.name.at c.args.name.size x.1 (c.count_hit.ensures.page x.0 x.1))

pub move_to_warm_end-requires-clause-warm : goal.move_to_warm_end-requires-clause-warm
move_to_warm_end-requires-clause-warm c i at s =
    let x = some_index _ c.requires in
    let place = counted_place c.args.self.now c.count_hit.new.self x.0 c.args.name.at c.args.name.size x.1 (c.count_hit.ensures.page x.0 x.1) in
    let same = same_Some _ _ (sym place ∙ at) in
    let s = split c.args.self.now.pages x.0 (index_within c.args.name.at c.args.name.size c.args.self.now.pages x.0 x.1) in
    let w = ap (λ (o : Order). o.warm) (c.count_hit.ensures.page x.0 x.1 s) in
    omega (arith, same, w, is_warm c.args.self.now x.0 s.page (sym (c.count_hit.ensures.hot x.0 x.1 s) ∙ c.if-count_hit.false))

pub returns-then-count_hit : goal.returns-then-count_hit
returns-then-count_hit c =
    let x = some_index _ c.requires in
    let place = counted_place c.args.self.now c.count_hit.new.self x.0 c.args.name.at c.args.name.size x.1 (c.count_hit.ensures.page x.0 x.1) in
    let h = hit_hot c.args.self.now c.count_hit.new.self c.move_to_hot_end.new.self x.0 c.args.name.at c.args.name.size x.1 (index_within c.args.name.at c.args.name.size c.args.self.now.pages x.0 x.1) c.count_hit.ensures.warm (c.count_hit.ensures.page x.0 x.1) (λ s. sym c.if-count_hit.true ∙ c.count_hit.ensures.hot x.0 x.1 s) (c.move_to_hot_end.ensures x.0 place) in
    record { lists = h.lists; setup = h.setup; alike = h.alike }

pub returns-else-count_hit : goal.returns-else-count_hit
returns-else-count_hit c =
    let x = some_index _ c.requires in
    let place = counted_place c.args.self.now c.count_hit.new.self x.0 c.args.name.at c.args.name.size x.1 (c.count_hit.ensures.page x.0 x.1) in
    let h = hit_warm c.args.self.now c.count_hit.new.self c.move_to_warm_end.new.self x.0 c.args.name.at c.args.name.size x.1 (index_within c.args.name.at c.args.name.size c.args.self.now.pages x.0 x.1) c.count_hit.ensures.warm (c.count_hit.ensures.page x.0 x.1) (λ s. sym c.if-count_hit.false ∙ c.count_hit.ensures.hot x.0 x.1 s) (c.move_to_warm_end.ensures x.0 place) in
    record { lists = h.lists; setup = h.setup; alike = h.alike }
