use Rattle.std.proofs.Common.{rules, ◌≡◌, ◌++◌, length, Option, refl, ap, ◌∙◌}
use Rattle.std.specs.Prelude.{option_to_list, vec_len}
use Rattle.myi_inserter.specs.declared.unique_key.UniqueKey.{UniqueKey}
use Rattle.myi_inserter.proofs.NoteLemmas.{on_ok, none_noted, one_noted, some_room, all_noted, none_left}
use Rattle.myi_inserter.proofs.put_keys.put_keys.Goals as goal

pub loop-key-init : goal.loop-key-init
loop-key-init c = none_noted c.args.keys.items c.args.keys.items c.args.put.now c.args.at refl c.requires

pub loop-key-preserved : goal.loop-key-preserved
loop-key-preserved c =
    let left = c.pop.ensures.items ∙ ap (λ (o : Option UniqueKey). c.pop.new.self.items ++ option_to_list o) c.in-Some.is in
    let room = some_room c.args.keys.items c.loop-key.left.items c.pop.new.self.items c.args.put.now c.loop-key.put c.args.at c.in-Some.key c.loop-key.invariant left in
    one_noted c.args.keys.items c.loop-key.left.items c.pop.new.self.items c.args.put.now c.loop-key.put c.insert.new.self c.args.at c.in-Some.key c.loop-key.invariant left (on_ok c.insert.result (c.insert.ensures.succeeds room) c.insert.ensures.updates) c.insert.ensures.spare

pub returns : goal.returns
returns c =
    let long : vec_len c.loop-key.left ≡ length c.loop-key.left.items = search rules in
    all_noted c.args.keys.items c.loop-key.left.items c.args.put.now c.loop-key.put c.args.at c.loop-key.invariant (none_left c.loop-key.left.items (vec_len c.loop-key.left) c.pop.result long c.pop.ensures.variant c.in_default.is)
