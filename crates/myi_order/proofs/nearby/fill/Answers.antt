use Rattle.std.proofs.Common.{◌≡◌, ◌-◌, ℕ, List, [], length, drop, arith, refl}
use Rattle.std.proofs.lemmas.List.{drop_all, length-drop}
use Rattle.myi_base.specs.Holding.{bytes_of}
use Rattle.myi_order.proofs.PlaceLaws.{filled-behind}
use Rattle.myi_order.proofs.nearby.fill.Goals as goal

pub returns-clause-told : goal.returns-clause-told
returns-clause-told g c m held long =
    let k : ℕ = length c.args.into.now - c.args.start in
    let post : List ℕ = drop k (drop c.args.start c.args.into.now) in
    let none : post ≡ [] = drop_all k (drop c.args.start c.args.into.now) (omega (arith, length-drop c.args.start c.args.into.now)) in
    filled-behind c.args.start c.args.at c.in_ok-count.count k c.args.into.now c.read_at.new.into post (bytes_of c.args.name.now m) c.requires refl long none (c.in_ok-count.ensures.told m held) (c.in_ok-count.ensures.bytes m held)
