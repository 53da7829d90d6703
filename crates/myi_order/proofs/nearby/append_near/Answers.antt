use Rattle.std.proofs.Common.{◌≤◌, ◌∙◌, ◌++◌, ℕ, List, length, take, ap, arith}
use Rattle.myi_base.specs.Holding.{bytes_of}
use Rattle.myi_window.specs.Excerpt.{bytes_from}
use Rattle.myi_order.proofs.PlaceLaws.{held_front}
use Rattle.myi_order.proofs.nearby.append_near.Goals as goal

pub returns-clause-told : goal.returns-clause-told
returns-clause-told g c m held knows =
    let at = c.args.at in
    let window = c.args.near.now.window in
    let long : c.args.count ≤ length (bytes_from at window) = omega (arith, ap (λ (xs : List ℕ). length xs) c.bytes_from-held.ensures) in
    c.in_ok-append_held.ensures
    ∙ ap (λ (xs : List ℕ). c.args.row.now.items ++ xs) (ap (take c.args.count) c.bytes_from-held.ensures ∙ held_front at c.args.count window (bytes_of c.args.name.now m) knows.stands long)
