use Rattle.std.proofs.Common.{◌≡◌, ◌∙◌, ◌++◌, ◌+◌, ◌-◌, take, drop, length, ap, arith}
use Rattle.std.proofs.lemmas.Grind.{common_steps}
use Rattle.std.proofs.lemmas.List.{length-take-le}
use Rattle.myi_base.specs.Holding.{bytes_of}
use Rattle.myi_window.specs.Excerpt.{Excerpt}
use Rattle.myi_window.proofs.ExcerptLemmas.{full_of}
use Rattle.myi_window.proofs.window.Window.read_to.Goals as goal

pub returns-clause-full : goal.returns-clause-full
returns-clause-full g c m held shows =
    let i = c.self.inside in
    let from : i.from ≡ c.args.self.now.from = ap (λ (w : Excerpt). w.from) c.self.view_is in
    let grown = c.grow.new.buffer.items in
    let kept : take c.grow.new.buffer.len (c.read_behind.new.buffer ++ drop (length c.read_behind.new.buffer) grown) ≡ c.read_behind.new.buffer = grind (arith, common_steps) in
    ap (take (i.count + c.in_ok-count.count)) kept ∙ full_of c.args.self.now i.count c.in_ok-count.count (c.args.end - i.from - i.count) i.from c.args.end i.buffer.items grown c.deref_mut.result.now c.read_behind.new.buffer (bytes_of c.args.name.now m) c.self.view_is c.deref_mut.ensures.value c.grow.ensures.front c.self.invariant.1 (omega (arith, c.requires.inside, from, ap (λ (w : Excerpt). length w.bytes) c.self.view_is, length-take-le i.count i.buffer.items c.self.invariant.1)) shows (c.in_ok-count.ensures.told m held)
