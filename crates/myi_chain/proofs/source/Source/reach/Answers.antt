use Rattle.std.proofs.Common.{◌≤◌, ◌+◌, List, ℕ, length, ap, arith}
use Rattle.std.specs.Prelude.{string_bytes}
use Rattle.myi_chain.proofs.SourceLemmas.{reads_on, reads_short, over_held, held_here}
use Rattle.myi_chain.proofs.source.Source.reach.Goals as goal

pub returns-in_err-stretch-clause-reads : goal.returns-in_err-stretch-clause-reads
returns-in_err-stretch-clause-reads g c =
    let i = c.self.inside in
    reads_on (g.F.Files.holds c.args.files.now) c.args.self.now (string_bytes i.name) c.as_str.result.now i.end i.window c.stretch.new.self c.self.view_is c.as_str.ensures.value c.requires.ready c.stretch.ensures.goes.stands

pub returns-then-size-count-clause-reads : goal.returns-then-size-count-clause-reads
returns-then-size-count-clause-reads g c =
    let i = c.self.inside in
    reads_on (g.F.Files.holds c.args.files.now) c.args.self.now (string_bytes i.name) c.as_str.result.now i.end i.window c.stretch.new.self c.self.view_is c.as_str.ensures.value c.requires.ready c.stretch.ensures.goes.stands

pub returns-clause-reads : goal.returns-clause-reads
returns-clause-reads g c =
    let i = c.self.inside in
    let h = c.args.block.now in
    let few = ap (λ (xs : List ℕ). length xs) c.bytes_from-count.ensures in
    let here = ap (λ (xs : List ℕ). length xs) (held_here h.head.at c.stretch.new.self c.stretch.ensures.goes.from) in
    let falls : h.head.at + length c.bytes_from-count.result.now ≤ i.end = omega (arith, few, here, c.stretch.ensures.goes.from, c.stretch.ensures.goes.inside) in
    reads_short (g.F.Files.holds c.args.files.now) c.args.self.now (string_bytes i.name) c.as_str.result.now i.end (h.head.at + length c.bytes_from-count.result.now) i.window c.stretch.new.self c.self.view_is c.as_str.ensures.value c.requires.ready c.stretch.ensures.goes.stands falls
    (λ m held. over_held c.args.self.now (string_bytes i.name) c.as_str.result.now i.end h.head.at h.head.size i.window c.stretch.new.self m c.self.view_is c.as_str.ensures.value (c.requires.ready m held) c.requires.block.place.inside c.stretch.ensures.goes.from (c.in_ok-stretch.ensures.over m held) (omega (arith, c.if-size-count.false, few)))
