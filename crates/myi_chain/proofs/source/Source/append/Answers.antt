use Rattle.std.proofs.Common.{◌∙◌, ◌+◌, ap, refl, arith}
use Rattle.myi_window.specs.Excerpt.{bytes_from}
use Rattle.myi_chain.specs.Source.{SourceModel}
use Rattle.myi_chain.proofs.SourceLemmas.{appends_kept, appends_rest}
use Rattle.myi_chain.proofs.source.Source.append.Goals as goal

pub returns-then-count-block-clause-told : goal.returns-then-count-block-clause-told
returns-then-count-block-clause-told g c m held b heads =
    let held_is = c.bytes_from-held.ensures ∙ ap (λ k. bytes_from (c.args.block.now.head.at + c.args.block.now.start) k) (ap (λ (s : SourceModel). s.kept) c.self.view_is) in
    (refl, appends_kept c.args.self.now m c.args.block.now b c.bytes_from-held.result.now c.min-count.result c.args.joined.now.items c.extend_from_slice.new.self.items (c.requires.ready m held) held_is (omega (arith, c.min-count.ensures)) c.if-count-block.true c.in_ok-extend_from_slice.ensures.items heads)

pub returns-clause-told : goal.returns-clause-told
returns-clause-told g c m held b heads =
    let held_is = c.bytes_from-held.ensures ∙ ap (λ k. bytes_from (c.args.block.now.head.at + c.args.block.now.start) k) (ap (λ (s : SourceModel). s.kept) c.self.view_is) in
    appends_rest c.args.self.now c.as_str.result.now m c.args.block.now b c.bytes_from-held.result.now c.min-count.result _ c.in_ok-whole.whole c.args.joined.now.items c.extend_from_slice.new.self.items c.append_range.new.joined.items (c.as_str.ensures.value ∙ ap (λ (s : SourceModel). s.name) c.self.view_is) (c.requires.ready m held) held_is (omega (arith, c.min-count.ensures)) (omega (arith, c.min-count.ensures)) c.in_ok-extend_from_slice.ensures.items (c.in_ok-whole.ensures.told m held) heads
