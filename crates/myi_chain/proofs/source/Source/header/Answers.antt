use Rattle.std.proofs.Common.{◌∙◌, ap, subst, arith}
use Rattle.std.specs.Prelude.{string_bytes}
use Rattle.myi_window.specs.Excerpt.{EndsBy, bytes_from}
use Rattle.myi_chain.specs.Source.{SourceModel}
use Rattle.myi_chain.proofs.SourceLemmas.{none_short, kept_part, long_bytes, heads_read}
use Rattle.myi_chain.proofs.source.Source.header.Goals as goal

pub returns-then-self-at-clause-told : goal.returns-then-self-at-clause-told
returns-then-self-at-clause-told g c m held = none_short c.args.self.now m c.args.at (c.requires.ready m held) (omega (arith, ap (λ (s : SourceModel). s.end) c.self.view_is, c.if-self-at.true))

pub returns-then-self-at-2-clause-told : goal.returns-then-self-at-2-clause-told
returns-then-self-at-2-clause-told g c m held = none_short c.args.self.now m c.args.at (c.requires.ready m held) (omega (arith, ap (λ (s : SourceModel). s.end) c.self.view_is, c.if-self-at.false, c.if-self-at-2.true))

pub returns-then-held-ge-LEAST_SIZE-clause-told : goal.returns-then-held-ge-LEAST_SIZE-clause-told
returns-then-held-ge-LEAST_SIZE-clause-told g c m held =
    let i = c.self.inside in
    let s = c.args.self.now in
    let end = ap (λ (s : SourceModel). s.end) c.self.view_is in
    let inside = subst (λ (s : SourceModel). EndsBy s.end s.kept) c.self.view_is c.self.invariant in
    let part = kept_part s m c.args.at _ (c.requires.ready m held) inside (omega (arith, end, c.if-self-at.false)) (c.bytes_from-held.ensures ∙ ap (λ k. bytes_from c.args.at k) (ap (λ (s : SourceModel). s.kept) c.self.view_is)) in
    c.header_at.ensures.block _ (long_bytes s m (c.requires.ready m held) ∙ Rattle.std.proofs.Common.sym end) part

pub returns-clause-told : goal.returns-clause-told
returns-clause-told g c m held =
    let i = c.self.inside in
    heads_read c.args.self.now (string_bytes i.name) c.as_str.result.now i.end i.window m c.args.at _ c.self.view_is c.as_str.ensures.value (c.requires.ready m held) (c.in_ok-found.ensures.told m held)
