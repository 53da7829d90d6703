use Rattle.std.proofs.Common.{List, ℕ, length, ap, arith}
use Rattle.std.proofs.lemmas.Bool.{leb-true}
use Rattle.myi_window.proofs.CallerLemmas.{excerpt_inside}
use Rattle.myi_chain.specs.Source.{SourceModel}
use Rattle.myi_window.specs.Excerpt.{bytes_from}
use Rattle.myi_chain.proofs.SourceLemmas.{kept_rest}
use Rattle.myi_chain.proofs.source.Source.ready.Goals as goal

pub returns-clause-inside : goal.returns-clause-inside
returns-clause-inside g c is =
    let i = c.self-2.inside in
    let end = ap (λ (s : SourceModel). s.end) c.self-2.view_is in
    let held = excerpt_inside c.args.at i.end i.window (omega (arith, end, c.slide.ensures.behind)) c.self-2.invariant in
    omega (arith, end, held, leb-true _ _ is, ap (λ (xs : List ℕ). length xs) c.bytes_from-2.ensures)

pub returns-clause-stays : goal.returns-clause-stays
returns-clause-stays g c ends order =
    let i = c.self.inside in
    let rest = kept_rest c.args.at c.args.self.now.end c.args.self.now.kept ends order c.requires.order in
    let kept = ap (λ (s : SourceModel). length (bytes_from c.args.at s.kept)) c.self.view_is in
    let end = ap (λ (s : SourceModel). s.end) c.self.view_is in
    absurd (omega (arith, rest, kept, end, ap (λ (xs : List ℕ). length xs) c.bytes_from.ensures))

pub returns-in_err-slide-clause-stays : goal.returns-in_err-slide-clause-stays
returns-in_err-slide-clause-stays g c ends order =
    let i = c.self.inside in
    let rest = kept_rest c.args.at c.args.self.now.end c.args.self.now.kept ends order c.requires.order in
    let kept = ap (λ (s : SourceModel). length (bytes_from c.args.at s.kept)) c.self.view_is in
    let end = ap (λ (s : SourceModel). s.end) c.self.view_is in
    absurd (omega (arith, rest, kept, end, ap (λ (xs : List ℕ). length xs) c.bytes_from.ensures))
