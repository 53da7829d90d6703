use Rattle.std.proofs.Common.{◌∙◌, ◌<◌, sym, ap, subst, arith}
use Rattle.std.specs.Prelude.{string_bytes, IfSome}
use Rattle.std.proofs.lemmas.Result.{err_from_is_err_and}
use Rattle.myi_frames.specs.Block.{Block}
use Rattle.myi_window.specs.declared.window.TheConstants.{WINDOW}
use Rattle.myi_chain.specs.Source.{SourceModel}
use Rattle.myi_chain.proofs.SourceLemmas.{none_short, heads_kept}
use Rattle.myi_chain.proofs.source.Source.slide_to.Goals as goal

pub returns-then-not-branch-clause-told : goal.returns-then-not-branch-clause-told
returns-then-not-branch-clause-told g c m held = none_short c.args.self.now m c.args.at (c.requires.ready m held) (omega (arith, c.in_ok-ready.ensures.short c.if-not-branch.true, c.ready.ensures.reads.end m held))

pub returns-in_default-clause-told : goal.returns-in_default-clause-told
returns-in_default-clause-told g c m held =
    let i = c.self.inside in
    let end = ap (λ (s : SourceModel). s.end) c.self.view_is in
    heads_kept (g.F.Files.holds c.args.files.now) c.args.self.now c.ready.new.self (string_bytes i.name) i.end i.window c.args.at c.bytes_from.result.now c.header_at.result _ m held c.ready.ensures.reads c.self.view_is c.self.invariant (omega (arith, end, c.ready.ensures.behind)) c.bytes_from.ensures c.header_at.ensures.block c.in_default.is

pub returns-clause-told : goal.returns-clause-told
returns-clause-told g c m held =
    let i = c.self.inside in
    let end = ap (λ (s : SourceModel). s.end) c.self.view_is in
    heads_kept (g.F.Files.holds c.args.files.now) c.args.self.now c.ready.new.self (string_bytes i.name) i.end i.window c.args.at c.bytes_from.result.now c.header_at.result _ m held c.ready.ensures.reads c.self.view_is c.self.invariant (omega (arith, end, c.ready.ensures.behind)) c.bytes_from.ensures c.header_at.ensures.block c.in-Some.is

pub returns-in_err-hold-clause-never : goal.returns-in_err-hold-clause-never
returns-in_err-hold-clause-never g c =
    let i = c.self.inside in
    let end = ap (λ (s : SourceModel). s.end) c.self.view_is in
    let e = err_from_is_err_and c.from_residual-in_err-hold.result c.from_residual-in_err-hold.ensures.1 in
    rw e.1 (λ memory m held.
    let long = c.in_err-hold.ensures.never (sym e.2 ∙ memory) in
    let here = heads_kept (g.F.Files.holds c.args.files.now) c.args.self.now c.ready.new.self (string_bytes i.name) i.end i.window c.args.at c.bytes_from.result.now c.header_at.result _ m held c.ready.ensures.reads c.self.view_is c.self.invariant (omega (arith, end, c.ready.ensures.behind)) c.bytes_from.ensures c.header_at.ensures.block c.in-Some.is in
    subst (λ o. IfSome o (λ (b : Block). WINDOW < b.size)) (sym here.1) (omega (arith, long, ap (λ k. k.size) here.2.head)))
