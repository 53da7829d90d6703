use Rattle.std.proofs.Common.{◌∙◌, ◌≤◌, drop, take, ap, arith}
use Rattle.std.proofs.lemmas.List.{take-take}
use Rattle.myi_base.specs.Holding.{bytes_of}
use Rattle.myi_window.proofs.ExcerptLemmas.{goes_within}
use Rattle.myi_window.proofs.window.Window.stretch.Goals.{then-self-gt-WINDOW, else-self-gt-WINDOW}
use Rattle.myi_window.proofs.window.Window.stretch.Goals as goal

pub returns-clause-over : goal.returns-clause-over
returns-clause-over g c m held shows =
    let long : c.args.size ≤ c.if-self-gt-WINDOW.len = elim c.if-self-gt-WINDOW.branch [
      | then-self-gt-WINDOW w ↦ omega (arith, w.len-is)
      | else-self-gt-WINDOW w ↦ omega (arith, w.len-is)
    ] in
    ap (take c.args.size) (c.in_ok-hold.ensures.full m held shows) ∙ take-take c.args.size _ (drop c.args.at (bytes_of c.args.name.now m)) (omega (arith, long, c.min.ensures, c.requires))

pub returns-clause-goes : goal.returns-clause-goes
returns-clause-goes g c = goes_within _ _ _ _ _ _ _ (omega (arith, c.min.ensures, c.requires)) c.hold.ensures.goes

pub returns-in_err-hold-clause-goes : goal.returns-in_err-hold-clause-goes
returns-in_err-hold-clause-goes g c = goes_within _ _ _ _ _ _ _ (omega (arith, c.min.ensures, c.requires)) c.hold.ensures.goes
