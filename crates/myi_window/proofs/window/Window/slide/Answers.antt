use Rattle.std.proofs.Common.{◌∙◌, arith}
use Rattle.myi_base.specs.Holding.{bytes_of}
use Rattle.myi_window.proofs.ExcerptLemmas.{to_window, goes_within}
use Rattle.myi_window.proofs.window.Window.slide.Goals as goal

pub returns-clause-full : goal.returns-clause-full
returns-clause-full g c m held shows =
    c.in_ok-hold.ensures.full m held shows ∙ to_window c.args.at c.args.end _ (bytes_of c.args.name.now m) c.requires (omega (arith, c.min.ensures))

pub returns-clause-goes : goal.returns-clause-goes
returns-clause-goes g c = goes_within _ _ _ _ _ _ _ (omega (arith, c.min.ensures, c.requires)) c.hold.ensures.goes

pub returns-in_err-hold-clause-goes : goal.returns-in_err-hold-clause-goes
returns-in_err-hold-clause-goes g c = goes_within _ _ _ _ _ _ _ (omega (arith, c.min.ensures, c.requires)) c.hold.ensures.goes
