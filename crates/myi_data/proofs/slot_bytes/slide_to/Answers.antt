use Rattle.std.proofs.Common.{◌≤◌, ◌<◌, ℕ, List, length, subst}
use Rattle.std.proofs.lemmas.Bool.{leb-true, leb-false}
use Rattle.myi_base.specs.Holding.{bytes_of}
use Rattle.myi_window.proofs.CallerLemmas.{short_excerpt}
use Rattle.myi_data.proofs.slot_bytes.slide_to.Goals as goal

pub returns-clause-whole : goal.returns-clause-whole
returns-clause-whole g c ready = subst (λ (xs : List ℕ). c.args.size ≤ length xs) c.bytes_from-2.ensures (leb-true _ _ ready)

pub returns-clause-short : goal.returns-clause-short
returns-clause-short g c not m held shows =
    short_excerpt c.args.at c.args.end c.args.size c.slide.new.self (bytes_of c.args.name.now m) c.slide.ensures.goes.from (c.in_ok-slide.ensures.full m held shows) c.requires.narrow (subst (λ (xs : List ℕ). length xs < c.args.size) c.bytes_from-2.ensures (leb-false _ _ not))
