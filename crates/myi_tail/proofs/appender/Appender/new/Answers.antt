use Rattle.std.proofs.Common.{rules, ◌≡◌, List, ℕ, [], ◌∷◌, ◌+◌, subst, sym, replicate}
use Rattle.myi_tail.specs.Rule.{Kept}
use Rattle.myi_tail.specs.Plays.{opening}
use Rattle.myi_tail.proofs.RuleLaws.{opens}
use Rattle.myi_tail.proofs.appender.Appender.new.Goals as goal

pub of_words-requires : goal.of_words-requires
of_words-requires c =
    let is : c.as_slice.result.now ≡ replicate (c.args.words + 1) 0 = search rules in
    subst (λ (cells : List ℕ). Kept record { cells = cells; views = opening (c.args.words + 1) ∷ [] }) (sym is) (opens c.args.words)
