use Rattle.std.proofs.Common.{◌≡◌, ◌∙◌, sym, subst, All, Option, IfSome}
use Rattle.myi_tail_tests.proofs.Tails.{all_of_tail}
use Rattle.myi_tail.specs.declared.tail.Tail.{Tail}
use Rattle.myi_tail_tests.specs.Jobs.{tail_of}
use Rattle.myi_tail_tests.proofs.round.run_round.Goals as goal

pub close-requires : goal.close-requires
close-requires g c =
    let id = c.in_ok-tail.tail.appender.tail in
    let all = c.in_ok-tail-2.ensures id (all_of_tail tail_of id c.in_ok-jobs.jobs.items c.run_them.new.jobs.items c.run_them.ensures c.in_ok-jobs.ensures) in
    let one = subst (λ (o : Option Tail). IfSome o (λ t. (t.appender.tail ≡ id) × All (λ r. r.tail ≡ id) t.readers.items)) c.in-Some.is all in
    λ k d h. one.1 k d h ∙ sym one.0
