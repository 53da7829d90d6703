use Rattle.std.proofs.Common.{◌≡◌, [], map}
use Rattle.std.specs.Prelude.{replicate}
use Rattle.myi_parallel.specs.Shares.{asked_in}
use Rattle.myi_parallel.proofs.dealing.empty_shares.Given as goal

abbrev pub invariant-loop : goal.invariant-loop
invariant-loop l = map asked_in l.shares.items ≡ replicate l.counter []
