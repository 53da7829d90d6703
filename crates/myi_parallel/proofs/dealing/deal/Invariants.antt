use Rattle.std.proofs.Common.{◌≡◌, ◌<◌, length, map}
use Rattle.myi_parallel.specs.KeyPairs.{asked_from}
use Rattle.myi_parallel.specs.Shares.{asked_in}
use Rattle.myi_parallel.proofs.DealingLaws.{Dealing}
use Rattle.myi_parallel.proofs.dealing.deal.Given as goal

abbrev pub invariant-loop-key : goal.invariant-loop-key
invariant-loop-key l = record {
  number : l.number ≡ length l.yielded;
  turn : l.turn < l.fn.workers;
  dealing : Dealing l.fn.workers l.turn (asked_from 1 l.yielded) (map asked_in l.shares.items);
}
