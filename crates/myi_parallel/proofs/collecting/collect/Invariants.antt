use Rattle.std.proofs.Common.{◌≡◌, ◌<◌, ◌≤◌, List, length, map, drop, take}
use Rattle.myi_parallel.specs.Asked.{Asked}
use Rattle.myi_parallel.specs.LaidTrees.{AreLaid}
use Rattle.myi_parallel.specs.Shares.{asked_in, Deals}
use Rattle.myi_parallel.proofs.DealingLaws.{Collecting}
use Rattle.myi_parallel.proofs.collecting.collect.Given as goal

abbrev pub invariant-loop : goal.invariant-loop
invariant-loop l = record {
  turn : l.turn < length l.fn.shares.items;
  few : l.round ≤ l.counter;
  same : map asked_in l.shares.items ≡ map asked_in l.fn.shares.items;
  left : (all : List Asked) → length all ≡ l.fn.count → Deals (length l.fn.shares.items) all (map asked_in l.fn.shares.items) → Collecting (length l.fn.shares.items) l.turn l.round (drop l.counter all) (map asked_in l.fn.shares.items);
  laid : (all : List Asked) → length all ≡ l.fn.count → Deals (length l.fn.shares.items) all (map asked_in l.fn.shares.items) → AreLaid (take l.counter all) l.laid.items;
}
