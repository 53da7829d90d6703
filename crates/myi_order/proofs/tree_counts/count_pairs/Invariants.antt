use Rattle.std.proofs.Common.{◌≡◌, ◌≤◌, [], length}
use Rattle.myi_keycache.specs.Kept.{AllWritten}
use Rattle.myi_keycache.specs.Caching.{pages_of}
use Rattle.myi_btree.specs.Serving.{View}
use Rattle.myi_btree.specs.Walking.{walk_at, steps_left, MayGo}
use Rattle.myi_check.specs.Walks.{GoesOn}
use Rattle.myi_order.specs.PrefixCounts.{HasCounted, HasRoom, CountsTo}
use Rattle.myi_order.proofs.tree_counts.count_pairs.Given as goal

abbrev pub invariant-loop-event : goal.invariant-loop-event
invariant-loop-event g l = record {
  place : l.events.place ≡ l.fn.place;
  holds : g.F.Files.holds l.files ≡ g.F.Files.holds l.fn.files;
  written : AllWritten (pages_of l.cache);
  faults : g.F.Files.faults l.fn.files ≤ g.F.Files.faults l.files;
  room : HasRoom l.count;
  segments : length l.count.ended.items ≡ length l.fn.count.ended.items;
  goes : HasCounted [] l.fn.count → (v : View) → MayGo l.fn.place v (g.F.Files.holds l.fn.files) l.fn.cache [] (walk_at l.fn.place) → GoesOn (CountsTo l.count) l.fn.place v (g.F.Files.holds l.files) l.cache l.events;
}

abbrev pub decreases-loop-event : goal.decreases-loop-event
decreases-loop-event g l = steps_left l.events
