use Rattle.std.proofs.Common.{◌≡◌, ◌≤◌, []}
use Rattle.myi_keycache.specs.Kept.{AllWritten}
use Rattle.myi_keycache.specs.Caching.{pages_of}
use Rattle.myi_btree.specs.Serving.{View}
use Rattle.myi_btree.specs.Walking.{walk_at, steps_left, MayGo}
use Rattle.myi_check.specs.Walks.{ShowsApart, GoesOn}
use Rattle.myi_check.proofs.walks.follow.Given as goal

abbrev pub invariant-loop-event : goal.invariant-loop-event
invariant-loop-event g l = record {
  place : l.events.place ≡ l.key.place;
  holds : g.F.Files.holds l.files ≡ g.F.Files.holds l.fn.files;
  written : AllWritten (pages_of l.cache);
  faults : g.F.Files.faults l.fn.files ≤ g.F.Files.faults l.files;
  goes : (v : View) → MayGo l.key.place v (g.F.Files.holds l.fn.files) l.fn.cache [] (walk_at l.key.place) → GoesOn (ShowsApart l.key l.pairs l.busy l.walk) l.key.place v (g.F.Files.holds l.files) l.cache l.events;
}

abbrev pub decreases-loop-event : goal.decreases-loop-event
decreases-loop-event g l = steps_left l.events
