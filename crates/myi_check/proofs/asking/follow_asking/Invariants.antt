use Rattle.std.proofs.Common.{◌≡◌, ◌≤◌, []}
use Rattle.myi_keycache.specs.Kept.{AllWritten}
use Rattle.myi_keycache.specs.Caching.{pages_of}
use Rattle.myi_btree.specs.Serving.{View}
use Rattle.myi_btree.specs.Walking.{walk_at, steps_left, MayGo}
use Rattle.myi_check.specs.Walks.{GoesOn}
use Rattle.myi_check.specs.Asked.{AsksApart, IsGood, OfKey}
use Rattle.myi_check.proofs.asking.follow_asking.Given as goal

abbrev pub invariant-loop-events : goal.invariant-loop-events
invariant-loop-events g l = record {
  place : l.events.place ≡ l.key.tree.place;
  holds : g.F.Files.holds l.files ≡ g.F.Files.holds l.fn.files;
  written : AllWritten (pages_of l.cache);
  faults : g.F.Files.faults l.fn.files ≤ g.F.Files.faults l.files;
  goes : IsGood l.walk → (v : View) → MayGo l.key.tree.place v (g.F.Files.holds l.fn.files) l.fn.cache [] (walk_at l.key.tree.place)
      → GoesOn (AsksApart (OfKey (g.F.Files.holds l.fn.files) l.key) l.key.tree l.busy l.walk) l.key.tree.place v (g.F.Files.holds l.files) l.cache l.events;
}

abbrev pub decreases-loop-events : goal.decreases-loop-events
decreases-loop-events g l = steps_left l.events
