use Rattle.std.proofs.Common.{◌≡◌, ◌≤◌, []}
use Rattle.myi_btree.specs.CachedTrees.{ReadsOnly, MayGet}
use Rattle.myi_btree.specs.Events.{pairs_in}
use Rattle.myi_btree.specs.Serving.{View}
use Rattle.myi_btree.specs.Visited.{CountsMet, ReadsMet}
use Rattle.myi_btree.specs.Walking.{steps_left}
use Rattle.myi_btree.specs.Cursors.{CanGo, RunsOn, walking_of}
use Rattle.myi_btree.proofs.cursor.Cursor.run.Given as goal

abbrev pub invariant-loop-pairs : goal.invariant-loop-pairs
invariant-loop-pairs g l = record {
  setup : l.self.setup ≡ l.fn.self.setup;
  cache : ReadsOnly (g.F.Files.holds l.fn.files) (g.F.Files.holds l.files) l.fn.cache l.cache;
  kept : MayGet g.F.Files.writable l.cache;
  faults : g.F.Files.faults l.fn.files ≤ g.F.Files.faults l.files;
  reads : g.F.Files.reads l.fn.files ≤ g.F.Files.reads l.files;
  once : ReadsMet (g.F.Files.reads l.fn.files) (g.F.Files.reads l.files) l.fn.self.visited.places.keys l.self.visited.places.keys;
  counted : CountsMet l.fn.cache l.cache l.fn.self.visited.places.keys l.self.visited.places.keys;
  goes : (v : View) → CanGo l.fn.self.setup.place v (g.F.Files.holds l.fn.files) l.fn.cache [] l.fn.self
      → RunsOn l.fn.self.setup.place v (g.F.Files.holds l.files) l.cache l.fn.self l.self (λ es. pairs_in es ≡ l.pairs.items);
}

abbrev pub decreases-loop-pairs : goal.decreases-loop-pairs
decreases-loop-pairs g l = steps_left (walking_of l.self)
