use Rattle.std.proofs.Common.{◌≡◌, ◌-◌, ◌^◌, ◌≤◌, ℕ, true, Some, List, length}
use Rattle.myi_btree.specs.Visited.{HasPlaces}
use Rattle.myi_btree.specs.CachedTrees.{ReadsOnly}
use Rattle.myi_btree.specs.Serving.{View, nodes_at, CanAsk}
use Rattle.myi_search.specs.Passing.{passes, best_of, HasCode, IsParted}
use Rattle.myi_btree.specs.Walk.{Walked, walk_of, content}
use Rattle.myi_search.specs.Counting.{CountsOn}
use Rattle.myi_search.specs.Seeking.{Going, Asked}
use Rattle.myi_search.specs.Runs.{RunsIn}
use Rattle.myi_search.proofs.descent.go_down.Given as goal

abbrev pub invariant-loop-down : goal.invariant-loop-down
invariant-loop-down g l = record {
  seen : List ℕ;
  has : HasPlaces l.met.keys seen;
  asked : Asked l.fn.place l.fn.cache l.cache (g.F.Files.reads l.fn.files) (g.F.Files.reads l.files) seen;
  going : (v : View) → CanAsk l.fn.place v (g.F.Files.holds l.fn.files) l.fn.cache l.fn.root → Going l.fn.place (passes l.fn.bound) v (g.F.Files.holds l.files) l.cache l.fn.root seen l.down (best_of l.reached);
  cache : ReadsOnly (g.F.Files.holds l.fn.files) (g.F.Files.holds l.files) l.fn.cache l.cache;
  counted : CountsOn l.fn.cache l.cache;
  code : HasCode l.reached;
  gathers : l.reached.gathers ≡ l.fn.reached.gathers;
  runs : l.fn.reached.gathers ≡ true → (v : View) → CanAsk l.fn.place v (g.F.Files.holds l.fn.files) l.fn.cache l.fn.root → (height : ℕ) (w : Walked) → walk_of (nodes_at l.fn.place v) height l.fn.root ≡ Some w
      → IsParted (passes l.fn.bound) (content w) → RunsIn (nodes_at l.fn.place v) (passes l.fn.bound) w l.down (best_of l.reached) l.reached.run;
  later : g.F.Files.faults l.fn.files ≤ g.F.Files.faults l.files;
  reads : g.F.Files.reads l.fn.files ≤ g.F.Files.reads l.files;
}

abbrev pub decreases-loop-down : goal.decreases-loop-down
decreases-loop-down g l = 2 ^ 64 - length l.met.keys
