use Rattle.std.proofs.Common.{◌≡◌, ◌≤◌, ℕ, take, None}
use Rattle.myi_base.specs.Holding.{Told, OthersStay}
use Rattle.myi_search.specs.Counting.{CountsOn}
use Rattle.myi_pack.specs.Packed.{Values}
use Rattle.myi_rowkeys.specs.TableKeys.{key_numbers}
use Rattle.myi_state.specs.State.{TableState}
use Rattle.myi_keytrees.specs.Standing.{IfStand, StillStand, CanSearch}
use Rattle.myi_tablestate.specs.Keyed.{IsTable, first_holder}
use Rattle.myi_rowtrees.specs.RowLists.{lists_of, row_pairs}
use Rattle.myi_rowtrees.specs.Duplicates.{others}
use Rattle.myi_rowtrees.proofs.duplicates.first_duplicate.Given as goal

-- in none of the first so many keys another row has the complete key
abbrev pub invariant-loop-i : goal.invariant-loop-i
invariant-loop-i g l = record {
  none : IfStand (g.F.Files.holds l.fn.files) l.fn.trees (λ m bytes lists. (s : TableState) (values : Values) (pointer : ℕ) → IsTable l.defs s → lists ≡ lists_of l.defs s.rows → l.pairs ≡ row_pairs l.defs values pointer
      → first_holder l.defs values (others l.defs l.own s.rows) (take l.i (key_numbers l.defs)) ≡ None);
  stand : StillStand (g.F.Files.holds l.fn.files) (g.F.Files.holds l.files) l.fn.trees l.trees;
  places : l.trees.places ≡ l.fn.trees.places;
  room : l.trees.room ≡ l.fn.trees.room;
  others : Told (g.F.Files.holds l.fn.files) (g.F.Files.holds l.files) (OthersStay l.fn.trees.cache.name);
  name : l.trees.cache.name ≡ l.fn.trees.cache.name;
  counted : CountsOn l.fn.trees.cache l.trees.cache;
  search : CanSearch g.F.Files.writable (g.F.Files.holds l.files) l.trees;
  faults : g.F.Files.faults l.fn.files ≤ g.F.Files.faults l.files;
  reads : g.F.Files.reads l.fn.files ≤ g.F.Files.reads l.files;
}
