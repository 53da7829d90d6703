-- What is written of a table whose rows are sorted: the rows that were put so far, and the whole.
use Rattle.std.specs.Prelude.{◌≡◌, ℕ, false, List, ◌∷◌, ◌++◌, [], length, map, Option, Some}
use Rattle.std.specs.List.{AllByRecursion}
use Rattle.myi_base.specs.Holding.{Holding, Told, bytes_of}
use Rattle.myi_defs.specs.declared.types.Defs.{Defs}
use Rattle.myi_opening.specs.declared.opening.OpenedTable.{OpenedTable}
use Rattle.myi_chain.specs.Readable.{Row}
use Rattle.myi_keylist.specs.declared.pair.Pair.{Pair}
use Rattle.myi_keylist.specs.PairOrder.{sorted}
use Rattle.myi_data.specs.Readable.{readable}
use Rattle.myi_data.specs.Stored.{SizedRow, stored_file}
use Rattle.myi_rowkeys.specs.RowLists.{number_pairs}
use Rattle.myi_pair.specs.Clean.{sized_row}
use Rattle.myi_repair.specs.declared.gathering.Gathered.{Gathered}
use Rattle.myi_repair.specs.Names.{FourNames}
use Rattle.myi_repair.specs.Keeping.{IsPrepared, AreStorable, HasWritten}
use Rattle.myi_repair.specs.Gathering.{all_chosen, IsOfRows}
use Rattle.myi_order.specs.declared.new_order.NewTable.{NewTable}
use Rattle.myi_order.specs.InOrder.{placed_key}
use Rattle.myi_order.specs.AtPlaces.{Stands}
use Rattle.myi_order.specs.Sorting.{rows_of}

-- these rows were put, and the lists have the pairs of their keys by their numbers
pub record HasPut (d : Defs) (rows : List SizedRow) (t : NewTable) : Type 0 where
  pub written : HasWritten d all_chosen rows t.rows
  pub keys : t.keys ≡ number_pairs d rows

-- one more row was put
abbrev pub Puts : Defs → NewTable → NewTable → Type 0
Puts d old new = (row : SizedRow) (rows : List SizedRow) → IsPrepared d row old.next → HasPut d rows old → HasPut d (rows ++ row ∷ []) new

-- a file that held the rows, which can be stored, holds one more
abbrev pub Appends : Defs → List ℕ → NewTable → Holding → Holding → Type 0
Appends d file old m n = (row : SizedRow) (rows : List SizedRow) → IsPrepared d row old.next → HasPut d rows old → AreStorable d rows → m file ≡ Some (stored_file d rows) → n file ≡ Some (stored_file d (rows ++ row ∷ []))

-- rows stand at the places of these pairs, in their order, and can be stored
pub record AreAt (d : Defs) (x : List ℕ) (order : List Pair) (rs : List Row) : Type 0 where
  pub places : map (λ (r : Row). r.at) rs ≡ map (λ (p : Pair). p.row) order
  pub stand : AllByRecursion (Stands d x) rs
  pub storable : AreStorable d (map (sized_row d) rs)

-- the rows at these places were put, in their order, into the working data file
pub record PutsAll (t : FourNames) (o : OpenedTable) (order : List Pair) (new : NewTable) (old now : Option Holding) : Type 0 where
  pub rows : List SizedRow
  pub put : HasPut o.defs rows new
  pub told : Told old now (λ m n. (rs : List Row) → length (bytes_of t.rows m) ≡ o.length → AreAt o.defs (bytes_of t.rows m) order rs
      → (rows ≡ map (sized_row o.defs) rs) × (n t.new_rows ≡ Some (stored_file o.defs rows)))

-- the pairs of the keys and places of the rows of a data file, in the order of the key
abbrev pub IsOrder : Defs → ℕ → List ℕ → List Pair → Type 0
IsOrder d k x order = order ≡ sorted (map (placed_key d k) (readable d false x))

-- what was gathered is of the rows in the order of the key, which are in the working data file
pub record IsGathered (t : FourNames) (k : ℕ) (x : List ℕ) (g : Gathered) (n : Holding) : Type 0 where
  pub rows : IsOfRows (rows_of g.defs k x) g
  pub none : g.report.repeats ≡ 0
  pub written : n t.new_rows ≡ Some (stored_file g.defs (rows_of g.defs k x))

abbrev pub GathersInOrder : FourNames → ℕ → Gathered → Holding → Holding → Type 0
GathersInOrder t k g m n = (x : List ℕ) → m t.rows ≡ Some x → length x ≡ g.report.old_length → IsGathered t k x g n
