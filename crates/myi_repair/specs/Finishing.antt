-- How the new files of a table take the place of the old ones.
use Rattle.std.specs.Prelude.{◌≡◌, ◌⊎◌, ℕ, List, Option, Some, None}
use Rattle.myi_base.specs.Holding.{Holding, bytes_of, resized, overwritten}
use Rattle.myi_header.specs.declared.state.State.{State}
use Rattle.myi_header.specs.StateOf.{state_of}
use Rattle.myi_header.specs.HeaderOf.{header_of}
use Rattle.myi_pair.specs.RebuiltBytes.{new_state}
use Rattle.myi_repair.specs.declared.gathering.Gathered.{Gathered}
use Rattle.myi_repair.specs.Names.{FourNames, KeepsBoth, Holds}

-- the state that is set, with these roots and an index file of that length, at a moment
abbrev pub state_set : Gathered → List (Option ℕ) → ℕ → ℕ → State
state_set g roots index_length now = new_state g.defs (state_of g.defs g.defs.raw) g.report.kept g.split g.report.new_length roots index_length now

-- the working index file of these bytes with the header, made that long
abbrev pub finished_index : Gathered → List (Option ℕ) → ℕ → ℕ → List ℕ → List ℕ
finished_index g roots index_length now x = resized index_length (overwritten 0 (header_of g.defs (state_set g roots index_length now)) x)

-- the data file holds these bytes, and the index file is as before or holds those
pub record Replaces (t : FourNames) (d x : List ℕ) (m n : Holding) : Type 0 where
  pub rows : n t.rows ≡ Some d
  pub index : (n t.index ≡ m t.index) ⊎ (n t.index ≡ Some x)

-- the files are the old ones, or the new data file has taken the old one's place
abbrev pub IsWhole : FourNames → List ℕ → List ℕ → Holding → Holding → Type 0
IsWhole t d x m n = KeepsBoth t m n ⊎ Replaces t d x m n

-- the data file stays, and the index file is as before or holds these bytes
pub record KeepsRows (t : FourNames) (x : List ℕ) (m n : Holding) : Type 0 where
  pub rows : n t.rows ≡ m t.rows
  pub index : (n t.index ≡ m t.index) ⊎ (n t.index ≡ Some x)

-- the working files have taken the places of the two files
abbrev pub Finishes : FourNames → Gathered → List (Option ℕ) → ℕ → ℕ → Holding → Holding → Type 0
Finishes t g roots index_length now m n = (d : List ℕ) → m t.new_rows ≡ Some d → Holds t d (finished_index g roots index_length now (bytes_of t.new_index m)) n

abbrev pub FinishesPart : FourNames → Gathered → List (Option ℕ) → ℕ → ℕ → Holding → Holding → Type 0
FinishesPart t g roots index_length now m n = (d : List ℕ) → m t.new_rows ≡ Some d → IsWhole t d (finished_index g roots index_length now (bytes_of t.new_index m)) m n

-- where there is no working data file the data file stays
abbrev pub FinishesAlone : FourNames → Gathered → List (Option ℕ) → ℕ → ℕ → Holding → Holding → Type 0
FinishesAlone t g roots index_length now m n = m t.new_rows ≡ None → KeepsRows t (finished_index g roots index_length now (bytes_of t.new_index m)) m n
