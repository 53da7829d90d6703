-- A pair of files that stands for a table: the data file for its rows, and the index file with its numbers and, for each key, a
-- tree with its pairs.
use Rattle.std.specs.Prelude.{◌≡◌, ◌-◌, ℕ, true, List, [], ◌∷◌, length, Ok}
use Rattle.myi_defs.specs.declared.types.Defs.{Defs}
use Rattle.myi_defs.specs.ReadDefs.{read_defs}
use Rattle.myi_defs.specs.Addressable.{is_addressable}
use Rattle.myi_header.specs.Layout.{first_page_of}
use Rattle.myi_header.specs.StateOf.{state_of, has_mark}
use Rattle.myi_btree.specs.Walk.{Walked, content}
use Rattle.myi_state.specs.State.{StoredRow, TableState}
use Rattle.myi_state.specs.Numbers.{counts_of}
use Rattle.myi_state.specs.Standing.{StandsFor}
use Rattle.myi_slots.specs.SlotFile.{counts_in}
use Rattle.myi_pair.specs.FirstRows.{key_numbers}
use Rattle.myi_pair.specs.Trees.{HaveWalks, all_pages, total}
use Rattle.myi_tablestate.specs.Keyed.{IsTable}
use Rattle.myi_tablestate.specs.Listed.{listed}

-- the walk of the tree of each of these keys has the pairs of these rows
abbrev pub HavePairs : Defs → List StoredRow → List ℕ → List Walked → Type 0
HavePairs d rows [] ws = ws ≡ []
HavePairs d rows (k ∷ ks) [] = ⊥
HavePairs d rows (k ∷ ks) (w ∷ ws) = (content w ≡ listed d k rows) × HavePairs d rows ks ws

-- the index file x has, for each key, a tree with the pairs of these rows, and what is left of it behind the header is counted as free
pub record HasTrees (d : Defs) (rows : List StoredRow) (x : List ℕ) : Type 0 where
  pub walks : List Walked
  pub trees : HaveWalks d x ((0, first_page_of d) ∷ []) (key_numbers d) (state_of d x).roots walks
  pub pairs : HavePairs d rows (key_numbers d) walks
  pub free : (state_of d x).key_empty ≡ length x - first_page_of d - total (all_pages d (key_numbers d) walks)

-- the data file b and the index file x stand for a table with these definitions
pub record StandForTable (d : Defs) (s : TableState) (b x : List ℕ) : Type 0 where
  pub table : IsTable d s
  pub rows : StandsFor d s b
  pub addressable : is_addressable d (length b) ≡ true
  pub read : read_defs x ≡ Ok d
  pub mark : has_mark d x ≡ true
  pub numbers : counts_in (state_of d x) ≡ counts_of s
  pub long : (state_of d x).key_file_length ≡ length x
  pub trees : HasTrees d s.rows x
