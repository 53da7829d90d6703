-- The files of a table (MySQL Reference Manual, "The MyISAM Storage Engine"; the working files are named as myisamchk
-- names its own), and which of them stay as they are.
use Rattle.std.specs.Prelude.{◌≡◌, ◌≢◌, ◌⊎◌, ◌≤◌, ◌+◌, ℕ, List, ◌++◌, codes, Option, Some, None, string_bytes}
use Rattle.myi_base.specs.Holding.{Holding}
use Rattle.myi_repair.specs.declared.names.TableFiles.{TableFiles}
-- the data file and the index file
pub use Rattle.myi_opening.specs.Names.{rows_file, index_file}

-- the new data file and the new index file, until they are whole
abbrev pub new_rows_file : List ℕ → List ℕ
new_rows_file name = name ++ codes ".TMD"

abbrev pub new_index_file : List ℕ → List ℕ
new_index_file name = name ++ codes ".TMI"

-- the names of a table's files
pub record FourNames : Type 0 where
  pub rows : List ℕ
  pub index : List ℕ
  pub new_rows : List ℕ
  pub new_index : List ℕ

abbrev pub names_of : TableFiles → FourNames
names_of t = record { rows = string_bytes t.rows; index = string_bytes t.index; new_rows = string_bytes t.new_rows; new_index = string_bytes t.new_index }

abbrev pub names_for : List ℕ → FourNames
names_for name = record { rows = rows_file name; index = index_file name; new_rows = new_rows_file name; new_index = new_index_file name }

-- no two of them are one
pub record AreApart (t : FourNames) : Type 0 where
  pub rows-index : t.rows ≢ t.index
  pub rows-new_rows : t.rows ≢ t.new_rows
  pub rows-new_index : t.rows ≢ t.new_index
  pub index-new_rows : t.index ≢ t.new_rows
  pub index-new_index : t.index ≢ t.new_index
  pub new_rows-new_index : t.new_rows ≢ t.new_index

-- names that are none of the four keep what they hold
abbrev pub KeepsBut : FourNames → Holding → Holding → Type 0
KeepsBut t m n = (q : List ℕ) → q ≢ t.rows → q ≢ t.index → q ≢ t.new_rows → q ≢ t.new_index → n q ≡ m q

-- both files are as before
pub record KeepsBoth (t : FourNames) (m n : Holding) : Type 0 where
  pub rows : n t.rows ≡ m t.rows
  pub index : n t.index ≡ m t.index

-- the working files are not there
pub record NoWorking (t : FourNames) (n : Holding) : Type 0 where
  pub new_rows : n t.new_rows ≡ None
  pub new_index : n t.new_index ≡ None

-- a file that is there, counted
abbrev pub one_there : Option (List ℕ) → ℕ
one_there None = 0
one_there (Some b) = 1

-- how many of the working files are there
abbrev pub working_left : FourNames → Holding → ℕ
working_left t n = one_there (n t.new_rows) + one_there (n t.new_index)

-- nothing changed, or no more of the working files are left than so many
abbrev pub Clears : ℕ → FourNames → Holding → Holding → Type 0
Clears most t m n = (n ≡ m) ⊎ (working_left t n ≤ most)

-- both files hold these bytes, and the working files are gone
pub record Holds (t : FourNames) (d x : List ℕ) (n : Holding) : Type 0 where
  pub rows : n t.rows ≡ Some d
  pub index : n t.index ≡ Some x
  pub working : NoWorking t n
