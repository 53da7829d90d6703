-- The files of a table that is made (MySQL Reference Manual, "The MyISAM Storage Engine"; the working file is named as
-- myisamchk names its own).
use Rattle.std.specs.Prelude.{◌≢◌, ℕ, List, ◌++◌, codes, string_bytes}
use Rattle.myi_create.specs.declared.names.NewFiles.{NewFiles}
use Rattle.myi_opening.specs.Names.{rows_file, index_file}

-- the new index file, until it is whole
abbrev pub new_index_file : List ℕ → List ℕ
new_index_file name = name ++ codes ".TMI"

-- the names of the files of a table
pub record ThreeNames : Type 0 where
  pub rows : List ℕ
  pub index : List ℕ
  pub new_index : List ℕ

abbrev pub names_of : NewFiles → ThreeNames
names_of t = record { rows = string_bytes t.rows; index = string_bytes t.index; new_index = string_bytes t.new_index }

abbrev pub names_for : List ℕ → ThreeNames
names_for name = record { rows = rows_file name; index = index_file name; new_index = new_index_file name }

-- no two of them are one
pub record AreApart (t : ThreeNames) : Type 0 where
  pub rows-index : t.rows ≢ t.index
  pub rows-new_index : t.rows ≢ t.new_index
  pub index-new_index : t.index ≢ t.new_index
