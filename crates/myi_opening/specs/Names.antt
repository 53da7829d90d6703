-- The two files of a table (MySQL Reference Manual, "The MyISAM Storage Engine").
use Rattle.std.specs.Prelude.{ℕ, List, ◌++◌, codes}
use Rattle.myi_opening.specs.declared.fault.TableFile.{TableFile}
use Rattle.myi_opening.specs.declared.fault.TableFile.TheVariants.{Index, Data}

abbrev pub rows_file : List ℕ → List ℕ
rows_file name = name ++ codes ".MYD"

abbrev pub index_file : List ℕ → List ℕ
index_file name = name ++ codes ".MYI"

abbrev pub file_of : TableFile → List ℕ → List ℕ
file_of Index name = index_file name
file_of Data name = rows_file name
