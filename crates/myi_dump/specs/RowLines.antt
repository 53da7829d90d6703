-- The lines on the rows of a table: a line each, in the order of the data file (the form is this project's own).
use Rattle.std.specs.Prelude.{ℕ, List, ◌++◌, codes}
use Rattle.std.specs.List.{flat_map}
use Rattle.myi_defs.specs.declared.types.Defs.{Defs}
use Rattle.myi_chain.specs.Readable.{Row}
use Rattle.myi_pair.specs.Clean.{values_of}
use Rattle.myi_rowtext.specs.RowText.{row_text}

-- a readable row: its position and its values
abbrev pub row_line : Defs → Row → List ℕ
row_line d row = row_text row.at (values_of d row) ++ codes "\n"

-- rows, one after the other
abbrev pub row_lines : Defs → List Row → List ℕ
row_lines d rows = flat_map (row_line d) rows
