-- What a creating text stands for: the definitions of its header, or why there are none.
use Rattle.std.specs.Prelude.{◌≡◌, ℕ, List, Option, Some, None, Result, Ok, Err}
use Rattle.myi_defs.specs.declared.types.Defs.{Defs}
use Rattle.myi_defs.specs.declared.types.DefFault.{DefFault}
use Rattle.myi_deftext.specs.declared.parse.TextFault.{TextFault}
use Rattle.myi_deftext.specs.declared.parse.TextFault.TheVariants as fault
use Rattle.myi_deftext.specs.Text.{lines, outside, said, start}
use Rattle.myi_deftext.specs.Grammar.{TableSaid, table_lines, Describe}
use Rattle.myi_deftext.specs.TextHeader.{text_header}
use Rattle.myi_defs.specs.ReadDefs.{read_defs}

-- a text in the grammar describes a table, and of the header of that table this is read
pub record StandsFor (text : List ℕ) (read : Result Defs DefFault) : Type 0 where
  pub table : TableSaid
  pub described : Describe (lines text) table
  pub header : read_defs (text_header (table_lines table)) ≡ read

-- a line that is outside the grammar comes first, then a refusal of the header
abbrev pub answer : Option ℕ → Result Defs DefFault → Result Defs TextFault
answer (Some n) r = Err (fault.Line n)
answer None (Ok d) = Ok d
answer None (Err f) = Err (fault.Def f)

-- what is read of a text
unfoldable pub parse_text : List ℕ → Result Defs TextFault
parse_text text = answer (outside (Some start) 0 (lines text)) (read_defs (text_header (said (lines text))))
