-- How many words of a tail the rows take that steps insert.
use Rattle.std.specs.Prelude.{◌+◌, ◌/◌, ℕ, List, length, Option, Some, None}
use Rattle.myi_defs.specs.declared.types.Defs.{Defs}
use Rattle.myi_pack.specs.Packed.{Values}
use Rattle.myi_pack.specs.Spelling.{spelling}
use Rattle.myi_locks.specs.declared.steps.Step.{Step}
use Rattle.myi_script.specs.declared.types.Line.{Line}
use Rattle.myi_history.specs.Lines.{act_of}
use Rattle.myi_rounds.specs.Inserts.{inserted_row}

-- a word for the length of a row, and one for each eight bytes begun
abbrev pub row_words : Defs → Option Values → ℕ
row_words d None = 0
row_words d (Some row) = (length (spelling d row) + 7) / 8 + 1

-- what a step puts takes so many
abbrev pub step_words : Defs → List Line → Step → ℕ
step_words d ls x = row_words d (inserted_row (act_of ls x.line))
