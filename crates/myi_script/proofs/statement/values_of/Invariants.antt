use Rattle.std.proofs.Common.{◌≡◌, drop, map}
use Rattle.myi_script.specs.Values.{field_form}
use Rattle.myi_script.specs.Grammar.{row_forms}
use Rattle.myi_script.specs.Reading.{values_of}
use Rattle.myi_script.proofs.ReadingLemmas.{joined}
use Rattle.myi_script.proofs.statement.values_of.Given as goal

abbrev pub invariant-loop-field : goal.invariant-loop-field
invariant-loop-field l = joined l.row.items (values_of (map field_form (drop l.field-index l.defs.fields)) l.rest) ≡ values_of (row_forms l.defs) l.text
