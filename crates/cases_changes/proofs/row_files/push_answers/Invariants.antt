use Rattle.std.proofs.Common.{◌≡◌}
use Rattle.cases_changes.proofs.row_files.push_answers.Given as goal

abbrev pub invariant-loop-call : goal.invariant-loop-call
invariant-loop-call l = record { same : l.file.file.defs ≡ l.defs }
