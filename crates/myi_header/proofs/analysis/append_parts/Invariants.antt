use Rattle.std.proofs.Common.{◌≡◌, drop, ◌++◌}
use Rattle.myi_header.proofs.AnalysisLaws.{four}
use Rattle.myi_header.proofs.analysis.append_parts.Given as goal

-- what was appended and what is left are the whole
abbrev pub invariant-loop-number : goal.invariant-loop-number
invariant-loop-number l = l.out.items ++ four (drop l.number-index l.parts) ≡ l.fn.out.items ++ four l.parts
