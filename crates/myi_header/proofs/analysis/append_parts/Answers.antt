use Rattle.std.proofs.Common.{◌<◌, ◌^◌, arith}
use Rattle.myi_header.proofs.AnalysisLaws.{all_at, number_appended, numbers_appended}
use Rattle.myi_header.proofs.analysis.append_parts.Goals as goal

pub append_number-requires-clause-fits : goal.append_number-requires-clause-fits
append_number-requires-clause-fits c = all_at (λ n. n < 256 ^ 4) c.args.parts.now c.loop-number.number-index 0 (omega arith) c.requires

pub loop-number-preserved : goal.loop-number-preserved
loop-number-preserved c = number_appended c.args.parts.now _ c.loop-number.out.items c.append_number.new.out.items c.loop-number.number-index (omega arith) c.in_ok-append_number.ensures.ok c.loop-number.invariant

pub returns : goal.returns
returns c = numbers_appended c.args.parts.now c.args.out.now.items c.loop-number.out.items c.loop-number.number-index (omega arith) c.loop-number.invariant
