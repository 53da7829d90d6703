use Rattle.std.proofs.Common.{◌+◌, ◌/◌, length, arith}
use Rattle.myi_tail.proofs.RowLemmas.{length-words_of}
use Rattle.myi_tail.proofs.appender.words_needed.Goals as goal

pub returns-clause-words : goal.returns-clause-words
returns-clause-words c = omega (arith, length-words_of ((length c.args.row.now + 7) / 8) c.args.row.now)
