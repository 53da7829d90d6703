use Rattle.std.proofs.Common.{◌≡◌, ◌-◌, length, All}
use Rattle.myi_base.specs.Numbers.{AreBytes}
use Rattle.myi_tail.specs.Prefix.{BeginsWith}
use Rattle.myi_spelling.specs.Pieces.{words_for}
use Rattle.myi_spelling.proofs.rows.SpelledRows.read_on.Given as goal

abbrev pub invariant-loop : goal.invariant-loop
invariant-loop l = (l.self.room ≡ l.fn.self.room) × BeginsWith l.words (words_for l.self.rows) × All AreBytes l.self.rows

abbrev pub decreases-loop : goal.decreases-loop
decreases-loop l = length l.words - length (words_for l.self.rows)
