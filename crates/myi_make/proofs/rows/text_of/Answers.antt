use Rattle.myi_make.proofs.RowLaws.{letter_more}
use Rattle.myi_make.proofs.rows.text_of.Goals as goal

pub loop-j-preserved : goal.loop-j-preserved
loop-j-preserved c = letter_more _ _ _ _ _ _ _ c.loop-j-test.true c.letter.ensures c.in_ok-push.ensures.items c.loop-j.invariant
