use Rattle.myi_make.proofs.RowLaws.{byte_more}
use Rattle.myi_make.proofs.rows.blob_of.Goals as goal

pub loop-j-preserved : goal.loop-j-preserved
loop-j-preserved c = byte_more _ _ _ _ _ _ _ c.loop-j-test.true c.blob_byte.ensures c.in_ok-push.ensures.items c.loop-j.invariant
