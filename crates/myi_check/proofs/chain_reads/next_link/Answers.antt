use Rattle.std.proofs.Common.{◌++◌}
use Rattle.myi_frames.specs.Seeing.{shown}
use Rattle.myi_check.proofs.ChainLaws.{next_middle}
use Rattle.myi_check.proofs.chain_reads.next_link.Goals as goal

pub returns-in-Middle-clause-goes : goal.returns-in-Middle-clause-goes
returns-in-Middle-clause-goes c read at all rest before here remains =
    let b = c.args.block.now in
    let more = next_middle read at (shown b) all rest before here remains c.in-Middle.is in
    c.more_at.ensures.goes read all more.0 (before ++ b.bytes.now) more.1
