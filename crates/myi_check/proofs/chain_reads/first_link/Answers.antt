use Rattle.myi_frames.specs.Seeing.{shown}
use Rattle.myi_check.proofs.ChainLaws.{first_start}
use Rattle.myi_check.proofs.chain_reads.first_link.Goals as goal

pub returns-in-Start-clause-goes : goal.returns-in-Start-clause-goes
returns-in-Start-clause-goes c read at all here linked =
    let b = c.args.block.now in
    let rest = first_start read at (shown b) all here linked c.in-Start.is in
    c.more_at.ensures.goes read all rest.0 b.bytes.now rest.1
