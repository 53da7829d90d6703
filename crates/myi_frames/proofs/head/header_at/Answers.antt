use Rattle.myi_frames.proofs.HeaderLemmas.{heads_block}
use Rattle.myi_frames.proofs.head.header_at.Goals as goal

pub returns-clause-block : goal.returns-clause-block
returns-clause-block c = λ d long part. heads_block c.args.bytes.now d c.args.at c.args.file_len c.read_header-header.result c.requires.window c.read_header-header.ensures.header long part
