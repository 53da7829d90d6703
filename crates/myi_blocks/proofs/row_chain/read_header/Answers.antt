use Rattle.std.proofs.Common.{refl, arith}
use Rattle.std.specs.Prelude.{replicate}
use Rattle.myi_base.specs.Holding.{bytes_of}
use Rattle.myi_frames.proofs.CallerLemmas.{block-short}
use Rattle.myi_blocks.proofs.ReadLemmas.{read-short}
use Rattle.myi_blocks.proofs.row_chain.read_header.Goals as goal

pub returns-then-count-lt-LEAST_SIZE-clause-err : goal.returns-then-count-lt-LEAST_SIZE-clause-err
returns-then-count-lt-LEAST_SIZE-clause-err g c m held long =
    let d = bytes_of c.args.name.now m in
    block-short d c.args.at (read-short (replicate 20 0) d c.args.at c.in_ok-count.count refl (omega (arith, c.if-count-lt-LEAST_SIZE.true)) (c.in_ok-count.ensures.told m held))
