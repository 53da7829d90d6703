use Rattle.std.proofs.Common.{take, refl}
use Rattle.std.specs.Prelude.{replicate}
use Rattle.std.proofs.lemmas.List.{length-take-le}
use Rattle.myi_base.specs.Holding.{bytes_of}
use Rattle.myi_chain.proofs.SourceLemmas.{read_part}
use Rattle.myi_chain.proofs.source.read_header.Goals as goal

pub returns-clause-told : goal.returns-clause-told
returns-clause-told g c m held long =
    let d = bytes_of c.args.name.now m in
    c.header_at.ensures.block (take c.args.end d) (length-take-le c.args.end d long) (read_part c.read_at.new.into (replicate 20 0) d c.args.at c.args.end refl c.requires.room long (c.in_ok-count.ensures.bytes m held))
