use Rattle.myi_base.specs.Holding.{bytes_of}
use Rattle.myi_order.proofs.PrefixCountLaws.{on_ok_more}
use Rattle.myi_order.proofs.PlaceLaws.{chain_held}
use Rattle.myi_order.proofs.row_at.RowAt.read.Goals as goal

pub returns-in-Dynamic-clause-told : goal.returns-in-Dynamic-clause-told
returns-in-Dynamic-clause-told g c =
    on_ok_more c.read_chain.result _ _ (λ told m held knows r here stands.
    chain_held c.args.defs.now (bytes_of c.args.name.now m) c.args.at c.read_chain.new.self r c.in-Dynamic.is here stands (told m held knows)) c.read_chain.ensures.told
