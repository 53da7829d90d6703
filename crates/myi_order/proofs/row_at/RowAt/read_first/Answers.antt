use Rattle.std.proofs.Common.{◌∙◌, sym, rules}
use Rattle.myi_base.specs.Holding.{bytes_of}
use Rattle.myi_frames.specs.Block.{block_of}
use Rattle.myi_order.specs.RowLinks.{noted}
use Rattle.myi_order.proofs.LinkLaws.{first-step, goes-same}
use Rattle.myi_order.proofs.row_at.RowAt.read_first.Goals as goal

pub returns-clause-told : goal.returns-clause-told
returns-clause-told g c m held knows bs chain =
    let x = bytes_of c.args.name.now m in
    let there = c.in_ok-block.ensures.told m held knows in
    let b = there.0 in
    let step = first-step x c.args.at c.in_ok-block.block b bs chain there.1 there.2 in
    let bytes = c.in_ok-take_block.ensures.told m (c.header_near.ensures.holds ∙ held) knows b there.2 in
    goes-same (block_of x) bs step.0 c.in-Some.link b.bytes c.take_block.new.self.bytes.items (noted c.in_ok-block.block) c.take_block.new.self.blocks.items (sym step.1 ∙ sym c.first_link.ensures.link ∙ c.in-Some.is) (bytes ∙ (search rules)) (c.in_ok-take_block.ensures.seen ∙ (search rules)) step.2
