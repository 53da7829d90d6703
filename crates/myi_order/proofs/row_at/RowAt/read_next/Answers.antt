use Rattle.std.proofs.Common.{◌∙◌, ◌++◌, sym}
use Rattle.myi_base.specs.Holding.{bytes_of}
use Rattle.myi_frames.specs.Block.{block_of}
use Rattle.myi_order.specs.RowLinks.{noted}
use Rattle.myi_order.proofs.LinkLaws.{next-step, goes-same}
use Rattle.myi_order.proofs.row_at.RowAt.read_next.Goals as goal

pub returns-clause-told : goal.returns-clause-told
returns-clause-told g c m held knows bs r =
    let x = bytes_of c.args.name.now m in
    let there = c.in_ok-block.ensures.told m held knows in
    let b = there.0 in
    let old = c.args.self.now in
    let step = next-step x bs old.bytes.items old.blocks.items c.args.at c.args.left c.in_ok-block.block b r there.1 there.2 in
    let bytes = c.in_ok-take_block.ensures.told m (c.header_near.ensures.holds ∙ held) knows b there.2 in
    goes-same (block_of x) bs step.0 c.in-Some.link (old.bytes.items ++ b.bytes) c.take_block.new.self.bytes.items (old.blocks.items ++ noted c.in_ok-block.block) c.take_block.new.self.blocks.items (sym step.1 ∙ sym c.next_link.ensures.link ∙ c.in-Some.is) bytes c.in_ok-take_block.ensures.seen step.2
