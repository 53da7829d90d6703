use Rattle.std.proofs.Common.{◌∙◌, ◌+◌, ◌++◌, ◌/◌, ◌≤◌, sym, arith}
use Rattle.myi_base.specs.Holding.{bytes_of}
use Rattle.myi_frames.specs.Block.{block_of}
use Rattle.myi_blocks.specs.RowLinks.{next_link}
use Rattle.myi_blocks.proofs.LinkLemmas.{next-step, goes-same, block-cost, block-room, not-taken}
use Rattle.myi_blocks.proofs.row_chain.read_next.Goals as goal

pub returns-in_default-clause-told : goal.returns-in_default-clause-told
returns-in_default-clause-told g c m held long bytes most r =
    let x = bytes_of c.args.name.now m in
    let there = c.in_ok-block.ensures.told m held long in
    let step = next-step x bytes c.args.row.now.items c.args.at c.args.left most (g.F.Files.reads c.args.files.now) c.in_ok-block.block there.0 r there.1 there.2 in
    absurd (not-taken (next_link c.in_ok-block.block c.args.left) step.0 (sym c.next_link.ensures.link ∙ c.in_default.is) step.1)

pub returns-clause-told : goal.returns-clause-told
returns-clause-told g c m held long bytes most r =
    let x = bytes_of c.args.name.now m in
    let there = c.in_ok-block.ensures.told m held long in
    let b = there.0 in
    let reads = g.F.Files.reads c.args.files.now in
    let step = next-step x bytes c.args.row.now.items c.args.at c.args.left most reads c.in_ok-block.block b r there.1 there.2 in
    let whole = c.in_ok-append.ensures.told m (c.read_header.ensures.holds ∙ held) b there.2 in
    let few : g.F.Files.reads c.append.new.files ≤ reads + (2 + b.size / 16384) = omega (arith, c.append.ensures.few, c.read_header.ensures.few, block-cost c.in_ok-block.block.data_len b.size (block-room x c.args.at c.in_ok-block.block b there.1 there.2)) in
    goes-same (block_of x) bytes most step.0 c.in-Some.link (c.args.row.now.items ++ b.bytes) c.append.new.row.items (reads + (2 + b.size / 16384)) (g.F.Files.reads c.append.new.files) (sym step.1 ∙ sym c.next_link.ensures.link ∙ c.in-Some.is) whole.1 few step.2
