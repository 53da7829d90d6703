use Rattle.std.proofs.Common.{◌∙◌, ◌+◌, ◌/◌, ◌≤◌, sym, rules, arith}
use Rattle.myi_base.specs.Holding.{bytes_of}
use Rattle.myi_frames.specs.Block.{block_of}
use Rattle.myi_chain.specs.Chain.{row_bytes}
use Rattle.myi_blocks.specs.RowLinks.{chain_cost}
use Rattle.myi_blocks.proofs.LinkLemmas.{first-step, goes-same, block-cost, block-room}
use Rattle.myi_blocks.proofs.row_chain.read_first.Goals as goal

pub returns-clause-told : goal.returns-clause-told
returns-clause-told g c m held long bs chain =
    let x = bytes_of c.args.name.now m in
    let there = c.in_ok-block.ensures.told m held long in
    let b = there.0 in
    let reads = g.F.Files.reads c.args.files.now in
    let step = first-step x c.args.at reads c.in_ok-block.block b bs chain there.1 there.2 in
    let whole = c.in_ok-append.ensures.told m (c.read_header.ensures.holds ∙ held) b there.2 in
    let few : g.F.Files.reads c.append.new.files ≤ reads + (2 + b.size / 16384) = omega (arith, c.append.ensures.few, c.read_header.ensures.few, block-cost c.in_ok-block.block.data_len b.size (block-room x c.args.at c.in_ok-block.block b there.1 there.2)) in
    goes-same (block_of x) (row_bytes bs) (reads + chain_cost bs) step.0 c.in-Some.link b.bytes c.append.new.row.items (reads + (2 + b.size / 16384)) (g.F.Files.reads c.append.new.files) (sym step.1 ∙ sym c.first_link.ensures.link ∙ c.in-Some.is) (whole.1 ∙ (search rules)) few step.2
