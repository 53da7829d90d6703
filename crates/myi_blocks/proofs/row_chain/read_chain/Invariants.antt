use Rattle.std.proofs.Common.{◌≡◌, ◌≤◌, ◌<◌, ◌+◌, ◌^◌, [], length, List}
use Rattle.myi_base.specs.Holding.{IfTold, bytes_of}
use Rattle.myi_frames.specs.Block.{Block, block_of}
use Rattle.myi_chain.specs.Chain.{IsChain, row_bytes}
use Rattle.myi_blocks.specs.RowLinks.{left_of, chain_cost, GoesOn}
use Rattle.myi_blocks.proofs.row_chain.read_chain.Given as goal

abbrev pub invariant-loop-link : goal.invariant-loop-link
invariant-loop-link g l = record {
  holds : g.F.Files.holds l.files ≡ g.F.Files.holds l.fn.files;
  faults : g.F.Files.faults l.fn.files ≤ g.F.Files.faults l.files;
  few : length l.row.items + left_of l.link < 2 ^ 32;
  so_far : IfTold (g.F.Files.holds l.fn.files) (λ m. length (bytes_of l.name m) ≡ l.end → (bs : List Block) → IsChain (block_of (bytes_of l.name m)) l.at [] bs
      → GoesOn (block_of (bytes_of l.name m)) (row_bytes bs) (g.F.Files.reads l.fn.files + chain_cost bs) l.link l.row.items (g.F.Files.reads l.files));
}

abbrev pub decreases-loop-link : goal.decreases-loop-link
decreases-loop-link g l = left_of l.link
