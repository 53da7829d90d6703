use Rattle.std.proofs.Common.{◌≡◌, ◌≤◌, ◌<◌, ◌+◌, ◌^◌, [], length, List}
use Rattle.myi_base.specs.Holding.{IfTold, bytes_of}
use Rattle.myi_frames.specs.Block.{Block, block_of}
use Rattle.myi_chain.specs.Chain.{IsChain}
use Rattle.myi_order.specs.RowLinks.{left_of, GoesOn}
use Rattle.myi_order.specs.Nearby.{Knows}
use Rattle.myi_order.proofs.row_at.RowAt.read_chain.Given as goal

abbrev pub invariant-loop-link : goal.invariant-loop-link
invariant-loop-link g l = record {
  holds : g.F.Files.holds l.files ≡ g.F.Files.holds l.fn.files;
  faults : g.F.Files.faults l.fn.files ≤ g.F.Files.faults l.files;
  few : length l.self.bytes.items + left_of l.link < 2 ^ 32;
  so_far : IfTold (g.F.Files.holds l.fn.files) (λ m. Knows l.near l.name m → (bs : List Block) → IsChain (block_of (bytes_of l.name m)) l.at [] bs
      → GoesOn (block_of (bytes_of l.name m)) bs l.link l.self.bytes.items l.self.blocks.items);
}

abbrev pub decreases-loop-link : goal.decreases-loop-link
decreases-loop-link g l = left_of l.link
