use Rattle.std.proofs.Common.{◌≡◌, ◌≤◌, List, length}
use Rattle.myi_base.specs.Holding.{IfTold, bytes_of}
use Rattle.myi_frames.specs.Block.{Block, block_of}
use Rattle.myi_chain.specs.Chain.{AreLinked}
use Rattle.myi_check.specs.ChainReads.{IsShort, GoesOn, most_reads}
use Rattle.myi_check.proofs.chain_reads.ChainReads.read.Given as goal

abbrev pub invariant-loop-link : goal.invariant-loop-link
invariant-loop-link g l = record {
  holds : g.F.Files.holds l.files ≡ g.F.Files.holds l.fn.files;
  faults : g.F.Files.faults l.fn.files ≤ g.F.Files.faults l.files;
  short : IsShort l.self.row.items l.link;
  goes : IfTold (g.F.Files.holds l.fn.files) (λ m. length (bytes_of l.file.name.now m) ≡ l.file.length → (all : List Block) → AreLinked (block_of (bytes_of l.file.name.now m)) l.at all
      → GoesOn (block_of (bytes_of l.file.name.now m)) all l.self.row.items l.link);
}

abbrev pub decreases-loop-link : goal.decreases-loop-link
decreases-loop-link g l = most_reads l.link
