use Rattle.std.proofs.Common.{◌≡◌, ◌≤◌, ◌++◌, List, length}
use Rattle.myi_base.specs.Holding.{IfTold}
use Rattle.myi_frames.specs.Block.{Block}
use Rattle.myi_chain.specs.Chain.{row_bytes}
use Rattle.myi_chain.specs.Chain.{placed}
use Rattle.myi_chain.specs.Source.{read_blocks, AreRead}
use Rattle.myi_chain.proofs.JoinLemmas.{Joins}
use Rattle.myi_chain.proofs.chain.join.Given as goal

abbrev pub invariant-loop-first : goal.invariant-loop-first
invariant-loop-first g l = record {
  holds : g.F.Files.holds l.files ≡ g.F.Files.holds l.fn.files;
  faults : g.F.Files.faults l.fn.files ≤ g.F.Files.faults l.files;
  room : length l.joined.items ≤ l.len;
  so_far : IfTold (g.F.Files.holds l.fn.files) (λ m. (bs : List Block) → l.taken ≡ placed bs → AreRead (read_blocks l.source m) bs
      → Joins (read_blocks l.source m) l.rest l.joined.items (l.fn.joined.items ++ row_bytes bs));
}

abbrev pub decreases-loop-first : goal.decreases-loop-first
decreases-loop-first g l = length l.rest
