use Rattle.std.proofs.Common.{◌≡◌, ◌≤◌, ◌<◌, ◌++◌, length}
use Rattle.myi_base.specs.Holding.{IfTold}
use Rattle.myi_chain.specs.Chain.{tail}
use Rattle.myi_chain.specs.Chain.{ranges_at}
use Rattle.myi_chain.specs.Source.{read_blocks, with_rest, CanAdd, LiesOn}
use Rattle.myi_chain.proofs.chain.follow.Given as goal

abbrev pub invariant-loop-at : goal.invariant-loop-at
invariant-loop-at g l = record {
  more : 0 < l.chain.left;
  can : CanAdd l.used l.chain.taken;
  many : length l.fn.chain.taken ≤ length l.chain.taken;
  lies : LiesOn l.source.end l.fn.chain.taken l.chain.taken;
  holds : g.F.Files.holds l.files ≡ g.F.Files.holds l.fn.files;
  faults : g.F.Files.faults l.fn.files ≤ g.F.Files.faults l.files;
  same : IfTold (g.F.Files.holds l.fn.files) (λ m.
      with_rest l.chain.taken (tail (read_blocks l.source m) l.chain.next (l.used ++ ranges_at l.chain.taken) l.chain.left)
      ≡ with_rest l.fn.chain.taken (tail (read_blocks l.source m) l.fn.chain.next (l.used ++ ranges_at l.fn.chain.taken) l.fn.chain.left));
}

abbrev pub decreases-loop-at : goal.decreases-loop-at
decreases-loop-at g l = l.chain.left
