use Rattle.std.proofs.Common.{◌≡◌, ◌≤◌, ◌^◌, length}
use Rattle.myi_base.specs.Holding.{Told}
use Rattle.myi_dellist.specs.Placing.{taken_by, AreWritable}
use Rattle.myi_dellist.specs.Rows.{AreBelow}
use Rattle.myi_dellist.proofs.PutLemmas.{specs_from, GoesOn}
use Rattle.myi_dellist.proofs.writing.write_pieces.Given as goal

abbrev pub invariant-loop-piece : goal.invariant-loop-piece
invariant-loop-piece g l = record {
  writable : AreWritable (specs_from (length l.packed) l.first l.blocks) l.blocks;
  whole : taken_by l.blocks ≡ length l.left;
  below : AreBelow (2 ^ 64) l.blocks;
  faults : g.F.Files.faults l.fn.files ≤ g.F.Files.faults l.files;
  so_far : Told (g.F.Files.holds l.fn.files) (g.F.Files.holds l.files) (GoesOn l.name l.fn.pieces l.packed (specs_from (length l.packed) l.first l.blocks) l.blocks l.left);
}

abbrev pub decreases-loop-piece : goal.decreases-loop-piece
decreases-loop-piece g l = length l.blocks
