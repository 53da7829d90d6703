use Rattle.std.proofs.Common.{◌≡◌, ◌+◌, ◌*◌, ◌++◌, List, length}
use Rattle.myi_btree.specs.Walk.{Node}
use Rattle.myi_btree.specs.Building.{laid_at}
use Rattle.myi_btree.specs.CachePuts.{telling}
use Rattle.myi_btree.specs.Laying.{IsToCome, left_count}
use Rattle.myi_btree.proofs.CachePutLaws.{LaidIn}
use Rattle.myi_btree.proofs.build.lay_cached.Given as goal

abbrev pub invariant-pages : goal.invariant-pages
invariant-pages g l = record {
  written : List Node;
  left : List Node;
  all : laid_at l.fn.setup.place l.fn.first l.pairs ≡ written ++ left;
  comes : IsToCome l.laying left;
  same : l.laying.setup ≡ l.fn.setup;
  end : l.laying.end ≡ l.fn.first + l.fn.setup.place.block_length * length written;
  buffer : length l.page.items ≡ l.fn.setup.place.block_length;
  laid : LaidIn l.fn.setup.place l.fn.first written
      (telling (g.F.Files.holds l.fn.files) (g.F.Files.faults l.fn.files) (g.F.Files.reads l.fn.files)) l.fn.cache
      (telling (g.F.Files.holds l.files) (g.F.Files.faults l.files) (g.F.Files.reads l.files)) l.cache;
}

abbrev pub decreases-pages : goal.decreases-pages
decreases-pages g l = left_count l.laying
