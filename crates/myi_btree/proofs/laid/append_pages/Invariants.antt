use Rattle.std.proofs.Common.{◌≡◌, ◌*◌, ◌++◌, List, length}
use Rattle.myi_btree.specs.Walk.{Node}
use Rattle.myi_btree.specs.Building.{laid_at, pages_bytes}
use Rattle.myi_btree.specs.Laying.{IsToCome, left_count}
use Rattle.myi_btree.proofs.laid.append_pages.Given as goal

abbrev pub invariant-pages : goal.invariant-pages
invariant-pages l = record {
  written : List Node;
  left : List Node;
  all : laid_at l.fn.setup.place 0 l.pairs ≡ written ++ left;
  comes : IsToCome l.laying left;
  same : l.laying.setup ≡ l.fn.setup;
  end : l.laying.end ≡ l.fn.setup.place.block_length * length written;
  buffer : length l.page.items ≡ l.fn.setup.place.block_length;
  bytes : l.pages.items ≡ l.fn.pages.items ++ pages_bytes l.fn.setup.place written;
}

abbrev pub decreases-pages : goal.decreases-pages
decreases-pages l = left_count l.laying
