use Rattle.std.proofs.Common.{◌≡◌, ◌-◌, List, length}
use Rattle.myi_btree.specs.Moving.{StoredPage, stored_pages, AreMovable}
use Rattle.myi_btree.proofs.MoveLaws.{Moving}
use Rattle.myi_btree.proofs.laid.shift_pages.Given as goal

abbrev pub invariant-pages : goal.invariant-pages
invariant-pages l = record {
  left : (stored : List StoredPage) → AreMovable l.place l.by stored → l.fn.pages ≡ stored_pages l.place stored → Moving l.place l.by l.pages l.at stored;
}

abbrev pub decreases-pages : goal.decreases-pages
decreases-pages l = length l.pages - l.at
