use Rattle.std.proofs.Common.{◌≡◌, ◌≤◌, None, [], vec_len}
use Rattle.myi_btree.specs.Walking.{at_hand}
use Rattle.myi_btree.specs.Cursors.{Rises, walking_of}
use Rattle.myi_btree.proofs.cursor.Cursor.rise.Given as goal

abbrev pub invariant-loop-page : goal.invariant-loop-page
invariant-loop-page l = record {
  down : l.self.down ≡ None;
  visited : l.self.visited ≡ l.fn.self.visited;
  setup : l.self.setup ≡ l.fn.self.setup;
  rises : Rises l.fn.self l.self [];
  hand : at_hand (walking_of l.self) ≤ at_hand (walking_of l.fn.self);
}

abbrev pub decreases-loop-page : goal.decreases-loop-page
decreases-loop-page l = vec_len l.self.path
