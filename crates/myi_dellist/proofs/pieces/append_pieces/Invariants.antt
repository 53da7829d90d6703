use Rattle.std.proofs.Common.{◌≡◌, ◌<◌, ◌≤◌, ◌++◌}
use Rattle.myi_dellist.specs.Placing.{append_from, end_behind, is_none}
use Rattle.myi_dellist.proofs.pieces.append_pieces.Given as goal

abbrev pub invariant-loop-rest : goal.invariant-loop-rest
invariant-loop-rest l = record {
  some : 0 < l.rest;
  less : l.rest ≤ l.fn.left;
  pieces : l.pieces.items ++ append_from l.rest l.len (is_none l.pieces.items) l.rest l.place ≡ l.fn.pieces.items ++ append_from l.fn.left l.fn.len (is_none l.fn.pieces.items) l.fn.left l.fn.at;
  end : end_behind l.place (append_from l.rest l.len (is_none l.pieces.items) l.rest l.place) ≡ end_behind l.fn.at (append_from l.fn.left l.fn.len (is_none l.fn.pieces.items) l.fn.left l.fn.at);
}

abbrev pub decreases-loop-rest : goal.decreases-loop-rest
decreases-loop-rest l = l.rest
