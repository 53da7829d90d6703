use Rattle.std.proofs.Common.{◌≡◌, ◌+◌, ◌*◌, ◌<◌, ◌≤◌, length}
use Rattle.myi_data.specs.Stored.{shares_behind, bytes_behind}
use Rattle.myi_repair.specs.Giant.{bytes_taken}
use Rattle.myi_repair.proofs.GiantLaws.{Goes}
use Rattle.myi_repair.proofs.giant.put_behind.Given as goal

abbrev pub invariant-loop-size : goal.invariant-loop-size
invariant-loop-size g l = record {
  some : 0 < length l.left;
  near : l.place + 5 * length l.left ≤ l.fn.at + 5 * length l.fn.rest;
  less : l.fn.at + l.count ≤ l.place;
  few : l.count + length l.left ≤ length l.fn.rest;
  counted : l.count + length (shares_behind l.sizes (length l.left)) ≡ length (shares_behind l.fn.sizes (length l.fn.rest));
  taken : bytes_taken (shares_behind l.fn.sizes (length l.fn.rest)) + length l.left ≡ bytes_taken (shares_behind l.sizes (length l.left)) + length l.fn.rest;
  faults : g.F.Files.faults l.fn.files ≤ g.F.Files.faults l.files;
  so_far : Goes (g.F.Files.holds l.fn.files) (g.F.Files.holds l.files) l.file l.fn.at (bytes_behind l.fn.at (shares_behind l.fn.sizes (length l.fn.rest)) l.fn.rest) l.place (bytes_behind l.place (shares_behind l.sizes (length l.left)) l.left);
}

abbrev pub decreases-loop-size : goal.decreases-loop-size
decreases-loop-size g l = length l.sizes
