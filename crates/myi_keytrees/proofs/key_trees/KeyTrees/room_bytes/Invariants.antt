use Rattle.std.proofs.Common.{◌≡◌, ◌≤◌, ◌-◌, ◌^◌, min, length, drop}
use Rattle.myi_keytrees.specs.InFile.{bytes_of_free}
use Rattle.myi_keytrees.proofs.key_trees.KeyTrees.room_bytes.Given as goal

abbrev pub invariant-loop-i : goal.invariant-loop-i
invariant-loop-i l = record {
  inside : l.i ≤ length l.free;
  counted : l.bytes ≡ min (bytes_of_free (drop l.i l.free)) (2 ^ 64 - 1);
}

abbrev pub decreases-loop-i : goal.decreases-loop-i
decreases-loop-i l = l.i
