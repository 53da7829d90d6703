use Rattle.std.proofs.Common.{◌≡◌, ◌≤◌, All, length}
use Rattle.myi_readers.specs.Indexes.{IsEmptyIndex}
use Rattle.myi_readers.proofs.known_keys.begin_indexes.Given as goal

abbrev pub invariant-loop-key : goal.invariant-loop-key
invariant-loop-key l = record {
  within : l._key ≤ length l.defs.keys;
  count : length l.all.items ≡ l._key;
  empty : All (IsEmptyIndex l.end) l.all.items;
}
