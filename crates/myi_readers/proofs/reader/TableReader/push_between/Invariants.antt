use Rattle.std.proofs.Common.{◌≡◌, ◌<◌, ◌++◌, ℕ, length, All}
use Rattle.myi_keylist.specs.declared.pair.Pair.{Pair}
use Rattle.std.specs.BTreeMap.Range.{entries_between}
use Rattle.myi_keylist.specs.PairOrder.{pair_cmp}
use Rattle.myi_readers.specs.Reader.{rows_known}
use Rattle.myi_readers.specs.Indexes.{entry_rows}
use Rattle.myi_readers.proofs.reader.TableReader.push_between.Given as goal

-- what is appended and what is left are the rows of all entries between the bounds
abbrev pub invariant-loop-pair : goal.invariant-loop-pair
invariant-loop-pair l = record {
  there : All (λ (e : Pair × ℕ). e.0.row < length (rows_known l.self)) l.pair-iterator;
  rows : l.found.items ++ entry_rows l.self.defs (rows_known l.self) l.below l.pair-iterator ≡ l.fn.found.items ++ entry_rows l.self.defs (rows_known l.self) l.below (entries_between pair_cmp l.fn.bounds.0 l.fn.bounds.1 l.keys.places);
}
