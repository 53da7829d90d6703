-- Taking a table back: what its key cache counts then.
use Rattle.std.specs.Prelude.{◌≤◌, List, [], ◌∷◌, map}
use Rattle.myi_keycache.specs.declared.setup.Counters.{Counters}
use Rattle.myi_table.specs.Table.{OpenTable}
use Rattle.myi_table.specs.Counting.{sum_of}
use Rattle.myi_inserter.specs.declared.inserter.TableInserter.{TableInserter}
use Rattle.myi_readers.specs.declared.file_reader.Reader.{Reader}

-- counters with others, one after the other
abbrev pub sum_with : Counters → List Counters → Counters
sum_with counters [] = counters
sum_with counters (more ∷ others) = sum_with (sum_of counters more) others

-- what the key cache of a reader counted
abbrev pub counted : {R : Type 0} → Reader R → Counters
counted r = r.table.rows.trees.cache.counters

-- the table with what the key caches of an inserter and of readers counted
abbrev pub with_counts : {R : Type 0} → OpenTable → TableInserter → List (Reader R) → OpenTable
with_counts table i readers = record table { added = sum_with (sum_of table.added i.rows.trees.cache.counters) (map counted readers) }

-- the table with other counters beside its own
abbrev pub counting : OpenTable → Counters → OpenTable
counting t added = record t { added = added }

-- what the key cache of a table counted, and what was added
abbrev pub all_counted : OpenTable → Counters
all_counted t = sum_of t.rows.trees.cache.counters t.added

-- no count is lower
pub record AreNotBelow (old new : Counters) : Type 0 where
  pub read_requests : old.read_requests ≤ new.read_requests
  pub reads : old.reads ≤ new.reads
  pub write_requests : old.write_requests ≤ new.write_requests
  pub writes : old.writes ≤ new.writes
