-- An inserter of a shared table: what holds of it before and after each call, and what a call answers and leaves.
use Rattle.std.specs.Prelude.{◌≡◌, ◌+◌, ◌<◌, ℕ, true, false, List, [], ◌∷◌, ◌++◌, length, Result, Ok, Err}
use Rattle.myi_defs.specs.Sound.{IsSound}
use Rattle.myi_defs.specs.declared.types.Defs.{Defs}
use Rattle.myi_defs.specs.Addressable.{is_addressable}
use Rattle.myi_pack.specs.Packed.{Values}
use Rattle.myi_pack.specs.Spelling.{spelling}
use Rattle.myi_keycache.specs.Kept.{AllWritten}
use Rattle.myi_keycache.specs.Caching.{pages_of}
use Rattle.myi_state.specs.State.{TableState}
use Rattle.myi_state.specs.Changes.{insert_at_end}
use Rattle.myi_tablestate.specs.Keyed.{KeyedRefusal, KeyedStep, duplicate, too_long, keyed_step}
use Rattle.myi_keyedrows.specs.KeyedRows.{defs_of}
use Rattle.myi_tail.specs.Rows.{row_words}
use Rattle.myi_tail.specs.Seats.{Appending, free_words}
use Rattle.myi_snapshots.specs.Appended.{with_rows, AllFit, AllAreBytes}
use Rattle.myi_snapshots.specs.Known.{packed_rows, words_of_rows, size_of, end_with}
use Rattle.myi_inserter.specs.declared.inserter.TableInserter.{TableInserter}
use Rattle.myi_inserter.specs.declared.fault.InsertFault.{InsertFault}
use Rattle.myi_inserter.specs.declared.fault.InsertFault.TheVariants as fault
use Rattle.myi_inserter.specs.UniqueKeys.{Finds}
use Rattle.myi_inserter.specs.Put.{stored_behind}

-- where the data file of the base ends
abbrev pub base_end : TableInserter → ℕ
base_end i = i.rows.rows.file.counts.length

-- The object on the two files is of these definitions, and keeps no unwritten page. These are the rows that were put, each of the form
-- that the definitions ask for: the appender stored their words and no others, and all are published; the next row goes behind them; and
-- each of their complete keys in unique keys is found.
pub record IsInserter (i : TableInserter) (rows : List Values) : Type 0 where
  pub sound : IsSound i.defs
  pub defs : defs_of i.rows ≡ i.defs
  pub keys : length i.rows.trees.places ≡ length i.defs.keys
  pub written : AllWritten (pages_of i.rows.trees.cache)
  pub fit : AllFit i.defs rows
  pub bytes : AllAreBytes i.defs rows
  pub words : i.appender.words ≡ words_of_rows i.defs rows
  pub published : i.appender.published ≡ length i.appender.words
  pub end : i.end ≡ end_with i.defs (base_end i) (packed_rows i.defs rows)
  pub found : Finds i.defs i.put (stored_behind i.defs (base_end i) rows)

-- it is an inserter for the same table in the same sharing
pub record IsSameInserter (old new : TableInserter) : Type 0 where
  pub defs : new.defs ≡ old.defs
  pub number : new.number ≡ old.number
  pub tail : new.appender.tail ≡ old.appender.tail
  pub file : new.rows.rows.file ≡ old.rows.rows.file
  pub places : new.rows.trees.places ≡ old.rows.trees.places

-- the trees of the base were searched, and nothing else is changed
pub record IsSearched (old new : TableInserter) : Type 0 where
  pub ready : (rows : List Values) → IsInserter old rows → IsInserter new rows
  pub same : IsSameInserter old new
  pub appender : new.appender ≡ old.appender
  pub end : new.end ≡ old.end
  pub put : new.put ≡ old.put

-- ---- what a call answers

-- the step at the end of the table that has these rows behind those of the base
abbrev pub step_behind : Defs → TableState → List Values → Values → KeyedStep
step_behind d base rows row = keyed_step d (with_rows d base rows) (insert_at_end row)

-- The step is accepted at this position, and its state is the table that has the row behind the others.
pub record IsPut (d : Defs) (base : TableState) (rows : List Values) (row : Values) (at : ℕ) : Type 0 where
  pub reply : (step_behind d base rows row).reply ≡ Ok at
  pub state : (step_behind d base rows row).state ≡ with_rows d base (rows ++ row ∷ [])

-- A refusal is the reply of a step, or that would be accepted at this place, but there is no room for words. No page is damaged. Of a call
-- that was cut off nothing is said here.
abbrev pub IsReplyOf : ℕ → Result ℕ KeyedRefusal → InsertFault → Type 0
IsReplyOf end reply (fault.Duplicate key at) = reply ≡ Err (duplicate key at)
IsReplyOf end reply fault.Full = reply ≡ Err too_long
IsReplyOf end reply (fault.NoRoom need free) = reply ≡ Ok end
IsReplyOf end reply (fault.Damaged at) = ⊥
IsReplyOf end reply fault.File = Unit {0}
IsReplyOf end reply fault.Memory = Unit {0}

-- where the data file would end behind one more row
abbrev pub end_behind : TableInserter → Values → ℕ
end_behind i row = i.end + size_of i.defs (spelling i.defs row)

-- how many words it needs
abbrev pub needed : TableInserter → Values → ℕ
needed i row = length (row_words (spelling i.defs row))

-- Over any files: row pointers would not reach the whole file with the row; or they would, and it needs more words than are free.
abbrev pub IsCaused : TableInserter → Values → InsertFault → Type 0
IsCaused i row (fault.Duplicate key at) = Unit {0}
IsCaused i row fault.Full = is_addressable i.defs (end_behind i row) ≡ false
IsCaused i row (fault.NoRoom need free) = (is_addressable i.defs (end_behind i row) ≡ true) × (need ≡ needed i row) × (free ≡ free_words i.appender) × (free < need)
IsCaused i row (fault.Damaged at) = Unit {0}
IsCaused i row fault.File = Unit {0}
IsCaused i row fault.Memory = Unit {0}

-- the appender with the words of the row, all of which are published
abbrev pub with_words : Appending → List ℕ → Appending
with_words a words = record { tail = a.tail; words = a.words ++ words; published = length (a.words ++ words) }
