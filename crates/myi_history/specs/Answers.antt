-- What a statement answers, and the line that is printed of it; of a read there is a line for each of its rows behind it. The
-- words are this project's own.
use Rattle.std.specs.Prelude.{ℕ, List, [], ◌∷◌, ◌++◌, length, codes, decimal}
use Rattle.std.specs.List.{flat_map}
use Rattle.myi_keycache.specs.declared.setup.Counters.{Counters}
use Rattle.myi_rowtext.specs.RowText.{row_text}
use Rattle.myi_pair.specs.KeyList.{PlacedRow}
use Rattle.myi_tablestate.specs.Keyed.{KeyedRefusal, lacks, duplicate, too_long}
use Rattle.myi_history.specs.Reads.{MergedRow}

-- an insert, update or delete was made at a position, or is refused; a session that holds READ or READ LOCAL may not write;
-- a lock was taken or given up, or a session ended; a read found rows, after so many changes; what the key cache counted. On a MERGE
-- list a row is inserted in the table of a number, or nowhere, where the list does not say in which table; a read finds rows of its
-- tables.
pub data Answer : Type 0 where
  made : ℕ → Answer
  made_in : ℕ → ℕ → Answer
  refused : KeyedRefusal → Answer
  locked_for_read : Answer
  no_method : Answer
  done : Answer
  rows : List PlacedRow → ℕ → Answer
  merged : List MergedRow → ℕ → Answer
  counted : Counters → Answer

-- an answer, and the number of the line that it answers
pub record LineAnswer : Type 0 where
  pub line : ℕ
  pub answer : Answer

abbrev pub answer_on : ℕ → Answer → LineAnswer
answer_on n a = record { line = n; answer = a }

-- ---- what is printed

-- text behind a line's number, and the line's end
abbrev pub numbered : ℕ → List ℕ → List ℕ
numbered n text = decimal n ++ (text ++ 10 ∷ [])

abbrev pub refusal_text : KeyedRefusal → List ℕ
refusal_text (lacks at) = codes " no row " ++ decimal at
refusal_text (duplicate key at) = codes " duplicate key " ++ (decimal key ++ (codes " at " ++ decimal at))
refusal_text too_long = codes " full"

-- the pages that were asked for, and those that were read of them
abbrev pub gets_text : ℕ → ℕ → List ℕ
gets_text requests reads = codes " requests " ++ (decimal requests ++ (codes " reads " ++ decimal reads))

-- the pages that were put, and those that were written of them
abbrev pub puts_text : ℕ → ℕ → List ℕ
puts_text requests writes = codes " write_requests " ++ (decimal requests ++ (codes " writes " ++ decimal writes))

abbrev pub counters_text : Counters → List ℕ
counters_text c = gets_text c.read_requests c.reads ++ puts_text c.write_requests c.writes

-- the first line of a read that found so many rows after so many changes
abbrev pub count_text : ℕ → ℕ → List ℕ
count_text count number = codes " rows " ++ (decimal count ++ (codes " at " ++ decimal number))

-- the line of a row
abbrev pub row_line : PlacedRow → List ℕ
row_line r = codes "  " ++ (row_text r.0 r.1 ++ 10 ∷ [])

abbrev pub row_lines : List PlacedRow → List ℕ
row_lines found = flat_map row_line found

-- the line of a row of a list
abbrev pub merged_line : MergedRow → List ℕ
merged_line r = codes "  " ++ (decimal r.0 ++ (codes ":" ++ (row_text r.1 r.2 ++ 10 ∷ [])))

abbrev pub merged_lines : List MergedRow → List ℕ
merged_lines found = flat_map merged_line found

-- Where files tell nothing of what they hold, a step may meet a place of a file at which not that stands what the table needs. Then
-- this is the script's last answer, and none of its text.
abbrev pub damaged_text : ℕ → List ℕ
damaged_text at = codes " damaged at " ++ decimal at

-- the lines of an answer to line n
abbrev pub answer_text : ℕ → Answer → List ℕ
answer_text n (made at) = numbered n (codes " ok " ++ decimal at)
answer_text n (made_in table at) = numbered n (codes " ok " ++ (decimal table ++ (codes ":" ++ decimal at)))
answer_text n (refused r) = numbered n (refusal_text r)
answer_text n locked_for_read = numbered n (codes " locked for read")
answer_text n no_method = numbered n (codes " no insert method")
answer_text n done = numbered n (codes " ok")
answer_text n (rows found number) = numbered n (count_text (length found) number) ++ row_lines found
answer_text n (merged found number) = numbered n (count_text (length found) number) ++ merged_lines found
answer_text n (counted c) = numbered n (counters_text c)

abbrev pub said_text : LineAnswer → List ℕ
said_text s = answer_text s.line s.answer
