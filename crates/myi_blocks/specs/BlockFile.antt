-- The data file of a dynamic table that changes: the deleted list in it, what refuses a row, and which numbers a change makes. What
-- an object on it keeps, and what a step is, is that of every data file that changes.
use Rattle.std.specs.Prelude.{◌≡◌, ◌+◌, ◌-◌, ◌^◌, min, ℕ, true, List, [], length, Option, None}
use Rattle.myi_base.specs.Holding.{Holding, bytes_of}
use Rattle.myi_defs.specs.declared.types.Defs.{Defs}
use Rattle.myi_defs.specs.Addressable.{is_addressable}
use Rattle.myi_dellist.specs.declared.rows.Put.{Put}
use Rattle.myi_dellist.specs.declared.rows.Freed.{Freed}
use Rattle.myi_dellist.specs.declared.rows.Replaced.{Replaced}
use Rattle.myi_dellist.specs.Areas.{Area}
use Rattle.myi_dellist.specs.Standing.{first_or}
use Rattle.myi_dellist.specs.Placing.{place_at_end}
use Rattle.myi_dellist.specs.FreeList.{ListState}
use Rattle.myi_dellist.specs.Putting.{PutBad, PutLong, Puts, ends_of}
use Rattle.myi_dellist.specs.Freed.{RowFindsBad, FreesRow}
use Rattle.myi_dellist.specs.Replacing.{RewriteFindsBad, OwnLong, RewritesRow}
use Rattle.myi_pack.specs.Packed.{Values}
use Rattle.myi_pack.specs.Spelling.{spelling}
use Rattle.myi_state.specs.declared.counts.Counts.{Counts}
use Rattle.myi_state.specs.Numbers.{total_bytes}
use Rattle.myi_slots.specs.SlotFile.{SlotFile, risen}

-- the place that the end of a file stays below, so that row pointers reach all of it
abbrev pub end_limit : Defs → ℕ
end_limit d = min (2 ^ 40 + 1) (256 ^ d.rec_ref - 1)

-- the deleted list of the file
abbrev pub list_in : SlotFile → ListState
list_in f = record { name = f.name; head = f.counts.dellink; end = f.counts.length; end_below = end_limit f.defs }

-- where the list's file may end: row pointers reach a file that ends below its limit
abbrev pub HasLimit : Defs → ListState → Type 0
HasLimit d l = is_addressable d l.end ≡ true → l.end_below ≡ end_limit d

-- where the file ends with a row of so many bytes behind its end
abbrev pub end_with : SlotFile → ℕ → ℕ
end_with f len = (place_at_end (record { holes = []; end = f.counts.length }) len).space.end

-- a block that is read for a row of so many bytes is not what the list needs at this place
abbrev pub FindsBad : SlotFile → ℕ → ℕ → Holding → Type 0
FindsBad f len at m = PutBad (bytes_of f.name m) f.counts.dellink len at

-- the list ends before a row of so many bytes does, and row pointers would not reach the whole file
abbrev pub LacksRoom : SlotFile → ℕ → Holding → Type 0
LacksRoom f len m = PutLong (bytes_of f.name m) f.counts.dellink f.counts.length (end_limit f.defs) len

-- a block that is read of the row at a position, or for its release, is not what the row or the list needs at this place
abbrev pub FindsRowBad : SlotFile → ℕ → ℕ → Holding → Type 0
FindsRowBad f at p m = RowFindsBad (list_in f) at p m

-- one that is read of it, or for a row of so many bytes that is put in its place, is not
abbrev pub FindsOtherBad : SlotFile → ℕ → ℕ → ℕ → Holding → Type 0
FindsOtherBad f at len p m = RewriteFindsBad (list_in f) at len p m

-- a row of so many bytes fills its blocks and those of the list, and row pointers would not reach the whole file
abbrev pub LacksOtherRoom : SlotFile → ℕ → ℕ → Holding → Type 0
LacksOtherRoom f at len m = OwnLong (list_in f) at len m

-- ---- what is written: exactly these bytes

-- a row is put where it is to go
abbrev pub WritesNew : SlotFile → SlotFile → Values → Holding → Holding → Type 0
WritesNew f g values m n = Puts f.name (ends_of (list_in f)) (spelling f.defs values) (ends_of (list_in g)) m n

-- the blocks of the row at a position are released
abbrev pub WritesGone : SlotFile → SlotFile → ℕ → Holding → Holding → Type 0
WritesGone f g at m n = FreesRow (list_in f) (list_in g) at m n

-- a row is put in the place of the one at a position
abbrev pub WritesOther : SlotFile → SlotFile → ℕ → Values → Holding → Holding → Type 0
WritesOther f g at values m n = RewritesRow (list_in f) (list_in g) at (spelling f.defs values) m n

-- ---- numbers

-- the numbers behind a row that was put; a count that would pass the end of its type stays there
abbrev pub counts_with : Put → ℕ → Option ℕ → Counts → Counts
counts_with put end head c = record {
  records = risen c.records 1;
  del = risen c.del put.more - put.taken;
  split = risen c.split put.blocks;
  empty = risen c.empty (end - c.length) - put.bytes;
  length = end;
  dellink = head;
}

-- the numbers behind a row that was released
abbrev pub counts_without : Freed → Option ℕ → Counts → Counts
counts_without freed head c = record {
  records = c.records - 1;
  del = risen c.del freed.more;
  split = c.split - freed.blocks;
  empty = risen c.empty freed.bytes;
  length = c.length;
  dellink = head;
}

-- the numbers behind a row that was put in the place of another
abbrev pub counts_again : Replaced → ℕ → Option ℕ → Counts → Counts
counts_again r end head c = record {
  records = c.records;
  del = risen c.del r.put.more - r.put.taken;
  split = risen c.split r.put.blocks - r.blocks;
  empty = risen (risen c.empty r.bytes) (end - c.length) - r.put.bytes;
  length = end;
  dellink = head;
}

-- the numbers behind a row whose blocks were released, where the deleted list is these blocks then
abbrev pub freed_counts : List Area → List Area → Counts → Counts
freed_counts own holes c = record {
  records = c.records - 1;
  del = length holes;
  split = c.split - length own;
  empty = c.empty + total_bytes own;
  length = c.length;
  dellink = first_or holes None;
}
