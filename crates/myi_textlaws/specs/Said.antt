-- The definitions of a table that a creating text describes. Each number of the text is taken as it is, also the
-- collation of a segment, whose two bytes stand apart in the header.
use Rattle.std.specs.Prelude.{◌≡◌, ℕ, map, sum_by, unwrap_or, Some}
use Rattle.myi_defs.specs.declared.types.Field.{Field}
use Rattle.myi_defs.specs.declared.types.Segment.{Segment}
use Rattle.myi_defs.specs.declared.types.Key.{Key}
use Rattle.myi_defs.specs.declared.types.Defs.{Defs}
use Rattle.myi_defs.specs.declared.header.SegItem.{SegItem}
use Rattle.myi_deftext.specs.Grammar.{FieldSaid, KeySaid, TableSaid}
use Rattle.myi_deftext.specs.TextHeader.{key_most, page_length, slot_as}

-- what a text says of a field: its kind and its length
abbrev pub said_field : Field → FieldSaid
said_field f = record { kind = f.kind; length = f.length }

-- what a text says of a segment: all but which field holds it
abbrev pub said_segment : Segment → SegItem
said_segment s = record {
  seg = Some s.seg;
  language = s.language;
  null_bit = s.null_bit;
  length = s.length;
  start = s.start;
  null_pos = s.null_pos;
}

-- what a text says of a key: whether it is unique, and its segments
abbrev pub said_key : Key → KeySaid
said_key k = record { unique = k.unique; segments = map said_segment k.segments }

-- how many bytes a row pointer has: six where the text does not say it
abbrev pub pointer_of : TableSaid → ℕ
pointer_of t = unwrap_or t.pointer 6

-- the length of an unpacked row
abbrev pub row_of : TableSaid → ℕ
row_of t = sum_by (λ f. f.length) t.fields

-- the length of a key's pages: whole 1024 bytes, the least of them with room for four entries
abbrev pub pages_of : ℕ → KeySaid → ℕ
pages_of pointer k = page_length pointer (key_most k.segments)

-- these definitions are those that a text says, by what it says and what follows from that
pub record AreSaid (t : TableSaid) (d : Defs) : Type 0 where
  -- how the rows stand
  pub format : d.format ≡ t.format
  -- the length of a row pointer
  pub pointer : d.rec_ref ≡ pointer_of t
  -- the kinds and the lengths of the fields, in their order
  pub fields : map said_field d.fields ≡ t.fields
  -- the keys in their order, each unique where the text says so, with exactly its segments in their order
  pub keys : map said_key d.keys ≡ t.keys
  -- the length of an unpacked row
  pub row : d.row_length ≡ row_of t
  -- the length of a slot: that of a row, but of a static table at least a byte more than a row pointer
  pub slot : d.slot_length ≡ slot_as t.format (row_of t) (pointer_of t)
  -- the length of a page pointer, which no text says
  pub page_pointer : d.key_ref ≡ 6
  -- the lengths of the pages of the keys
  pub pages : map (λ k. k.block_length) d.keys ≡ map (pages_of (pointer_of t)) t.keys
