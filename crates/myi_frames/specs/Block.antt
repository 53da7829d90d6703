-- The block that starts at a place of a data file of dynamic rows (MySQL Internals Manual, "MyISAM
-- Dynamic Data File Layout"): its header by the table of types, and the rules on places and sizes.
use Rattle.std.specs.Prelude.{◌≡◌, ℕ, ◌+◌, ◌-◌, ◌^◌, ◌%◌, ◌<◌, ◌≤◌, Bool, ◌&&◌, ◌==◌, nat_le, if◌then◌else◌, List, [], length, take, drop, slice_index, Option, Some, None, option_and_then}
use Rattle.std.specs.Option.{option_map}
use Rattle.myi_base.specs.Numbers.{num_at, pointer_of}
use Rattle.myi_frames.specs.declared.form.FrameKind.{FrameKind}
use Rattle.myi_frames.specs.declared.form.FrameKind.TheVariants.{Deleted, Whole, Start, Middle, End}
use Rattle.myi_frames.specs.declared.form.Form.{Form}
use Rattle.myi_frames.specs.declared.head.Head.{Head}
use Rattle.myi_frames.specs.declared.head.Header.{Header}
use Rattle.myi_frames.specs.Form.{form_of, len_at, unused_at, next_at, prev_at, header_len, data_len, block_size}

-- a block, with its row bytes; rec_len is the number of row bytes of the whole row, and 0 where the
-- header does not say it
pub record Block : Type 0 where
  pub kind : FrameKind
  pub at : ℕ
  pub size : ℕ
  pub rec_len : ℕ
  pub next : Option ℕ
  pub prev : Option ℕ
  pub bytes : List ℕ

-- the place that a number of this width names; a number of no bytes names none
abbrev pub link_of : ℕ → ℕ → Option ℕ
link_of w n = if w == 0 then None else pointer_of n

-- what the header of a block at a place says, read in a form
abbrev pub read_header : List ℕ → ℕ → Form → Header
read_header bytes at f = record {
  head = record {
    kind = f.kind;
    at = at;
    size = block_size f.kind (header_len f) (num_at 1 f.rec_len bytes) (num_at (len_at f) f.len bytes) (num_at (unused_at f) f.unused bytes);
    rec_len = num_at 1 f.rec_len bytes;
    next = link_of f.next (num_at (next_at f) f.next bytes);
    prev = link_of f.prev (num_at (prev_at f) f.prev bytes);
  };
  start = header_len f;
  data_len = data_len f.kind (num_at 1 f.rec_len bytes) (num_at (len_at f) f.len bytes);
}

-- blocks start at multiples of 4, have a size that is a multiple of 4 and at least 20, and end in the file
abbrev pub is_place : ℕ → ℕ → ℕ → Bool
is_place at size len = (at % 4 == 0) && (size % 4 == 0) && nat_le 20 size && nat_le (at + size) len

-- the header, where a block may stand so
abbrev pub if_placed : ℕ → Header → Option Header
if_placed len h = if is_place h.head.at h.head.size len then Some h else None

-- the header at a place of a file of this length, by the bytes from there on
unfoldable pub header_of : List ℕ → ℕ → ℕ → Option Header
header_of bytes at len = option_and_then (λ f. if_placed len (read_header bytes at f)) (form_of (slice_index bytes 0))

-- the block with this header, by the bytes from its place on
abbrev pub block_by : List ℕ → Header → Block
block_by bytes h = record {
  kind = h.head.kind;
  at = h.head.at;
  size = h.head.size;
  rec_len = h.head.rec_len;
  next = h.head.next;
  prev = h.head.prev;
  bytes = take h.data_len (drop h.start bytes);
}

-- the block that starts at a place of a data file, and none where no block starts
unfoldable pub block_of : List ℕ → ℕ → Option Block
block_of d p = option_map (block_by (drop p d)) (header_of (drop p d) p (length d))

-- what a block's header says without its row bytes
abbrev pub head_of : Block → Head
head_of b = record { kind = b.kind; at = b.at; size = b.size; rec_len = b.rec_len; next = b.next; prev = b.prev }

-- a block of this size may stand at this place of a file of this length
pub record IsPlace (at size len : ℕ) : Type 0 where
  pub aligned : at % 4 ≡ 0
  pub multiple : size % 4 ≡ 0
  pub least : 20 ≤ size
  pub inside : at + size ≤ len

-- what a block of each kind does not say: other numbers than those of its header are 0 or none
abbrev pub OfKind : FrameKind → Block → Type 0
OfKind Deleted b = (b.bytes ≡ []) × (b.rec_len ≡ 0)
OfKind Whole b = (b.rec_len ≡ length b.bytes) × (b.next ≡ None) × (b.prev ≡ None)
OfKind Start b = b.prev ≡ None
OfKind Middle b = (b.rec_len ≡ 0) × (b.prev ≡ None)
OfKind End b = (b.rec_len ≡ 0) × (b.next ≡ None) × (b.prev ≡ None)

-- what holds of each block of a file
pub record Stands (d : List ℕ) (p : ℕ) (b : Block) : Type 0 where
  pub at : b.at ≡ p
  pub aligned : p % 4 ≡ 0
  pub multiple : b.size % 4 ≡ 0
  pub least : 20 ≤ b.size
  pub inside : p + b.size ≤ length d
  pub room : length b.bytes + 3 ≤ b.size
  pub kind : OfKind b.kind b

-- a place that a pointer of eight bytes can name
abbrev pub IsPointer : Option ℕ → Type 0
IsPointer None = Unit {0}
IsPointer (Some p) = p < 2 ^ 64 - 1

-- how great the numbers of a block are, in a file of bytes
pub record IsBounded (b : Block) : Type 0 where
  pub size : b.size < 2 ^ 24 + 275
  pub bytes : length b.bytes < 2 ^ 24
  pub rec_len : b.rec_len < 2 ^ 32
  pub next : IsPointer b.next
  pub prev : IsPointer b.prev
