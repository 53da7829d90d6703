-- How a block is written (MySQL Internals Manual, "MyISAM Dynamic Data File Layout"; the choice of the
-- type is this project's own).
use Rattle.std.specs.Prelude.{◌≡◌, ℕ, ◌+◌, ◌-◌, ◌^◌, ◌%◌, ◌<◌, ◌≤◌, ◌==◌, ◌&&◌, nat_le, if◌then◌else◌, List, [], ◌∷◌, ◌++◌, length, replicate, Option, None}
use Rattle.std.specs.Option.{option_map_or}
use Rattle.myi_base.specs.Numbers.{pointer_number}
use Rattle.myi_base.specs.Items.{spelling}
use Rattle.myi_frames.specs.declared.form.FrameKind.{FrameKind}
use Rattle.myi_frames.specs.declared.form.FrameKind.TheVariants.{Deleted, Whole, Start, Middle, End}
use Rattle.myi_frames.specs.declared.form.Form.{Form}
use Rattle.myi_frames.specs.declared.write.FrameSpec.{FrameSpec}
use Rattle.myi_frames.specs.Form.{form_of, header_len}
use Rattle.myi_frames.specs.Block.{Block, IsPointer}
use Rattle.myi_frames.specs.Sizes.{row_header, start_header, middle_header}

-- the type of a block with n row bytes and this size: with numbers of two bytes where the lengths are at
-- most 65,535, without a number of unused bytes where there are none, and 13 for a giant row
abbrev pub type_for : FrameKind → ℕ → ℕ → ℕ → ℕ
type_for Deleted rec_len n size = 0
type_for Whole rec_len n size =
    if nat_le n 65535 then (if size == 3 + n then 1 else 3) else (if size == 4 + n then 2 else 4)
type_for Start rec_len n size =
    if nat_le (2 ^ 24) rec_len then 13 else (if nat_le rec_len 65535 && nat_le n 65535 then 5 else 6)
type_for Middle rec_len n size = if nat_le n 65535 then 11 else 12
type_for End rec_len n size =
    if nat_le n 65535 then (if size == 3 + n then 7 else 9) else (if size == 4 + n then 8 else 10)

-- the type that a block is written in
abbrev pub type_of : FrameSpec → ℕ → ℕ → ℕ
type_of f n size = type_for f.kind f.rec_len n size

-- the number behind rec_len: the size of a deleted block, and the number of row bytes of a part of a row
abbrev pub len_of : FrameKind → ℕ → ℕ → ℕ
len_of Deleted n size = size
len_of Whole n size = 0
len_of Start n size = n
len_of Middle n size = n
len_of End n size = n

-- the number of unused bytes, behind a header and row bytes of so many bytes
abbrev pub unused_of : FrameKind → ℕ → ℕ → ℕ
unused_of Deleted used size = 0
unused_of Whole used size = size - used
unused_of Start used size = size - used
unused_of Middle used size = size - used
unused_of End used size = size - used

-- the number that names a place, and 0 where the header has no such number
abbrev pub link_number : ℕ → Option ℕ → ℕ
link_number w place = if w == 0 then 0 else pointer_number place

-- the widths of the numbers of a header, and the numbers, in their order

abbrev pub widths : Form → List ℕ
widths form = form.rec_len ∷ form.len ∷ form.unused ∷ form.next ∷ form.prev ∷ []

abbrev pub numbers_of : Form → FrameSpec → ℕ → ℕ → List ℕ
numbers_of form f n size = f.rec_len ∷ len_of f.kind n size ∷ unused_of f.kind (header_len form + n) size ∷ link_number form.next f.next ∷ link_number form.prev f.prev ∷ []

-- the header in a type and its form
abbrev pub header_as : ℕ → Form → FrameSpec → ℕ → ℕ → List ℕ
header_as t form f n size = t ∷ spelling (widths form) (numbers_of form f n size)

-- the header of a block with n row bytes and this size
unfoldable pub header_bytes : FrameSpec → ℕ → ℕ → List ℕ
header_bytes f n size = option_map_or (λ form. header_as (type_of f n size) form f n size) (form_of (type_of f n size)) []

-- a block: its header, its row bytes, and zeros up to its size
unfoldable pub block_bytes : FrameSpec → List ℕ → ℕ → List ℕ
block_bytes f content size =
    header_bytes f (length content) size ++ (content ++ replicate (size - (length (header_bytes f (length content) size) + length content)) 0)

-- the block that is written
abbrev pub written_block : FrameSpec → ℕ → ℕ → List ℕ → Block
written_block f at size content = record { kind = f.kind; at = at; size = size; rec_len = f.rec_len; next = f.next; prev = f.prev; bytes = content }

-- what the blocks of each kind say

abbrev pub deleted_spec : Option ℕ → Option ℕ → FrameSpec
deleted_spec next prev = record { kind = Deleted; rec_len = 0; next = next; prev = prev }

abbrev pub whole_spec : ℕ → FrameSpec
whole_spec n = record { kind = Whole; rec_len = n; next = None; prev = None }

abbrev pub start_spec : ℕ → Option ℕ → FrameSpec
start_spec rec_len next = record { kind = Start; rec_len = rec_len; next = next; prev = None }

abbrev pub middle_spec : Option ℕ → FrameSpec
middle_spec next = record { kind = Middle; rec_len = 0; next = next; prev = None }

abbrev pub end_spec : FrameSpec
end_spec = record { kind = End; rec_len = 0; next = None; prev = None }

-- the first 20 bytes of a deleted block
unfoldable pub deleted_head : ℕ → Option ℕ → Option ℕ → List ℕ
deleted_head size next prev = header_bytes (deleted_spec next prev) 0 size

-- the size leaves room for this header and n row bytes, and at most 255 bytes unused behind a header
-- that is one byte longer
pub record HasRoom (header n size : ℕ) : Type 0 where
  pub room : header + n ≤ size
  pub few : size ≤ header + n + 256

-- n row bytes, rec_len, the pointers and the size belong together
abbrev pub Allows : FrameKind → FrameSpec → ℕ → ℕ → Type 0
Allows Deleted f n size = (n ≡ 0) × (f.rec_len ≡ 0) × (size < 2 ^ 24)
Allows Whole f n size = HasRoom (row_header n) n size × (f.rec_len ≡ n) × (f.next ≡ None) × (f.prev ≡ None)
Allows Start f n size = (start_header f.rec_len n + n ≡ size) × (f.rec_len < 2 ^ 32) × (f.prev ≡ None)
Allows Middle f n size = (middle_header n + n ≡ size) × (f.rec_len ≡ 0) × (f.prev ≡ None)
Allows End f n size = HasRoom (row_header n) n size × (f.rec_len ≡ 0) × (f.next ≡ None) × (f.prev ≡ None)

-- a block with n row bytes may be written in this size
pub record IsWritable (f : FrameSpec) (n size : ℕ) : Type 0 where
  pub multiple : size % 4 ≡ 0
  pub least : 20 ≤ size
  pub few : n < 2 ^ 24
  pub kind : Allows f.kind f n size
  pub next : IsPointer f.next
  pub prev : IsPointer f.prev
