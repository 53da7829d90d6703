-- The types of the blocks of dynamic rows (MySQL Internals Manual, "MyISAM Dynamic Data File Layout").
-- The numbers of a header stand one after the other behind the byte of the type, high byte first, always
-- in one order, so that a type is a kind and the width of each number.
use Rattle.std.specs.Prelude.{◌≡◌, ℕ, ◌+◌, ◌≤◌, List, [], ◌∷◌, slice_get, Option}
use Rattle.myi_frames.specs.declared.form.FrameKind.{FrameKind}
use Rattle.myi_frames.specs.declared.form.FrameKind.TheVariants.{Deleted, Whole, Start, Middle, End}
use Rattle.myi_frames.specs.declared.form.Form.{Form}

-- a row of the table: the widths of rec_len, of block_len (a deleted block) or data_len (all others), of
-- the number of unused bytes, of the place of the next block and of that of the previous one
abbrev pub row : FrameKind → ℕ → ℕ → ℕ → ℕ → ℕ → Form
row k r l u n p = record { kind = k; rec_len = r; len = l; unused = u; next = n; prev = p }

-- by type, from 0 to 13; 13 begins a row of 2^24 bytes or more
abbrev pub forms : List Form
forms =
    row Deleted 0 3 0 8 8
    ∷ row Whole 2 0 0 0 0
    ∷ row Whole 3 0 0 0 0
    ∷ row Whole 2 0 1 0 0
    ∷ row Whole 3 0 1 0 0
    ∷ row Start 2 2 0 8 0
    ∷ row Start 3 3 0 8 0
    ∷ row End 0 2 0 0 0
    ∷ row End 0 3 0 0 0
    ∷ row End 0 2 1 0 0
    ∷ row End 0 3 1 0 0
    ∷ row Middle 0 2 0 8 0
    ∷ row Middle 0 3 0 8 0
    ∷ row Start 4 3 0 8 0
    ∷ []

-- the form of a type, and none where no block begins with this byte
unfoldable pub form_of : ℕ → Option Form
form_of t = slice_get forms t

-- the place of each number in a header, and the length of the header

abbrev pub len_at : Form → ℕ
len_at f = 1 + f.rec_len

abbrev pub unused_at : Form → ℕ
unused_at f = len_at f + f.len

abbrev pub next_at : Form → ℕ
next_at f = unused_at f + f.unused

abbrev pub prev_at : Form → ℕ
prev_at f = next_at f + f.next

abbrev pub header_len : Form → ℕ
header_len f = prev_at f + f.prev

-- how many row bytes a block holds, by rec_len and the number behind it
abbrev pub data_len : FrameKind → ℕ → ℕ → ℕ
data_len Deleted rec_len len = 0
data_len Whole rec_len len = rec_len
data_len Start rec_len len = len
data_len Middle rec_len len = len
data_len End rec_len len = len

-- the size of a block: its header, its row bytes and its unused bytes; a deleted block says it itself
abbrev pub block_size : FrameKind → ℕ → ℕ → ℕ → ℕ → ℕ
block_size Deleted header rec_len len unused = len
block_size Whole header rec_len len unused = header + rec_len + unused
block_size Start header rec_len len unused = header + len + unused
block_size Middle header rec_len len unused = header + len + unused
block_size End header rec_len len unused = header + len + unused

-- what each row of the table keeps
pub record IsNarrow (f : Form) : Type 0 where
  pub rec_len : f.rec_len ≤ 4
  pub len : f.len ≤ 3
  pub unused : f.unused ≤ 1
  pub next : f.next ≤ 8
  pub prev : f.prev ≤ 8
  pub header : header_len f ≤ 20
  pub long : 3 ≤ header_len f
  pub whole : f.kind ≡ Whole → f.rec_len ≤ 3
