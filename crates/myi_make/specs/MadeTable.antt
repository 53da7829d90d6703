-- The table that is made of a number of rows and a seed, this project's own: its definitions, its rows, and its data file
-- once the block of every tenth row is overwritten.
use Rattle.std.specs.Prelude.{ℕ, zero, suc, ◌+◌, ◌*◌, ◌/◌, ◌%◌, ◌^◌, ◌==◌, true, false, if◌then◌else◌, List, [], ◌∷◌, ◌++◌, length, take, replicate, codes}
use Rattle.myi_base.specs.Numbers.{num_at, low_num_bytes}
use Rattle.myi_defs.specs.declared.types.RowFormat.TheVariants.{Dynamic}
use Rattle.myi_defs.specs.declared.types.FieldKind.TheVariants.{Normal, Blob, Varchar}
use Rattle.myi_defs.specs.declared.types.SegType.TheVariants.{LongInt, VarText}
use Rattle.myi_defs.specs.declared.types.Defs.{Defs}
use Rattle.myi_deftext.specs.Text.{lines, said}
use Rattle.myi_deftext.specs.TextHeader.{text_header}
use Rattle.myi_pack.specs.Packed.{Values}
use Rattle.myi_pack.specs.Spelling.{spelling}
use Rattle.myi_data.specs.Stored.{own_block}

-- ---- the definitions

abbrev pub line : List ℕ → List ℕ
line words = words ++ 10 ∷ []

-- the creating text of the table
abbrev pub text : List ℕ
text =
    line (codes "rows dynamic")
    ++ (line (codes "field normal 1")
    ++ (line (codes "field normal 4")
    ++ (line (codes "field varchar 41")
    ++ (line (codes "field blob 10")
    ++ (line (codes "key unique")
    ++ (line (codes "seg long_int 1 4 0 0 0")
    ++ (line (codes "key plain")
    ++ line (codes "seg vartext 5 40 8 0 0"))))))))

-- the header that the text stands for
unfoldable pub header : List ℕ
header = text_header (said (lines text))

-- what is read of it
unfoldable pub defs : Defs
defs = record {
  format = Dynamic;
  fields =
      record { kind = Normal; length = 1; start = 0 }
      ∷ record { kind = Normal; length = 4; start = 1 }
      ∷ record { kind = Varchar; length = 41; start = 5 }
      ∷ record { kind = Blob; length = 10; start = 46 }
      ∷ [];
  keys =
      record { unique = true; block_length = 1024; segments = record { seg = LongInt; language = 0; null_bit = 0; null_pos = 0; length = 4; start = 1; field = 1 } ∷ [] }
      ∷ record { unique = false; block_length = 1024; segments = record { seg = VarText; language = 8; null_bit = 0; null_pos = 0; length = 40; start = 5; field = 2 } ∷ [] }
      ∷ [];
  rec_ref = 6;
  key_ref = 6;
  row_length = 56;
  slot_length = 56;
  raw = take (num_at 6 2 header) header;
}

-- ---- the rows

-- the number behind a number; the seed stands before the first row's
unfoldable pub next_number : ℕ → ℕ
next_number x = (x * 6364136223846793005 + 1442695040888963407) % 2 ^ 64

-- letter j of the text of a row's number, and so many letters from that one on
unfoldable pub letter : ℕ → ℕ → ℕ
letter x j = 97 + x / 2 ^ j % 26

abbrev pub letters : ℕ → ℕ → ℕ → List ℕ
letters x j zero = []
letters x j (suc k) = letter x j ∷ letters x (j + 1) k

-- byte j of its BLOB: the eight bytes of the number, low byte first, again and again
unfoldable pub blob_byte : ℕ → ℕ → ℕ
blob_byte x j = x / 2 ^ (8 * (j % 8)) % 256

abbrev pub blob_bytes : ℕ → ℕ → ℕ → List ℕ
blob_bytes x j zero = []
blob_bytes x j (suc k) = blob_byte x j ∷ blob_bytes x (j + 1) k

-- row i, of the number x: a byte FE, i, at most 40 letters and at most 199 bytes
unfoldable pub row_of : ℕ → ℕ → Values
row_of i x = (254 ∷ []) ∷ low_num_bytes 4 i ∷ letters x 0 (x / 2 ^ 32 % 41) ∷ blob_bytes x 0 (x / 2 ^ 40 % 200) ∷ []

-- ---- the data file

-- a row in a block of its own, of the least size
unfoldable pub row_block : Values → List ℕ
row_block row = own_block (spelling defs row)

-- the block of row i as it stands in the end: of every tenth row all bytes are FF
unfoldable pub left_block : ℕ → List ℕ → List ℕ
left_block i block = if i % 10 == 0 then replicate (length block) 255 else block

-- the blocks of so many rows behind row i, which has the number x
abbrev pub blocks_behind : ℕ → ℕ → ℕ → List ℕ
blocks_behind zero i x = []
blocks_behind (suc k) i x = left_block (i + 1) (row_block (row_of (i + 1) (next_number x))) ++ blocks_behind k (i + 1) (next_number x)

-- the data file of so many rows
unfoldable pub damaged_file : ℕ → ℕ → List ℕ
damaged_file count seed = blocks_behind count 0 seed
