-- A data file that is nothing but rows, one after the other, each spelled anew. A row stands in one slot, or in one block of
-- the least size; a row of 2^24 bytes and more stands in blocks of the sizes of those that held it, in their order (that
-- a row is put into its own blocks: MySQL Internals Manual, "MyISAM Dynamic Data File Layout"; the rest is this project's own).
use Rattle.std.specs.Prelude.{◌≡◌, ◌+◌, ◌-◌, ◌≤◌, ◌^◌, ◌&&◌, nat_le, nat_lt, ℕ, Bool, true, if◌then◌else◌, List, [], ◌∷◌, ◌++◌, length, map, take, drop, sum_by, Some}
use Rattle.myi_base.specs.Numbers.{AreBytes}
use Rattle.myi_base.specs.Ranges.{Range}
use Rattle.myi_defs.specs.declared.types.RowFormat.{RowFormat}
use Rattle.myi_defs.specs.declared.types.RowFormat.TheVariants.{Static, Dynamic}
use Rattle.myi_defs.specs.declared.types.Defs.{Defs}
use Rattle.myi_frames.specs.Block.{Block, block_of}
use Rattle.myi_frames.specs.Sizes.{least_size, start_room, middle_room, held_bytes}
use Rattle.myi_frames.specs.Writing.{block_bytes, whole_spec, start_spec, middle_spec, end_spec}
use Rattle.myi_pack.specs.Packed.{Values, Packs}
use Rattle.myi_pack.specs.Spelling.{spelling, fits}
use Rattle.myi_chain.specs.Chain.{IsChain}
use Rattle.myi_chain.specs.Readable.{Row}

-- a row, and the sizes of the blocks that held it
pub record SizedRow : Type 0 where
  pub values : Values
  pub sizes : List ℕ

abbrev pub values_in : List SizedRow → List Values
values_in rows = map (λ (row : SizedRow). row.values) rows

-- a block of a row: its size, and how many row bytes it takes
pub record Share : Type 0 where
  pub size : ℕ
  pub taken : ℕ

-- ---- rows of 2^24 bytes and more

-- what is left of a row fits into a block of this size, as an end
abbrev pub is_end : ℕ → ℕ → Bool
is_end rest size = nat_lt rest (2 ^ 24) && nat_le (least_size rest) size

-- the size of an end: the least one, where the other bytes would be a block, else all
abbrev pub end_size : ℕ → ℕ → ℕ
end_size rest size = if nat_le (least_size rest + 20) size then least_size rest else size

-- what is left of a row, in blocks of these sizes: middles that are filled, and an end; what is not needed is left out
abbrev pub shares_behind : List ℕ → ℕ → List Share
shares_behind [] rest = []
shares_behind (size ∷ sizes) rest =
    if is_end rest size then record { size = end_size rest size; taken = rest } ∷ []
    else record { size = size; taken = middle_room size } ∷ shares_behind sizes (rest - middle_room size)

-- a row of n bytes in blocks of these sizes: a start that is filled, and what is behind it
abbrev pub shares : List ℕ → ℕ → List Share
shares [] n = []
shares (size ∷ sizes) n = record { size = size; taken = start_room n size } ∷ shares_behind sizes (n - start_room n size)

-- the bytes of the middles and the end, the first at a place; each middle names the place behind it
abbrev pub bytes_behind : ℕ → List Share → List ℕ → List ℕ
bytes_behind at [] b = []
bytes_behind at (s ∷ []) b = block_bytes end_spec b s.size
bytes_behind at (s ∷ t ∷ ts) b = block_bytes (middle_spec (Some (at + s.size))) (take s.taken b) s.size ++ bytes_behind (at + s.size) (t ∷ ts) (drop s.taken b)

-- the bytes of all blocks of a row, the first at a place
abbrev pub shared_bytes : ℕ → List Share → List ℕ → List ℕ
shared_bytes at [] b = []
shared_bytes at (s ∷ ss) b = block_bytes (start_spec (length b) (Some (at + s.size))) (take s.taken b) s.size ++ bytes_behind (at + s.size) ss (drop s.taken b)

-- ---- rows of any length

-- bytes in a block of their own, of the least size
abbrev pub own_block : List ℕ → List ℕ
own_block b = block_bytes (whole_spec (length b)) b (least_size (length b))

-- the blocks of a row of n bytes; the sizes matter only to a row of 2^24 bytes and more
abbrev pub group_by : RowFormat → List ℕ → ℕ → List Share
group_by Static sizes n = record { size = n; taken = n } ∷ []
group_by Dynamic sizes n = if nat_lt n (2 ^ 24) then record { size = least_size n; taken = n } ∷ [] else shares sizes n

-- their bytes, the first at a place
abbrev pub stored_by : RowFormat → ℕ → List ℕ → List ℕ → List ℕ
stored_by Static at sizes b = b
stored_by Dynamic at sizes b = if nat_lt (length b) (2 ^ 24) then own_block b else shared_bytes at (shares sizes (length b)) b

-- the slot or the blocks of a row
unfoldable pub group : Defs → SizedRow → List Share
group d row = group_by d.format row.sizes (length (spelling d row.values))

-- how many bytes they take
abbrev pub stored_size : Defs → SizedRow → ℕ
stored_size d row = sum_by (λ s. s.size) (group d row)

-- a row as it stands in the file, at a place
unfoldable pub stored : Defs → ℕ → SizedRow → List ℕ
stored d at row = stored_by d.format at row.sizes (spelling d row.values)

-- the rows of a file, the first at a place
abbrev pub stored_from : Defs → ℕ → List SizedRow → List ℕ
stored_from d at [] = []
stored_from d at (row ∷ rows) = stored d at row ++ stored_from d (at + stored_size d row) rows

-- the file of these rows
unfoldable pub stored_file : Defs → List SizedRow → List ℕ
stored_file d rows = stored_from d 0 rows

-- how many blocks, or slots, it has
abbrev pub block_count : Defs → List SizedRow → ℕ
block_count d rows = sum_by (λ row. length (group d row)) rows

-- the ranges of blocks one after the other, the first at a place
abbrev pub ranges_from : ℕ → List Share → List Range
ranges_from at [] = []
ranges_from at (s ∷ ss) = (at, at + s.size) ∷ ranges_from (at + s.size) ss

-- the rows of the file, the first at a place
unfoldable pub stored_rows : Defs → ℕ → List SizedRow → List Row
stored_rows d at [] = []
stored_rows d at (row ∷ rows) = record { at = at; bytes = spelling d row.values; blocks = ranges_from at (group d row) } ∷ stored_rows d (at + stored_size d row) rows

-- ---- what can be stored so

-- blocks of a chain in a file of bytes, which hold at least n row bytes, have these sizes
pub record HaveHeld (sizes : List ℕ) (n : ℕ) : Type 0 where
  pub file : List ℕ
  pub bytes : AreBytes file
  pub at : ℕ
  pub blocks : List Block
  pub chain : IsChain (block_of file) at [] blocks
  pub sized : map (λ (b : Block). b.size) blocks ≡ sizes
  pub room : n ≤ held_bytes blocks

-- the row has the form that the definitions ask for, and where it is too long for one block, those that held it have room
pub record IsStorable (d : Defs) (row : SizedRow) : Type 0 where
  pub fits : fits d row.values ≡ true
  pub held : d.format ≡ Dynamic → 2 ^ 24 ≤ length (spelling d row.values) → HaveHeld row.sizes (length (spelling d row.values))

-- bytes pack a row
abbrev pub PackARow : Defs → List ℕ → Type 0
PackARow d b = (v : Values) × Packs d v b
