-- How the blocks of a row are read one after the other from the place of the first: what a header says of the rest of its row, and
-- what is left to be read.
use Rattle.std.specs.Prelude.{◌≡◌, ◌+◌, ◌-◌, ◌≤◌, ◌<◌, ◌==◌, ℕ, nat_lt, if◌then◌else◌, List, [], ◌∷◌, ◌++◌, length, Option, Some, None}
use Rattle.std.specs.Option.{option_map}
use Rattle.std.specs.List.{AllByRecursion}
use Rattle.myi_frames.specs.declared.head.Header.{Header}
use Rattle.myi_frames.specs.Block.{Block, block_of}
use Rattle.myi_frames.specs.Seeing.{Heads}
use Rattle.myi_chain.specs.Chain.{Reading, by_kind, placed, row_bytes, IsTail}
use Rattle.myi_order.specs.declared.row_at.Link.{Link}
use Rattle.myi_order.specs.declared.row_at.Link.TheVariants.{Last, More}

-- a header stands at a place of a file that ends so, and its row bytes lie in its block
pub record IsHeaderAt (at end : ℕ) (h : Header) : Type 0 where
  pub here : h.head.at ≡ at
  pub inside : at + h.head.size ≤ end
  pub bytes : h.start + h.data_len ≤ h.head.size

-- the header of the block at a place of a file of these bytes
abbrev pub IsBlockThere : List ℕ → ℕ → Header → Type 0
IsBlockThere x at h = (b : Block) × (block_of x at ≡ Some b) × Heads x h b

-- the row goes on at the place that a block names, if it names one
abbrev pub more_at : Option ℕ → ℕ → Option Link
more_at next left = option_map (λ at. More at left) next

-- how a row goes on behind its first block, and none where the block is no first one
abbrev pub first_link : Header → Option Link
first_link h = by_kind h.head.kind None
    (if h.data_len == h.head.rec_len then Some Last else None)
    (if nat_lt h.data_len h.head.rec_len then more_at h.head.next (h.head.rec_len - h.data_len) else None)
    None None

-- how it goes on behind a block from which on so many bytes were to come, and none where the block is no such one
abbrev pub next_link : Header → ℕ → Option Link
next_link h left =
    if h.data_len == 0 then None else
    by_kind h.head.kind None None None
    (if nat_lt h.data_len left then more_at h.head.next (left - h.data_len) else None)
    (if h.data_len == left then Some Last else None)

-- how many row bytes are to come
abbrev pub left_of : Link → ℕ
left_of Last = 0
left_of (More at left) = left

-- the place and the size of a block, by its header
abbrev pub noted : Header → List (ℕ × ℕ)
noted h = (h.head.at, h.head.size) ∷ []

-- The further blocks of a row from a place on: with the bytes that were read and the blocks that were noted before, they give
-- the row and its blocks.
pub record Remains (read : Reading) (all : List Block) (at left : ℕ) (before : List ℕ) (seen : List (ℕ × ℕ)) : Type 0 where
  pub blocks : List Block
  pub linked : IsTail read (Some at) blocks
  pub filled : AllByRecursion (λ b. 0 < length b.bytes) blocks
  pub whole : length (row_bytes blocks) ≡ left
  pub row_is : before ++ row_bytes blocks ≡ row_bytes all
  pub seen_is : seen ++ placed blocks ≡ placed all

-- the row of these blocks goes on so
abbrev pub GoesOn : Reading → List Block → Link → List ℕ → List (ℕ × ℕ) → Type 0
GoesOn read all Last before seen = (before ≡ row_bytes all) × (seen ≡ placed all)
GoesOn read all (More at left) before seen = Remains read all at left before seen
