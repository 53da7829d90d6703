-- The chain of blocks that holds one row of a dynamic table (MySQL Internals Manual, "MyISAM Dynamic Data
-- File Layout"; that blocks of a row share no byte with those of others is this project's own rule).
use Rattle.std.specs.Prelude.{◌≡◌, ◌+◌, ◌-◌, ◌<◌, ◌≤◌, ℕ, zero, suc, Bool, true, ◌&&◌, ◌==◌, nat_lt, if◌then◌else◌, List, [], ◌∷◌, ◌++◌, length, map, Option, Some, None, option_and_then}
use Rattle.std.specs.List.{flat_map, AllByRecursion}
use Rattle.myi_base.specs.Ranges.{Range, is_apart}
use Rattle.myi_frames.specs.declared.form.FrameKind.{FrameKind}
use Rattle.myi_frames.specs.declared.form.FrameKind.TheVariants.{Deleted, Whole, Start, Middle, End}
use Rattle.myi_frames.specs.Block.{Block}
use Rattle.myi_chain.specs.declared.chain.Link.{Link}
use Rattle.myi_chain.specs.declared.chain.Link.TheVariants.{Broken, Last, More}

-- the block at each place of a file, and none where no block starts
abbrev pub Reading : Type 0
Reading = ℕ → Option Block

-- a block that is read at a place of a file of this length
pub record IsBlockAt (len p : ℕ) (b : Block) : Type 0 where
  pub at : b.at ≡ p
  pub least : 20 ≤ b.size
  pub inside : p + b.size ≤ len

-- what every reading of a file of this length keeps
abbrev pub IsReading : Reading → ℕ → Type 0
IsReading read len = (p : ℕ) (b : Block) → read p ≡ Some b → IsBlockAt len p b

-- the bytes that a block takes in the file
abbrev pub range_of : Block → Range
range_of b = (b.at, b.at + b.size)

abbrev pub ranges : List Block → List Range
ranges bs = map range_of bs

-- the place and the size of each block
abbrev pub placed : List Block → List (ℕ × ℕ)
placed bs = map (λ b. (b.at, b.size)) bs

-- the ranges of blocks at places, of sizes
abbrev pub ranges_at : List (ℕ × ℕ) → List Range
ranges_at bs = map (λ b. (b.0, b.0 + b.1)) bs

-- the bytes of the row, one block after the other
abbrev pub row_bytes : List Block → List ℕ
row_bytes bs = flat_map (λ b. b.bytes) bs

-- ---- what a chain is

-- the blocks behind the first: middles, each at the place that the block before it names, and an end
abbrev pub IsTail : Reading → Option ℕ → List Block → Type 0
IsTail read None bs = ⊥
IsTail read (Some p) [] = ⊥
IsTail read (Some p) (b ∷ []) = (read p ≡ Some b) × (b.kind ≡ End)
IsTail read (Some p) (b ∷ c ∷ bs) = (read p ≡ Some b) × (b.kind ≡ Middle) × IsTail read b.next (c ∷ bs)

-- a whole block alone, or a start (of whichever type) and the blocks behind it
abbrev pub AreLinked : Reading → ℕ → List Block → Type 0
AreLinked read p [] = ⊥
AreLinked read p (b ∷ []) = (read p ≡ Some b) × (b.kind ≡ Whole)
AreLinked read p (b ∷ c ∷ bs) = (read p ≡ Some b) × (b.kind ≡ Start) × IsTail read b.next (c ∷ bs)

-- each of these ranges shares no byte with a used one or with one before it
abbrev pub AreApart : List Range → List Range → Type 0
AreApart used [] = Unit {0}
AreApart used (r ∷ rs) = (is_apart r used ≡ true) × AreApart (used ++ r ∷ []) rs

-- how many row bytes the first block says that the row has
abbrev pub promised : List Block → ℕ
promised [] = 0
promised (b ∷ bs) = b.rec_len

-- the blocks of the row that starts at a place, where some ranges are used
pub record IsChain (read : Reading) (p : ℕ) (used : List Range) (bs : List Block) : Type 0 where
  pub linked : AreLinked read p bs
  pub filled : AllByRecursion (λ b. 0 < length b.bytes) bs
  pub whole : length (row_bytes bs) ≡ promised bs
  pub apart : AreApart used (ranges bs)

-- ---- how it is found

-- one of five, by the kind of a block
abbrev pub by_kind : {A : Type 0} → FrameKind → A → A → A → A → A → A
by_kind Deleted a b c d e = a
by_kind Whole a b c d e = b
by_kind Start a b c d e = c
by_kind Middle a b c d e = d
by_kind End a b c d e = e

-- a block that may be taken: it holds a row byte and is not used
abbrev pub may_take : Block → List Range → Bool
may_take b used = nat_lt 0 (length b.bytes) && is_apart (range_of b) used

-- what a first block is in a chain
abbrev pub first_link : Block → List Range → Link
first_link b used =
    if may_take b used then
    by_kind b.kind Broken (if length b.bytes == b.rec_len then Last else Broken) (if nat_lt (length b.bytes) b.rec_len then More else Broken) Broken Broken
    else Broken

-- what a block behind the first is, where so many row bytes are left to come
abbrev pub next_link : Block → List Range → ℕ → Link
next_link b used left =
    if may_take b used then
    by_kind b.kind Broken Broken Broken (if nat_lt (length b.bytes) left then More else Broken) (if length b.bytes == left then Last else Broken)
    else Broken

abbrev pub prepend : Block → Option (List Block) → Option (List Block)
prepend b None = None
prepend b (Some bs) = Some (b ∷ bs)

-- a block, and what comes behind it where it is not the last
abbrev pub taken_by : Link → Block → Option (List Block) → Option (List Block)
taken_by Broken b more = None
taken_by Last b more = Some (b ∷ [])
taken_by More b more = prepend b more

abbrev pub tail_step : (Option ℕ → List Range → ℕ → Option (List Block)) → List Range → ℕ → Block → Option (List Block)
tail_step rest used left b =
    taken_by (next_link b used left) b (rest b.next (used ++ range_of b ∷ []) (left - length b.bytes))

abbrev pub tail_of : ℕ → Reading → Option ℕ → List Range → ℕ → Option (List Block)
tail_of zero read next used left = None
tail_of (suc fuel) read next used left =
    option_and_then (tail_step (λ n u l. tail_of fuel read n u l) used left) (option_and_then read next)

-- The blocks that hold the last `left` bytes of a row. Each holds a byte, so there are no more than bytes.
unfoldable pub tail : Reading → Option ℕ → List Range → ℕ → Option (List Block)
tail read next used left = tail_of left read next used left

abbrev pub head_step : Reading → List Range → Block → Option (List Block)
head_step read used b =
    taken_by (first_link b used) b (tail read b.next (used ++ range_of b ∷ []) (b.rec_len - length b.bytes))

-- the chain that starts at a place, if there is one
unfoldable pub chain_of : Reading → ℕ → List Range → Option (List Block)
chain_of read p used = option_and_then (head_step read used) (read p)
