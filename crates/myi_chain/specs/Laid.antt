-- A data file that is nothing but rows, one after the other: each in a whole block, or each in any blocks that follow
-- one another.
use Rattle.std.specs.Prelude.{◌≡◌, ◌+◌, ◌<◌, ℕ, Bool, true, List, [], ◌∷◌, length, Some}
use Rattle.myi_frames.specs.declared.form.FrameKind.TheVariants.{Whole}
use Rattle.myi_frames.specs.Block.{Block}
use Rattle.myi_frames.specs.Sizes.{total_size}
use Rattle.myi_chain.specs.Chain.{Reading, range_of, row_bytes, IsChain}
use Rattle.myi_chain.specs.Readable.{Row, row_at}

-- a whole block that packs a row stands at a place
pub record IsWholeRow (read : Reading) (accepts : List ℕ → Bool) (p : ℕ) (b : Block) : Type 0 where
  pub here : read p ≡ Some b
  pub kind : b.kind ≡ Whole
  pub some : 0 < length b.bytes
  pub all : length b.bytes ≡ b.rec_len
  pub packs : accepts b.bytes ≡ true

-- these blocks fill a file from a place on
abbrev pub AreLaid : Reading → (List ℕ → Bool) → ℕ → ℕ → List Block → Type 0
AreLaid read accepts len p [] = p ≡ len
AreLaid read accepts len p (b ∷ bs) = IsWholeRow read accepts p b × AreLaid read accepts len (p + b.size) bs

-- the row of a whole block
abbrev pub whole_row : Block → Row
whole_row b = record { at = b.at; bytes = b.bytes; blocks = range_of b ∷ [] }

-- ---- rows in any blocks

-- blocks stand one directly after the other, the first at a place
abbrev pub AreJoined : ℕ → List Block → Type 0
AreJoined p [] = Unit {0}
AreJoined p (b ∷ bs) = (b.at ≡ p) × AreJoined (p + b.size) bs

-- these blocks, the first at a place, hold a row that is packed
pub record IsGroup (read : Reading) (accepts : List ℕ → Bool) (p : ℕ) (bs : List Block) : Type 0 where
  pub chain : IsChain read p [] bs
  pub joined : AreJoined p bs
  pub packs : accepts (row_bytes bs) ≡ true

-- the blocks of these rows fill a file from a place on
abbrev pub AreGroups : Reading → (List ℕ → Bool) → ℕ → ℕ → List (List Block) → Type 0
AreGroups read accepts len p [] = p ≡ len
AreGroups read accepts len p (bs ∷ groups) = IsGroup read accepts p bs × AreGroups read accepts len (p + total_size bs) groups

-- the rows in these blocks, the first at a place
abbrev pub group_rows : ℕ → List (List Block) → List Row
group_rows p [] = []
group_rows p (bs ∷ groups) = row_at p bs ∷ group_rows (p + total_size bs) groups
