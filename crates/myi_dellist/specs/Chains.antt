-- The blocks of a row as they stand in a file, each at the place that the block before it names (MySQL Internals Manual, "MyISAM
-- Dynamic Data File Layout"), or the place of the first block that is not what the chain needs there.
use Rattle.std.specs.Prelude.{◌≡◌, ℕ, ◌+◌, ◌-◌, ◌^◌, ◌≤◌, Bool, true, false, ◌&&◌, ◌==◌, nat_lt, nat_le, if◌then◌else◌, List, [], ◌∷◌, ◌++◌, length, Option, Some, None, option_and_then}
use Rattle.std.specs.List.{AllByRecursion}
use Rattle.myi_frames.specs.declared.form.FrameKind.{FrameKind}
use Rattle.myi_frames.specs.declared.form.FrameKind.TheVariants.{Deleted, Whole, Start, Middle, End}
use Rattle.myi_frames.specs.declared.head.Head.{Head}
use Rattle.myi_frames.specs.Block.{Block, block_of, head_of, IsPlace}
use Rattle.myi_dellist.specs.declared.chains.RowLink.{RowLink}
use Rattle.myi_dellist.specs.declared.chains.RowStep.{RowStep}
use Rattle.myi_dellist.specs.declared.pieces.Piece.{Piece}
use Rattle.myi_dellist.specs.Areas.{Area, AreApart}
use Rattle.myi_dellist.specs.Releasing.{most_size, half_size}
use Rattle.myi_dellist.specs.RowBlocks.{HoldRow}

-- ---- one block

-- a block that holds a byte, but not all that are left, names the next one
abbrev pub link_step : Head → ℕ → ℕ → Option ℕ → Option RowStep
link_step h len left None = None
link_step h len left (Some p) = Some (record { size = h.size; taken = len; next = Some (record { at = p; left = Some (left - len) }) })

abbrev pub more_step : Head → ℕ → ℕ → Option RowStep
more_step h len left = if nat_lt 0 len && nat_lt len left then link_step h len left h.next else None

-- the last block
abbrev pub last_step : Head → ℕ → Bool → Option RowStep
last_step h len true = Some (record { size = h.size; taken = len; next = None })
last_step h len false = None

-- the first block, and one where so many row bytes are left to come
abbrev pub first_step : FrameKind → Head → ℕ → Option RowStep
first_step Deleted h len = None
first_step Whole h len = last_step h len (nat_lt 0 len)
first_step Start h len = more_step h len h.rec_len
first_step Middle h len = None
first_step End h len = None

abbrev pub next_step : FrameKind → Head → ℕ → ℕ → Option RowStep
next_step Deleted h len left = None
next_step Whole h len left = None
next_step Start h len left = None
next_step Middle h len left = more_step h len left
next_step End h len left = last_step h len (nat_lt 0 len && (len == left))

abbrev pub step_by : Option ℕ → Head → ℕ → Option RowStep
step_by None h len = first_step h.kind h len
step_by (Some left) h len = next_step h.kind h len left

-- no block of a row is longer than what is released as two deleted blocks
abbrev pub step_of : Option ℕ → Head → ℕ → Option RowStep
step_of left h len = if nat_le h.size (half_size + most_size) then step_by left h len else None

abbrev pub block_step : Option ℕ → Block → Option RowStep
block_step left b = step_of left (head_of b) (length b.bytes)

-- the block of the chain at a place, and none where no block stands there that the chain needs
unfoldable pub step_in : List ℕ → RowLink → Option RowStep
step_in d l = option_and_then (block_step l.left) (block_of d l.at)

-- the chain does not need what stands at a place
abbrev pub BreaksAt : List ℕ → RowLink → ℕ → Type 0
BreaksAt d l p = (step_in d l ≡ None) × (l.at ≡ p)

-- a block of a row may stand so in a file of this length
pub record IsRowBlock (end : ℕ) (p : Piece) : Type 0 where
  pub place : IsPlace p.at p.size end
  pub most : p.size ≤ half_size + most_size

-- how many row bytes are left to come, at most
abbrev pub left_or : Option ℕ → ℕ
left_or None = 2 ^ 32
left_or (Some left) = left

abbrev pub to_come : Option RowLink → ℕ
to_come None = 0
to_come (Some l) = 1 + left_or l.left

-- ---- one after the other

abbrev pub first_link : ℕ → RowLink
first_link at = record { at = at; left = None }

abbrev pub piece_of : RowLink → RowStep → Piece
piece_of l s = record { at = l.at; size = s.size; taken = s.taken }

-- blocks of a chain between two of its links
abbrev pub Passes : List ℕ → RowLink → List Piece → RowLink → Type 0
Passes d l [] k = l ≡ k
Passes d l (p ∷ ps) k = (s : RowStep) × (q : RowLink) × (step_in d l ≡ Some s) × (s.next ≡ Some q) × (p ≡ piece_of l s) × Passes d q ps k

-- the row at a place has these blocks
pub record IsRowIn (d : List ℕ) (at : ℕ) (ps : List Piece) : Type 0 where
  pub passed : List Piece
  pub link : RowLink
  pub step : RowStep
  pub passes : Passes d (first_link at) passed link
  pub is : step_in d link ≡ Some step
  pub last : step.next ≡ None
  pub pieces : ps ≡ passed ++ piece_of link step ∷ []

-- the first block that the chain does not need stands at a place
pub record IsBroken (d : List ℕ) (at p : ℕ) : Type 0 where
  pub passed : List Piece
  pub link : RowLink
  pub passes : Passes d (first_link at) passed link
  pub none : step_in d link ≡ None
  pub place : link.at ≡ p

-- ---- a row that stands in a file

abbrev pub areas_in : List Block → List Area
areas_in [] = []
areas_in (b ∷ bs) = record { at = b.at; size = b.size } ∷ areas_in bs

-- a row stands at a place in these blocks, which have no byte of one another or of a deleted one
pub record StandsIn (d : List ℕ) (at : ℕ) (row : List ℕ) (bs : List Block) (holes : List Area) : Type 0 where
  pub row_is : HoldRow (Some at) row bs
  pub read : AllByRecursion (λ (b : Block). block_of d b.at ≡ Some b) bs
  pub short : AllByRecursion (λ (b : Block). b.size ≤ half_size + most_size) bs
  pub apart : AreApart (areas_in bs ++ holes)
