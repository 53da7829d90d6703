-- A data file that is read through a window, and a row of it while its blocks are followed.
use Rattle.std.specs.Prelude.{◌≡◌, ◌⊎◌, ◌+◌, ◌-◌, ◌<◌, ◌≤◌, ◌^◌, ◌==◌, ℕ, Bool, true, false, ◌&&◌, nat_lt, if◌then◌else◌, List, [], ◌∷◌, ◌++◌, length, take, drop, Option, Some, None}
use Rattle.std.specs.Option.{option_map}
use Rattle.std.specs.List.{AllByRecursion}
use Rattle.myi_base.specs.Holding.{Holding, bytes_of, IfTold}
use Rattle.myi_base.specs.Ranges.{Range, is_apart}
use Rattle.myi_frames.specs.declared.head.Header.{Header}
use Rattle.myi_frames.specs.declared.form.FrameKind.TheVariants.{Whole}
use Rattle.myi_frames.specs.Block.{Block, IsPlace, block_of}
use Rattle.myi_frames.specs.Seeing.{HeadsBlock}
use Rattle.myi_window.specs.Excerpt.{Excerpt, bytes_from, StandsIn}
use Rattle.myi_window.specs.declared.window.TheConstants.{WINDOW}
use Rattle.myi_chain.specs.declared.chain.Link.{Link}
use Rattle.myi_chain.specs.declared.chain.Link.TheVariants.{Broken, Last, More}
use Rattle.myi_chain.specs.Chain.{Reading, by_kind, AreApart}
use Rattle.myi_chain.specs.ScanModel.{AreBlocksAt, IsCutOff}
use Rattle.myi_chain.specs.Used.{IsRange}
use Rattle.myi_chain.specs.Chain.{placed, ranges_at}

-- a file up to an end, and what is kept of it from the last read
pub record SourceModel : Type 0 where
  pub name : List ℕ
  pub end : ℕ
  pub kept : Excerpt

-- the bytes that are read, where the files hold this
abbrev pub read_bytes : SourceModel → Holding → List ℕ
read_bytes s m = take s.end (bytes_of s.name m)

-- the blocks of the file
abbrev pub read_blocks : SourceModel → Holding → Reading
read_blocks s m = block_of (read_bytes s m)

-- what is kept of the file stands there, and the file is long enough
pub record IsReady (s : SourceModel) (m : Holding) : Type 0 where
  pub kept : StandsIn s.kept (bytes_of s.name m)
  pub long : s.end ≤ length (bytes_of s.name m)

-- The same file is read on. Its end falls where it gave fewer bytes than that said, as no file does that tells what it
-- holds and is long enough.
pub record ReadsOn (holds : Option Holding) (old new : SourceModel) : Type 0 where
  pub name : new.name ≡ old.name
  pub falls : new.end ≤ old.end
  pub end : IfTold holds (λ m. new.end ≡ old.end)
  pub ready : IfTold holds (IsReady new)

-- the bytes that are kept end where the file does
abbrev pub EndsWithKept : SourceModel → Type 0
EndsWithKept s = IsCutOff s.kept s.end

-- The end stayed, or the file was found to end behind the bytes that are kept then, which begin at a place or before it.
abbrev pub MayFall : ℕ → SourceModel → SourceModel → Type 0
MayFall at old new = (new.end ≡ old.end) ⊎ (EndsWithKept new × (new.kept.from ≤ at))

-- the end stayed, or the file was found to end behind the bytes that are kept then
abbrev pub EndStaysOr : SourceModel → SourceModel → Type 0
EndStaysOr old new = (new.end ≡ old.end) ⊎ EndsWithKept new

-- where the file is known to end behind the bytes that are kept, no other bytes are read for a place among them
abbrev pub StaysAt : ℕ → SourceModel → SourceModel → Type 0
StaysAt at old new = EndsWithKept old → old.kept.from ≤ at → new ≡ old

-- from a place on a whole window is kept, or all up to the end
abbrev pub IsFilledAt : ℕ → SourceModel → Type 0
IsFilledAt at s = (WINDOW ≤ length (bytes_from at s.kept)) ⊎ (s.end ≡ at + length (bytes_from at s.kept))

-- a header stands at a place of a file of this length, and its row bytes lie in its block
pub record IsHeader (at len : ℕ) (h : Header) : Type 0 where
  pub here : h.head.at ≡ at
  pub place : IsPlace at h.head.size len
  pub inside : h.start + h.data_len ≤ h.head.size
  pub small : len < 2 ^ 64

-- the block with a header stands at its place of the file
abbrev pub StandsThere : SourceModel → Header → Holding → Type 0
StandsThere s h m = HeadsBlock (read_bytes s m) (Some h) (read_blocks s m h.head.at)

-- the row bytes of the block with a header, as they are kept
abbrev pub kept_bytes : Header → Excerpt → List ℕ
kept_bytes h e = take h.data_len (drop h.start (bytes_from h.head.at e))

-- the block with a header is kept whole
abbrev pub IsKept : Header → Excerpt → Type 0
IsKept h e = (h.start + h.data_len ≤ h.head.size) × (h.head.size ≤ length (bytes_from h.head.at e))

-- if the block with a header is a whole one, it is kept whole
abbrev pub HoldsWhole : Header → Excerpt → Type 0
HoldsWhole h e = h.head.kind ≡ Whole → h.head.size ≤ length (bytes_from h.head.at e)

-- ---- a row whose blocks are followed

-- the blocks that were taken, each by its place and size; where the next one is to be; how many row bytes it and those
-- behind it are to hold
pub record ChainModel : Type 0 where
  pub taken : List (ℕ × ℕ)
  pub next : Option ℕ
  pub left : ℕ

-- the bytes that the block with a header takes in the file
abbrev pub range_by : Header → Range
range_by h = (h.head.at, h.head.at + h.head.size)

-- a block may be taken, by its header: it holds a row byte and is not used
abbrev pub may_take_by : Header → List Range → Bool
may_take_by h used = nat_lt 0 h.data_len && is_apart (range_by h) used

-- what a first block is in a chain, by its header
abbrev pub first_by : Header → List Range → Link
first_by h used =
    if may_take_by h used then
    by_kind h.head.kind Broken (if h.data_len == h.head.rec_len then Last else Broken) (if nat_lt h.data_len h.head.rec_len then More else Broken) Broken Broken
    else Broken

-- what a block behind the first is, where so many row bytes are left to come, by its header
abbrev pub next_by : Header → List Range → ℕ → Link
next_by h used left =
    if may_take_by h used then
    by_kind h.head.kind Broken Broken Broken (if nat_lt h.data_len left then More else Broken) (if h.data_len == left then Last else Broken)
    else Broken

-- a chain without blocks but the first, which has this header
abbrev pub begun_with : Header → ChainModel
begun_with h = record { taken = (h.head.at, h.head.size) ∷ []; next = h.head.next; left = h.head.rec_len - h.data_len }

-- a chain with one block more
abbrev pub with_block : ChainModel → ℕ → ℕ → ChainModel
with_block c at size = record { taken = c.taken ++ (at, size) ∷ []; next = c.next; left = c.left }

-- a block was taken, or not
abbrev pub IsTaken : Header → ChainModel → ChainModel → Link → Type 0
IsTaken h old new Broken = Unit {0}
IsTaken h old new Last = (new.taken ≡ old.taken ++ (h.head.at, h.head.size) ∷ []) × (0 < h.data_len)
IsTaken h old new More = (new ≡ record { taken = old.taken ++ (h.head.at, h.head.size) ∷ []; next = h.head.next; left = old.left - h.data_len }) × (0 < h.data_len) × (h.data_len < old.left)

-- the blocks that were taken, and those of the rest of the chain, if there is a rest
abbrev pub with_rest : List (ℕ × ℕ) → Option (List Block) → Option (List (ℕ × ℕ))
with_rest taken o = option_map (λ bs. taken ++ placed bs) o

-- whether a chain ends as it should, with these blocks
abbrev pub HasFollowed : Bool → List (ℕ × ℕ) → Option (List (ℕ × ℕ)) → Type 0
HasFollowed true taken o = o ≡ Some taken
HasFollowed false taken o = o ≡ None

-- the ranges of these blocks may be added to the used ones: each is apart from them and from those before it, and holds a
-- byte
pub record CanAdd (used : List Range) (taken : List (ℕ × ℕ)) : Type 0 where
  pub apart : AreApart used (ranges_at taken)
  pub some : AllByRecursion IsRange (ranges_at taken)

-- each of these blocks is read at its place
abbrev pub AreRead : Reading → List Block → Type 0
AreRead read bs = AllByRecursion (λ b. read b.at ≡ Some b) bs

-- if blocks were those of a row at a place, in a file up to an end, these are
abbrev pub LiesOn : ℕ → List (ℕ × ℕ) → List (ℕ × ℕ) → Type 0
LiesOn end old new = (at : ℕ) → AreBlocksAt at end old → AreBlocksAt at end new
