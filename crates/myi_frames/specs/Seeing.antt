-- What a reader of some bytes of a file can answer of the block at their place.
use Rattle.std.specs.Prelude.{◌≡◌, ℕ, ◌+◌, ◌<◌, ◌≤◌, List, length, take, drop, Option, Some, None, IsSomeAnd}
use Rattle.myi_frames.specs.declared.frame.Frame.{Frame}
use Rattle.myi_frames.specs.declared.frame.Seen.{Seen}
use Rattle.myi_frames.specs.declared.frame.Seen.TheVariants as seen
use Rattle.myi_frames.specs.declared.head.Header.{Header}
use Rattle.myi_frames.specs.Block.{Block, IsPlace, block_by, head_of}
use Rattle.myi_frames.specs.Sizes.{IsSized}

-- the file's bytes from a place on begin with these
abbrev pub IsPartAt : ℕ → List ℕ → List ℕ → Type 0
IsPartAt at bytes d = bytes ≡ take (length bytes) (drop at d)

-- the block that is shown
abbrev pub shown : Frame → Block
shown f = record { kind = f.kind; at = f.at; size = f.size; rec_len = f.rec_len; next = f.next; prev = f.prev; bytes = f.bytes.now }

-- an answer by n bytes of a file that has this block or none at their place
abbrev pub SeesBlock : Seen → ℕ → Option Block → Type 0
SeesBlock seen.Nothing n b = b ≡ None
SeesBlock (seen.Longer size) n b = IsSomeAnd b (λ b. (b.size ≡ size) × (n < size))
SeesBlock (seen.Frame f) n b = (b ≡ Some (shown f)) × (f.size ≤ n)

-- the whole block is shown
abbrev pub ShowsBlock : Seen → Block → Type 0
ShowsBlock seen.Nothing b = ⊥
ShowsBlock (seen.Longer size) b = ⊥
ShowsBlock (seen.Frame f) b = shown f ≡ b

-- the block that is seen lies in the file, and has room for what is lent of it
abbrev pub SeesPlace : Seen → ℕ → ℕ → Type 0
SeesPlace seen.Nothing at len = Unit {0}
SeesPlace (seen.Longer size) at len = IsPlace at size len
SeesPlace (seen.Frame f) at len = (f.at ≡ at) × IsPlace at f.size len × IsSized (length f.bytes.now) f.size

-- a block is seen only where so many bytes at hand hold it whole, and longer than they are only where they do not
abbrev pub SeesWhole : Seen → ℕ → Type 0
SeesWhole seen.Nothing n = Unit {0}
SeesWhole (seen.Longer size) n = n < size
SeesWhole (seen.Frame f) n = f.size ≤ n

-- an answer by bytes that have this header or none
abbrev pub Sees : Seen → List ℕ → Option Header → Type 0
Sees seen.Nothing bytes h = h ≡ None
Sees (seen.Longer size) bytes h = IsSomeAnd h (λ h. (h.head.size ≡ size) × (length bytes < size))
Sees (seen.Frame f) bytes h = IsSomeAnd h (λ h. (h.head.size ≤ length bytes) × (shown f ≡ block_by bytes h))

-- a header is that of a block of a file: it says the same, and the block's row bytes stand where it says
pub record Heads (d : List ℕ) (h : Header) (b : Block) : Type 0 where
  pub head : head_of b ≡ h.head
  pub long : length b.bytes ≡ h.data_len
  pub bytes : b.bytes ≡ take h.data_len (drop (h.head.at + h.start) d)
  pub inside : h.head.at + h.start + h.data_len ≤ length d

-- the header of the block at a place of a file, and none where no block is
abbrev pub HeadsBlock : List ℕ → Option Header → Option Block → Type 0
HeadsBlock d None o = o ≡ None
HeadsBlock d (Some h) o = (b : Block) × (o ≡ Some b) × Heads d h b
