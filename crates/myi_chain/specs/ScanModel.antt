-- A scan of a data file: where it stands, what of the file is left then, what its calls answer and what they leave. What
-- is left, and when the file is as the scan knows it, are parameters, so that one definition of a call's outcome holds for
-- each format of data files. A call is asked for items, or for rows alone; the answer of a call for rows is seen as that
-- of one for items. Of dynamic rows all is said here, for any test of what packs a row.
use Rattle.std.specs.Prelude.{◌≡◌, ◌⊎◌, ◌≤◌, ◌<◌, ◌+◌, ◌^◌, ℕ, Bool, true, false, List, [], ◌∷◌, ◌++◌, length, take, Option, Some, None, Result, Ok, Err, IfOk, IfErr, IfSome, OnErr}
use Rattle.std.specs.List.{AllByRecursion}
use Rattle.myi_base.specs.Holding.{Holding, bytes_of, IfTold}
use Rattle.myi_base.specs.Ranges.{Range}
use Rattle.myi_frames.specs.Block.{Block, block_of}
use Rattle.myi_window.specs.declared.window.TheConstants.{WINDOW}
use Rattle.myi_window.specs.Excerpt.{Excerpt, nothing, StandsIn}
use Rattle.myi_chain.specs.declared.piece.Piece.{Piece}
use Rattle.myi_chain.specs.declared.piece.Piece.TheVariants as piece
use Rattle.myi_chain.specs.declared.piece.Item.{Item}
use Rattle.myi_chain.specs.declared.piece.Item.TheVariants as item
use Rattle.myi_chain.specs.declared.piece.ScanFault.{ScanFault}
use Rattle.myi_chain.specs.declared.piece.ScanFault.TheVariants.{Memory}
use Rattle.myi_chain.specs.declared.piece.Wanted.{Wanted}
use Rattle.myi_chain.specs.declared.piece.Wanted.TheVariants.{Items, Rows}
use Rattle.myi_chain.specs.Pieces.{piece_bytes, is_lent}
use Rattle.myi_chain.specs.Readable.{row, free, rows_of, rest}
use Rattle.myi_chain.specs.Readable as readable
use Rattle.myi_chain.specs.Laid.{IsWholeRow, AreLaid}
use Rattle.myi_chain.specs.Used.{joined}
use Rattle.myi_chain.specs.Chain.{Reading, ranges_at}

-- A scan of the file of a name up to an end, with a test of what packs a row. It goes on at `place`; the used ranges answer
-- from there on as those of the blocks of rows that were answered. `blocks` are those of the row that was answered last, each by its place
-- and size. `kept` is what the scan keeps of the file from its last read.
pub record Scanning (A : Type 0) : Type 0 where
  pub name : List ℕ
  pub test : A
  pub extend : Bool
  pub end : ℕ
  pub place : ℕ
  pub used : List Range
  pub blocks : List (ℕ × ℕ)
  pub kept : Excerpt

-- a scan of which nothing was read
abbrev pub fresh_scan : {A : Type 0} → List ℕ → A → Bool → ℕ → Scanning A
fresh_scan name test extend end = record { name = name; test = test; extend = extend; end = end; place = 0; used = []; blocks = []; kept = nothing }

-- the bytes that are scanned, where the files hold this
abbrev pub scanned : {A : Type 0} → Scanning A → Holding → List ℕ
scanned s m = take s.end (bytes_of s.name m)

-- what the scan keeps of its file stands in it, as it does while nobody writes the file
abbrev pub KeptStands : {A : Type 0} → Scanning A → Holding → Type 0
KeptStands s m = StandsIn s.kept (bytes_of s.name m)

-- The scan goes over the same file in the same way. Its end falls where the file gave fewer bytes than that said.
pub record IsSameScan {A : Type 0} (old new : Scanning A) : Type 0 where
  pub name : new.name ≡ old.name
  pub test : new.test ≡ old.test
  pub extend : new.extend ≡ old.extend
  pub end : new.end ≤ old.end

-- the bytes that are kept of a file end where it does
abbrev pub IsCutOff : Excerpt → ℕ → Type 0
IsCutOff kept end = kept.from + length kept.bytes ≡ end

-- the end stays, or falls to behind the bytes that the scan keeps then
abbrev pub FallsToKept : {A : Type 0} → Scanning A → Scanning A → Type 0
FallsToKept old new = (new.end ≡ old.end) ⊎ IsCutOff new.kept new.end

-- ---- what is answered

-- the answer is this row or this deleted block; the blocks that are kept are then those of the row
abbrev pub IsItem : readable.Item → Item → List (ℕ × ℕ) → List (ℕ × ℕ) → Type 0
IsItem (row r) (item.Row at p) old new = (r.at ≡ at) × (piece_bytes p ≡ r.bytes) × (ranges_at new ≡ r.blocks)
IsItem (row r) (item.Free at size) old new = ⊥
IsItem (free a) (item.Row at p) old new = ⊥
IsItem (free a) (item.Free at size) old new = (a ≡ (at, at + size)) × (new ≡ old)

-- the bytes of an answered row pass the test
abbrev pub Passes : (List ℕ → Bool) → Item → Type 0
Passes accepts (item.Row at p) = accepts (piece_bytes p) ≡ true
Passes accepts (item.Free at size) = Unit {0}

-- the bytes of an answered row are as many as four bytes can count
abbrev pub IsCounted : Item → Type 0
IsCounted (item.Row at p) = length (piece_bytes p) < 2 ^ 32
IsCounted (item.Free at size) = Unit {0}

-- deleted blocks are answered where items are wanted
abbrev pub IsWanted : Wanted → Item → Type 0
IsWanted wanted (item.Row at p) = Unit {0}
IsWanted Items (item.Free at size) = Unit {0}
IsWanted Rows (item.Free at size) = ⊥

-- a row that a call for rows answers, by its place and its bytes
abbrev pub as_item : ℕ × Piece → Item
as_item found = item.Row found.0 found.1

-- the answer of a call for rows
abbrev pub as_items : Result (Option (ℕ × Piece)) ScanFault → Result (Option Item) ScanFault
as_items (Err e) = Err e
as_items (Ok None) = Ok None
as_items (Ok (Some found)) = Ok (Some (as_item found))

-- the place of an answer
abbrev pub place_in : Item → ℕ
place_in (item.Row at p) = at
place_in (item.Free at size) = at

-- A row's bytes are lent exactly where the row is one block that a window can hold; these are its blocks.
abbrev pub LendsBlock : Piece → List (ℕ × ℕ) → Type 0
LendsBlock (piece.Lent bytes) blocks = is_lent (ranges_at blocks) ≡ true
LendsBlock (piece.Joined bytes) blocks = is_lent (ranges_at blocks) ≡ false

-- a block, by its place and size, ends before an end, and at a place of eight bytes
abbrev pub EndsInside : ℕ → ℕ × ℕ → Type 0
EndsInside end b = (b.0 + b.1 ≤ end) × (b.0 + b.1 < 2 ^ 64)

-- the first of these blocks stands at a place
abbrev pub BeginsAt : ℕ → List (ℕ × ℕ) → Type 0
BeginsAt at [] = ⊥
BeginsAt at (b ∷ bs) = b.0 ≡ at

-- these are blocks of a row at a place, in a file up to an end
abbrev pub AreBlocksAt : ℕ → ℕ → List (ℕ × ℕ) → Type 0
AreBlocksAt at end blocks = BeginsAt at blocks × AllByRecursion (EndsInside end) blocks

-- What is answered lies in the file, whatever that tells: a row by its blocks, which are those that are kept then, and a
-- deleted block, at which those of the row before stay.
abbrev pub StandsItem : {A : Type 0} → Item → Scanning A → Scanning A → Type 0
StandsItem (item.Row at p) old new = LendsBlock p new.blocks × AreBlocksAt at new.end new.blocks
StandsItem (item.Free at size) old new = (new.blocks ≡ old.blocks) × EndsInside new.end (at, size)

-- ---- what comes first

-- these are passed on the way to what is wanted: deleted blocks, where rows are, and else nothing
abbrev pub ArePassed : Wanted → List readable.Item → Type 0
ArePassed Items is = is ≡ []
ArePassed Rows is = rows_of is ≡ []

-- of some items those that are passed stand before the others
abbrev pub PassesTo : Wanted → List readable.Item → List readable.Item → Type 0
PassesTo wanted before after = (passed : List readable.Item) × ArePassed wanted passed × (before ≡ passed ++ after)

-- Of some items this answer is the first that is wanted, and these are behind it. The blocks that are kept before and then
-- are given too.
pub record ComesFirst (wanted : Wanted) (before after : List readable.Item) (found : Item) (old new : List (ℕ × ℕ)) : Type 0 where
  pub first : readable.Item
  pub next : PassesTo wanted before (first ∷ after)
  pub is : IsItem first found old new

-- ---- what a call answers, and what it leaves

-- What a call answers, whatever the files tell. An answer is of the kind that is given, and it is one that is wanted; a row
-- has fewer than 2^32 bytes; a refusal is Memory only where memory may be lacking; and a call is refused only before the
-- scan's end.
pub record Says {A : Type 0} (IsOfKind : Item → Type 0) (MayLackMemory : Type 0) (wanted : Wanted) (old : Scanning A) (result : Result (Option Item) ScanFault) : Type 0 where
  pub packs : IfOk result (λ found. IfSome found IsOfKind)
  pub meant : IfOk result (λ found. IfSome found (IsWanted wanted))
  pub counted : IfOk result (λ found. IfSome found IsCounted)
  pub never : IfErr result (λ e. e ≡ Memory → MayLackMemory)
  pub failing : OnErr result (old.place < old.end)

-- `left` is the items that are left, and `Current` says when the file is as the scan knows it.
module _ {A : Type 0} (left : Scanning A → Holding → List readable.Item) (Current : Scanning A → Holding → Type 0) (wanted : Wanted) (holds : Option Holding) (old : Scanning A) where
  -- One was answered: the first that was left, and what is behind it is left. Its place is where the scan stood or behind
  -- it, and the scan stands behind that then. A file that tells what it holds is scanned to the same end.
  pub record Answers (found : Item) (new : Scanning A) : Type 0 where
    pub same : IsSameScan old new
    pub rises : old.place < new.place
    pub between : (old.place ≤ place_in found) × (place_in found < new.place)
    pub within : new.place ≤ new.end
    pub falls : FallsToKept old new
    pub whole : IfTold holds (λ m. new.end ≡ old.end)
    pub stands : StandsItem found old new
    pub told : IfTold holds (λ m. ComesFirst wanted (left old m) (left new m) found old.blocks new.blocks)
    pub current : IfTold holds (Current new)

  -- none was left: the scan stands at its end
  pub record HasEnded (new : Scanning A) : Type 0 where
    pub same : IsSameScan old new
    pub later : old.place ≤ new.place
    pub ended : new.place ≡ new.end
    pub falls : FallsToKept old new
    pub whole : IfTold holds (λ m. new.end ≡ old.end)
    pub blocks : new.blocks ≡ old.blocks
    pub told : IfTold holds (λ m. ArePassed wanted (left old m) × (left new m ≡ []))
    pub current : IfTold holds (Current new)

  -- nothing was answered: the scan stands where it stood, and the same is left
  pub record Keeps (new : Scanning A) : Type 0 where
    pub same : IsSameScan old new
    pub place : new.place ≡ old.place
    pub used : new.used ≡ old.used
    pub within : new.place ≤ new.end
    pub falls : FallsToKept old new
    pub whole : IfTold holds (λ m. new.end ≡ old.end)
    pub blocks : new.blocks ≡ old.blocks
    pub told : IfTold holds (λ m. left new m ≡ left old m)
    pub current : IfTold holds (Current new)

  abbrev pub Leaves : Result (Option Item) ScanFault → Scanning A → Type 0
  Leaves (Err e) new = Keeps new
  Leaves (Ok None) new = HasEnded new
  Leaves (Ok (Some found)) new = Answers found new

-- ---- dynamic rows

-- the file is as the scan knows it: what is kept of it stands there, and it is long enough
pub record IsCurrent {A : Type 0} (s : Scanning A) (m : Holding) : Type 0 where
  pub kept : KeptStands s m
  pub long : s.end ≤ length (bytes_of s.name m)

-- what is left, where the files hold this, by what each test accepts
abbrev pub items_left : {A : Type 0} → (A → List ℕ → Bool) → Scanning A → Holding → List readable.Item
items_left gives s m = rest s.extend (block_of (scanned s m)) (length (scanned s m)) (gives s.test) s.place s.used

-- ---- rows for which no memory is taken

-- A row in one block that a window can hold stands at the place, directly behind others of the kind that stand one after
-- the other from the file's start on.
pub record MeetsShort (accepts : List ℕ → Bool) (x : List ℕ) (p : ℕ) (used : List Range) : Type 0 where
  pub plain : used ≡ joined p
  pub block : Block
  pub whole : IsWholeRow (block_of x) accepts p block
  pub short : block.size ≤ WINDOW

-- such a row comes next, or the scan stands at its end
abbrev pub MeetsPlain : {A : Type 0} → (A → List ℕ → Bool) → Scanning A → Holding → Type 0
MeetsPlain gives s m = (s.end ≤ s.place) ⊎ MeetsShort (gives s.test) (scanned s m) s.place s.used

-- a place is behind the block that starts at another
abbrev pub IsBehind : Reading → ℕ → ℕ → Type 0
IsBehind read p next = (b : Block) → read p ≡ Some b → next ≡ p + b.size

-- once such a row is answered, the scan goes on behind its block, and all before is one used range again
abbrev pub GoesOnPlain : {A : Type 0} → (A → List ℕ → Bool) → Option Holding → Scanning A → Result (Option Item) ScanFault → Scanning A → Type 0
GoesOnPlain gives holds old (Err e) new = Unit {0}
GoesOnPlain gives holds old (Ok None) new = Unit {0}
GoesOnPlain gives holds old (Ok (Some found)) new = IfTold holds (λ m. MeetsPlain gives old m → IsBehind (block_of (scanned old m)) old.place new.place × (new.used ≡ joined new.place))

-- where the files tell what they hold, a call takes memory only if no such row comes next
abbrev pub MayLack : {A : Type 0} → (A → List ℕ → Bool) → Option Holding → Scanning A → Type 0
MayLack gives holds old = IfTold holds (λ m. MeetsPlain gives old m → ⊥)

-- what a call answers, by what each test accepts, and the scan after it
abbrev pub Finds : {A : Type 0} → (A → List ℕ → Bool) → Wanted → Option Holding → Scanning A → Result (Option Item) ScanFault → Type 0
Finds gives wanted holds old result = Says (Passes (gives old.test)) (MayLack gives holds old) wanted old result

abbrev pub After : {A : Type 0} → (A → List ℕ → Bool) → Wanted → Option Holding → Scanning A → Result (Option Item) ScanFault → Scanning A → Type 0
After gives wanted holds old result new = Leaves (items_left gives) IsCurrent wanted holds old result new × GoesOnPlain gives holds old result new

-- All before the scan's place is one used range, and from there up to its end the file is nothing but rows in one block
-- each that a window can hold, one after the other.
pub record ScansPlain {A : Type 0} (gives : A → List ℕ → Bool) (s : Scanning A) (m : Holding) : Type 0 where
  pub plain : s.used ≡ joined s.place
  pub blocks : List Block
  pub laid : AreLaid (block_of (scanned s m)) (gives s.test) (length (scanned s m)) s.place blocks
  pub short : AllByRecursion (λ b. b.size ≤ WINDOW) blocks

-- one block, or else these
abbrev pub one_or : List (ℕ × ℕ) → Option (ℕ × ℕ) → List (ℕ × ℕ)
one_or several None = several
one_or several (Some b) = b ∷ []
