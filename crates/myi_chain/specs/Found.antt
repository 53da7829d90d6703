-- What a scan finds at a place: a row, whose bytes are kept in the window or were joined, or a deleted block.
use Rattle.std.specs.Prelude.{◌≡◌, ◌+◌, ◌<◌, ◌≤◌, ◌^◌, ℕ, Bool, true, false, List, [], ◌∷◌, length, Option, Some, None, option_to_list}
use Rattle.myi_base.specs.Holding.{Holding}
use Rattle.myi_base.specs.Ranges.{Range}
use Rattle.myi_frames.specs.declared.head.Header.{Header}
use Rattle.myi_frames.specs.Block.{Block, head_of, block_of}
use Rattle.myi_window.specs.Excerpt.{Excerpt}
use Rattle.myi_chain.specs.declared.piece.Wanted.{Wanted}
use Rattle.myi_chain.specs.declared.piece.Wanted.TheVariants.{Items, Rows}
use Rattle.myi_chain.specs.declared.step.FoundRow.{FoundRow}
use Rattle.myi_chain.specs.declared.step.FoundRow.TheVariants.{Kept, Joined}
use Rattle.myi_chain.specs.declared.step.Found.{Found}
use Rattle.myi_chain.specs.declared.step.Found.TheVariants as found
use Rattle.myi_chain.specs.declared.step.Position.{Position}
use Rattle.myi_chain.specs.declared.step.RowBuffer.{RowBuffer}
use Rattle.myi_chain.specs.Chain.{Reading, row_bytes}
use Rattle.myi_chain.specs.Readable.{Row, Item, row, free, rest, skip_by, free_by}
use Rattle.myi_chain.specs.Pieces.{is_lent}
use Rattle.myi_chain.specs.Used.{joined}
use Rattle.myi_chain.specs.ScanModel.{MeetsShort, IsBehind, EndsInside, AreBlocksAt, ArePassed, PassesTo}
use Rattle.myi_chain.specs.Chain.{placed, ranges_at}
use Rattle.myi_chain.specs.Source.{SourceModel, read_bytes, read_blocks, IsKept, kept_bytes}

-- what is met from a place on in a file of these bytes, where these ranges are used
abbrev pub met_from : Bool → (List ℕ → Bool) → List ℕ → ℕ → List Range → List Item
met_from extend accepts x p used = rest extend (block_of x) (length x) accepts p used

-- the place of a row that was found
abbrev pub found_at : FoundRow → ℕ
found_at (Kept h) = h.head.at
found_at (Joined p) = p

-- the place of what was found
abbrev pub place_of : Found → ℕ
place_of (found.Row r) = found_at r
place_of (found.Free at size) = at

-- its bytes: kept in the window, or those that were joined
abbrev pub found_bytes : Excerpt → List ℕ → FoundRow → List ℕ
found_bytes e bytes (Kept h) = kept_bytes h e
found_bytes e bytes (Joined p) = bytes

-- its blocks, each by its place and size: one, or those of the chain that was followed
abbrev pub found_blocks : List (ℕ × ℕ) → FoundRow → List (ℕ × ℕ)
found_blocks taken (Kept h) = (h.head.at, h.head.size) ∷ []
found_blocks taken (Joined p) = taken

abbrev pub found_row : Excerpt → List (ℕ × ℕ) → List ℕ → FoundRow → Row
found_row e taken bytes r = record { at = found_at r; bytes = found_bytes e bytes r; blocks = ranges_at (found_blocks taken r) }

abbrev pub found_item : Excerpt → List (ℕ × ℕ) → List ℕ → Found → Item
found_item e taken bytes (found.Row r) = row (found_row e taken bytes r)
found_item e taken bytes (found.Free at size) = free (at, at + size)

abbrev pub found_items : Excerpt → List (ℕ × ℕ) → List ℕ → Option Found → List Item
found_items e taken bytes None = []
found_items e taken bytes (Some f) = found_item e taken bytes f ∷ []

-- a row whose bytes were joined does not stand in one block that a window can hold
abbrev pub IsJoined : List (ℕ × ℕ) → FoundRow → Type 0
IsJoined taken (Kept h) = Unit {0}
IsJoined taken (Joined p) = is_lent (ranges_at taken) ≡ false

abbrev pub IsKeptRow : FoundRow → Excerpt → Type 0
IsKeptRow (Kept h) e = IsKept h e
IsKeptRow (Joined p) e = Unit {0}

-- A row that was found passes the test, and four bytes can count its bytes. One in one block is kept in the window.
pub record IsHeld (accepts : List ℕ → Bool) (e : Excerpt) (taken : List (ℕ × ℕ)) (bytes : List ℕ) (r : FoundRow) : Type 0 where
  pub packs : accepts (found_bytes e bytes r) ≡ true
  pub counted : length (found_bytes e bytes r) < 2 ^ 32
  pub joined : IsJoined taken r
  pub kept : IsKeptRow r e

abbrev pub IsHeldItem : (List ℕ → Bool) → Excerpt → List (ℕ × ℕ) → List ℕ → Found → Type 0
IsHeldItem accepts e taken bytes (found.Row r) = IsHeld accepts e taken bytes r
IsHeldItem accepts e taken bytes (found.Free at size) = Unit {0}

-- where what was found lies in the file, whatever that tells
abbrev pub LiesRow : SourceModel → RowBuffer → FoundRow → Type 0
LiesRow s r f = AreBlocksAt (found_at f) s.end (found_blocks r.chain.taken f)

abbrev pub LiesItem : SourceModel → RowBuffer → Found → Type 0
LiesItem s r (found.Row f) = LiesRow s r f
LiesItem s r (found.Free at size) = EndsInside s.end (at, size)

-- how far it is over a block at which no row starts, and the deleted block that is passed
abbrev pub IsPassed : Bool → Header → ℕ → Option Found → Type 0
IsPassed extend h skip found = (b : Block) → head_of b ≡ h.head → (skip ≡ skip_by extend (Some b))
    × ((e : Excerpt) (taken : List (ℕ × ℕ)) (bytes : List ℕ) → found_items e taken bytes found ≡ option_to_list (free_by extend (Some b)))

-- it is a deleted block
abbrev pub IsFree : Found → Type 0
IsFree (found.Row r) = ⊥
IsFree (found.Free at size) = Unit {0}

-- it is the block with a header
abbrev pub IsBlockOf : Header → Found → Type 0
IsBlockOf h (found.Row r) = ⊥
IsBlockOf h (found.Free at size) = (at ≡ h.head.at) × (size ≡ h.head.size)

-- no row starts where this chain or none does
abbrev pub NoRowAt : (List ℕ → Bool) → Option (List Block) → Type 0
NoRowAt accepts None = Unit {0}
NoRowAt accepts (Some bs) = accepts (row_bytes bs) ≡ false

abbrev pub FindsRow : (List ℕ → Bool) → Excerpt → List (ℕ × ℕ) → List ℕ → Option (List Block) → Option FoundRow → Type 0
FindsRow accepts e taken bytes o None = NoRowAt accepts o
FindsRow accepts e taken bytes o (Some r) = (bs : List Block) × (o ≡ Some bs) × (placed bs ≡ found_blocks taken r) × (row_bytes bs ≡ found_bytes e bytes r)

-- from a place the scan went on behind the block there, and all before is one used range
abbrev pub WentPlain : Reading → ℕ → ℕ → List Range → Type 0
WentPlain read from to used = IsBehind read from to × (used ≡ joined to)

-- the row in the block at a place was found
abbrev pub FindsShort : Reading → ℕ → Option Found → ℕ → List Range → Type 0
FindsShort read from None to used = ⊥
FindsShort read from (Some (found.Row r)) to used = WentPlain read from to used
FindsShort read from (Some (found.Free at size)) to used = ⊥

-- ---- with where a scan stands, its file and its row buffer

-- what is met from where a scan stands, where the files hold this
abbrev pub met_at : Bool → (List ℕ → Bool) → SourceModel → Position → Holding → List Item
met_at extend accepts s p m = met_from extend accepts (read_bytes s m) p.place p.used

abbrev pub item_at : SourceModel → RowBuffer → Found → Item
item_at s r f = found_item s.kept r.chain.taken r.joined.items f

abbrev pub items_at : SourceModel → RowBuffer → Option Found → List Item
items_at s r f = found_items s.kept r.chain.taken r.joined.items f

abbrev pub row_held : SourceModel → RowBuffer → FoundRow → Row
row_held s r f = found_row s.kept r.chain.taken r.joined.items f

abbrev pub HoldsRow : (List ℕ → Bool) → SourceModel → RowBuffer → FoundRow → Type 0
HoldsRow accepts s r f = IsHeld accepts s.kept r.chain.taken r.joined.items f

abbrev pub HoldsItem : (List ℕ → Bool) → SourceModel → RowBuffer → Found → Type 0
HoldsItem accepts s r f = IsHeldItem accepts s.kept r.chain.taken r.joined.items f

abbrev pub MeetsShortAt : (List ℕ → Bool) → SourceModel → Position → Holding → Type 0
MeetsShortAt accepts s p m = MeetsShort accepts (read_bytes s m) p.place p.used

abbrev pub FindsShortAt : SourceModel → Holding → Position → Option Found → Position → Type 0
FindsShortAt s m p f q = FindsShort (read_blocks s m) p.place f q.place q.used

-- what was found, where it is wanted
abbrev pub picked : Wanted → Option Found → Option Found
picked wanted None = None
picked wanted (Some (found.Row r)) = Some (found.Row r)
picked Items (Some (found.Free at size)) = Some (found.Free at size)
picked Rows (Some (found.Free at size)) = None

-- it is wanted
abbrev pub IsMeant : Wanted → Found → Type 0
IsMeant wanted f = picked wanted (Some f) ≡ Some f

-- this is the first item that is wanted of those that were to come, and those behind it are to come
abbrev pub FindsItem : SourceModel → RowBuffer → Wanted → List Item → List Item → Option Found → Type 0
FindsItem s r wanted old new None = ArePassed wanted old × (new ≡ [])
FindsItem s r wanted old new (Some f) = PassesTo wanted old (item_at s r f ∷ new)

-- the used ranges are those of before, where no row was found
abbrev pub KeepsUsed : List Range → List Range → Option Found → Type 0
KeepsUsed old new None = new ≡ old
KeepsUsed old new (Some (found.Free at size)) = new ≡ old
KeepsUsed old new (Some (found.Row r)) = Unit {0}

-- what was found stands between two places
abbrev pub IsBetween : ℕ → ℕ → Found → Type 0
IsBetween from to f = (from ≤ place_of f) × (place_of f < to)

-- where a call ends that goes from a place up to an end: behind what was found, and else at the end
abbrev pub Rises : ℕ → ℕ → ℕ → Option Found → Type 0
Rises from to end None = (from ≤ to) × (to ≡ end)
Rises from to end (Some f) = IsBetween from to f × (to ≤ end)
