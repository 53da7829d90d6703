-- What is told of each section is the first thing there that is not as it should be, in the words of the field and not by how
-- it is looked for (what comes before what is this project's own).
use Rattle.std.specs.Prelude.{◌≡◌, ◌≢◌, ◌⊎◌, ◌-◌, ◌<◌, ◌≤◌, ℕ, Bool, true, false, List, [], ◌∷◌, ◌++◌, length, map, Option, Some, None, IsPermutation}
use Rattle.std.specs.List.{AllByRecursion, Contains, list_any}
use Rattle.myi_base.specs.Ranges.{Range}
use Rattle.myi_defs.specs.declared.types.Defs.{Defs}
use Rattle.myi_defs.specs.Addressable.{is_addressable}
use Rattle.myi_header.specs.Layout.{first_page_of}
use Rattle.myi_header.specs.StateOf.{state_of, has_mark}
use Rattle.myi_chain.specs.Meeting.{ranges_of}
use Rattle.myi_data.specs.Readable.{readable, deleted}
use Rattle.myi_keylist.specs.declared.pair.Pair.{Pair}
use Rattle.myi_keylist.specs.Repeats.{is_same_key, AreApart, keys_of}
use Rattle.myi_btree.specs.Walk.{Walked, content}
use Rattle.myi_btree.specs.Events.{Event, page, pair, bad, first_bad, walked_in}
use Rattle.myi_pair.specs.declared.finding.HeaderItem.{HeaderItem}
use Rattle.myi_pair.specs.declared.finding.HeaderItem.TheVariants.{Mark, Records, Del, Split, KeyFileLength, DataFileLength, Empty, KeyEmpty}
use Rattle.myi_pair.specs.declared.finding.Finding.{Finding}
use Rattle.myi_pair.specs.declared.finding.Finding.TheVariants as finding
use Rattle.myi_pair.specs.FirstRows.{key_numbers, is_unique}
use Rattle.myi_pair.specs.KeyList.{PlacedRow, key_list}
use Rattle.myi_pair.specs.Trees.{HasWalkApart, HaveWalks, all_pages, total}
use Rattle.myi_pair.specs.Clean.{placed_row, covers, next_deleted, NamesBefore, ListsDeleted}
use Rattle.myi_pair.specs.Findings.{KeyWalk, all_walks, deleted_places, told}

-- it fails, and nothing before it does; or it is none, and nothing fails
abbrev pub IsFirst : {A : Type 0} → (A → A → Type 0) → (A → Type 0) → Option A → Type 0
IsFirst {A} Before Fails None = (a : A) → Fails a → ⊥
IsFirst {A} Before Fails (Some a) = Fails a × ((b : A) → Before b a → Fails b → ⊥)

-- ---- the header

-- the item is not what the files show; how many bytes belong to no page is asked only where each tree has a walk
abbrev pub Differs : Defs → List ℕ → List ℕ → HeaderItem → Type 0
Differs d rows x Mark = has_mark d x ≡ false
Differs d rows x Records = (state_of d x).records ≢ length (readable d false rows)
Differs d rows x Del = (state_of d x).del ≢ length (deleted d rows)
Differs d rows x Split = (state_of d x).split ≢ length (ranges_of (readable d false rows))
Differs d rows x KeyFileLength = (state_of d x).key_file_length ≢ length x
Differs d rows x DataFileLength = (state_of d x).data_file_length ≢ length rows
Differs d rows x Empty = (state_of d x).empty ≢ total (deleted d rows)
Differs d rows x KeyEmpty =
    (walks : List Walked) × HaveWalks d x ((0, first_page_of d) ∷ []) (key_numbers d) (state_of d x).roots walks
    × ((state_of d x).key_empty ≢ length x - first_page_of d - total (all_pages d (key_numbers d) walks))

-- how many items come before one in the order of the format
abbrev pub items_before : HeaderItem → ℕ
items_before Mark = 0
items_before Records = 1
items_before Del = 2
items_before Split = 3
items_before KeyFileLength = 4
items_before DataFileLength = 5
items_before Empty = 6
items_before KeyEmpty = 7

abbrev pub ComesBefore : HeaderItem → HeaderItem → Type 0
ComesBefore item other = items_before item < items_before other

-- ---- the list of deleted blocks

-- From `at` on, behind `before`, the list has these places one after the other, and each names the one before it. Behind the
-- last of them, `last`, it goes on at `next`.
abbrev pub Passes : Defs → List ℕ → Option ℕ → Option ℕ → List ℕ → Option ℕ → Option ℕ → Type 0
Passes d rows before at [] last next = (before ≡ last) × (at ≡ next)
Passes d rows before at (p ∷ ps) last next = (at ≡ Some p) × NamesBefore d rows p before × Passes d rows (Some p) (next_deleted d rows p) ps last next

-- So far the list is as it should be: it has deleted blocks, each once, and these are left.
pub record IsListSoFar (d : Defs) (rows : List ℕ) (head : Option ℕ) (met left : List ℕ) (last next : Option ℕ) : Type 0 where
  pub passes : Passes d rows None head met last next
  pub parts : IsPermutation (deleted_places d rows) (met ++ left)

-- a place that comes next is no deleted block, was met before, or does not name the one before it
abbrev pub IsBadPlace : Defs → List ℕ → List ℕ → Option ℕ → ℕ → Type 0
IsBadPlace d rows met last p = (Contains (deleted_places d rows) p → ⊥) ⊎ (Contains met p ⊎ (NamesBefore d rows p last → ⊥))

-- the first bad place of the list
pub record IsBadInList (d : Defs) (rows : List ℕ) (head : Option ℕ) (p : ℕ) : Type 0 where
  pub met : List ℕ
  pub left : List ℕ
  pub last : Option ℕ
  pub so_far : IsListSoFar d rows head met left last (Some p)
  pub bad : IsBadPlace d rows met last p

-- the lowest deleted block that the list leaves out, which has no bad place
pub record IsLeftOut (d : Defs) (rows : List ℕ) (head : Option ℕ) (p : ℕ) : Type 0 where
  pub met : List ℕ
  pub left : List ℕ
  pub last : Option ℕ
  pub so_far : IsListSoFar d rows head met left last None
  pub among : Contains left p
  pub lowest : AllByRecursion (λ q. p ≤ q) left

abbrev pub IsFirstInList : Defs → List ℕ → Option ℕ → Option ℕ → Type 0
IsFirstInList d rows head None = ListsDeleted d rows head
IsFirstInList d rows head (Some p) = IsBadInList d rows head p ⊎ IsLeftOut d rows head p

-- ---- the trees

-- So far what a walk met is as it should be: no bad place; the first pairs of the key list, of which these are left; in a
-- unique key no complete key twice.
pub record IsMetSoFar (unique : Bool) (list : List Pair) (met : List Event) (left : List Pair) : Type 0 where
  pub none : first_bad met ≡ None
  pub pairs : list ≡ content (walked_in met) ++ left
  pub apart : unique ≡ true → AreApart [] (keys_of (content (walked_in met)))

-- a pair has, in a unique key, the complete key of one of these
abbrev pub IsSecond : Bool → List Pair → Pair → Type 0
IsSecond unique pairs p = (unique ≡ true) × (list_any (λ key. is_same_key key p.key) (keys_of pairs) ≡ true)

-- what is met next is bad: a bad place, or a pair that is not the next one or the second one of a complete unique key
abbrev pub IsBadNext : Bool → List Event → List Pair → Event → Type 0
IsBadNext unique met left (page at) = ⊥
IsBadNext unique met left (bad at) = Unit {0}
IsBadNext unique met left (pair p at) = ((others : List Pair) → left ≢ p ∷ others) ⊎ IsSecond unique (content (walked_in met)) p

-- the page of what is met
abbrev pub page_of_event : Event → ℕ
page_of_event (page at) = at
page_of_event (pair p at) = at
page_of_event (bad at) = at

-- the page of the first bad thing that is met
pub record IsBadMet (unique : Bool) (list : List Pair) (events : List Event) (at : ℕ) : Type 0 where
  pub met : List Event
  pub event : Event
  pub more : List Event
  pub left : List Pair
  pub is : events ≡ met ++ event ∷ more
  pub so_far : IsMetSoFar unique list met left
  pub bad : IsBadNext unique met left event
  pub place : at ≡ page_of_event event

-- place 0, where all is as it should be and pairs are left that were not met
pub record LeavesPairs (unique : Bool) (list : List Pair) (events : List Event) (at : ℕ) : Type 0 where
  pub left : List Pair
  pub so_far : IsMetSoFar unique list events left
  pub some : 0 < length left
  pub place : at ≡ 0

abbrev pub IsFirstMet : Bool → List Pair → List Event → Option ℕ → Type 0
IsFirstMet unique list events None = IsMetSoFar unique list events []
IsFirstMet unique list events (Some at) = IsBadMet unique list events at ⊎ LeavesPairs unique list events at

-- the tree of a key has a walk apart from busy ranges, whose pairs are the key list, and no two rows have one complete key
-- in a unique key
pub record IsWholeTree (d : Defs) (k : ℕ) (x : List ℕ) (rows : List PlacedRow) (root : Option ℕ) (busy : List Range) : Type 0 where
  pub walk : Walked
  pub apart : HasWalkApart d k x root busy walk
  pub list : content walk ≡ key_list d k rows
  pub distinct : is_unique d k ≡ true → AreApart [] (keys_of (key_list d k rows))

-- ---- the bytes of the data file

-- no block of a row and no deleted block has the byte; where the file is longer than row pointers reach, none has one
abbrev pub BelongsToNothing : Defs → List ℕ → ℕ → Type 0
BelongsToNothing d rows p = (p < length rows) × (is_addressable d (length rows) ≡ true → list_any (covers p) (ranges_of (readable d false rows) ++ deleted d rows) ≡ false)

-- ---- what is told

-- a finding is told of the first thing of its section that is not as it should be; of keys only where the file has the
-- mark
abbrev pub IsToldOf : Defs → List ℕ → List ℕ → Finding → Type 0
IsToldOf d rows x (finding.Header item) = IsFirst ComesBefore (Differs d rows x) (Some item)
IsToldOf d rows x (finding.Deleted at) = (p : ℕ) × IsFirstInList d rows (state_of d x).dellink (Some p) × (at ≡ told p)
IsToldOf d rows x (finding.Key k at) =
    (has_mark d x ≡ true) × (w : KeyWalk) × Contains (all_walks d x) w × (k ≡ w.key)
    × IsFirstMet (is_unique d w.key) (key_list d w.key (map (placed_row d) (readable d false rows))) w.events (Some at)
IsToldOf d rows x (finding.Rows at) = IsFirst (λ p q. p < q) (BelongsToNothing d rows) (Some at)
