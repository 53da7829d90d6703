-- A walk along the list of deleted blocks in memory, by numbers that stand for their places.
use Rattle.std.specs.Prelude.{◌≡◌, ◌<◌, ◌-◌, ◌*◌, ◌^◌, ℕ, zero, suc, max, Bool, true, List, length, slice_index, Option, Some, None}
use Rattle.std.specs.List.{AllByRecursion}
use Rattle.myi_defs.specs.declared.types.Defs.{Defs}
use Rattle.myi_defs.specs.declared.types.RowFormat.{RowFormat}
use Rattle.myi_defs.specs.declared.types.RowFormat.TheVariants.{Static, Dynamic}
use Rattle.myi_pair.specs.Clean.{next_deleted}
use Rattle.myi_pair.specs.FirstBad.{list_bad}
use Rattle.myi_pair.specs.Findings.{names_before}
use Rattle.myi_placelist.specs.Places.{IsRising}
use Rattle.myi_check.specs.Rows.{ArePointed}

-- the unit in which the places of deleted blocks are told: the length of a slot, and 4 where blocks stand
abbrev pub unit_by : RowFormat → ℕ → ℕ
unit_by Static slot_length = max slot_length 1
unit_by Dynamic slot_length = 4

abbrev pub unit_in : Defs → ℕ
unit_in d = unit_by d.format d.slot_length

-- the place that a number stands for: 0 is none, and else it is one more than how many units the place is
abbrev pub place_of : ℕ → ℕ → Option ℕ
place_of unit zero = None
place_of unit (suc n) = Some (n * unit)

-- none of these numbers is a mark: those are the numbers of 32 bits from 2^31 on
abbrev pub AreBelowMarks : List ℕ → Type 0
AreBelowMarks numbers = AllByRecursion (λ n. n < 2 ^ 31) numbers

-- each place names as the next one what the number at its index stands for
abbrev pub HaveNext : ℕ → (ℕ → Option ℕ) → List ℕ → List ℕ → Type 0
HaveNext unit next places numbers = (k : ℕ) → k < length places → next (slice_index places k) ≡ place_of unit (slice_index numbers k)

-- the number in a mark: that of the place before
abbrev pub before_in : ℕ → ℕ
before_in mark = mark - 2 ^ 31

-- each place names as the one before it what the mark at its index says
abbrev pub HaveBefore : ℕ → (ℕ → Option ℕ → Bool) → List ℕ → List ℕ → Type 0
HaveBefore unit names places marks = (k : ℕ) → k < length places → names (slice_index places k) (place_of unit (before_in (slice_index marks k))) ≡ true

-- a walk by these numbers from a head met each of these places once, ended, and left these marks: a list with these links is good
abbrev pub MeetsEach : ℕ → List ℕ → List ℕ → List ℕ → ℕ → Type 0
MeetsEach unit places numbers marks head = (next : ℕ → Option ℕ) (names : ℕ → Option ℕ → Bool) → IsRising places → HaveNext unit next places numbers → HaveBefore unit names places marks
    → list_bad next names (length places) places None (place_of unit head) ≡ None

-- a fact of the bytes of a data file that has so many, where these are the places of its deleted blocks
abbrev pub OfRows : Defs → ℕ → List ℕ → (List ℕ → Type 0) → List ℕ → Type 0
OfRows d end places P rows = length rows ≡ end → IsRising places → ArePointed d end places → P rows

-- these numbers stand for the next places of the deleted blocks of a data file
abbrev pub AreNextIn : Defs → List ℕ → List ℕ → List ℕ → Type 0
AreNextIn d places numbers rows = HaveNext (unit_in d) (next_deleted d rows) places numbers

-- the deleted blocks of a data file name what these marks say, in the unit of blocks (a slot names none before it)
abbrev pub AreNamedIn : Defs → List ℕ → List ℕ → List ℕ → Type 0
AreNamedIn d places marks rows = HaveBefore 4 (names_before d rows) places marks

-- nothing is bad of the list of deleted blocks of a data file
abbrev pub IsGoodIn : Defs → List ℕ → Option ℕ → List ℕ → Type 0
IsGoodIn d places head rows = list_bad (next_deleted d rows) (names_before d rows) (length places) places None head ≡ None
