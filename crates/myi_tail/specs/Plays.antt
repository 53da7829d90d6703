-- What each step tells the seat that makes it. A seat is `(view, slots)`; a tail's table has no slots.
use Rattle.std.specs.Prelude.{◌≡◌, ℕ, ◌<◌, ◌≤◌, List, [], ◌∷◌, ◌++◌, length, All}
use Rattle.atomic_table.specs.Table.{Me, Step}
use Rattle.myi_tail.specs.declared.table.View.{View}
use Rattle.myi_tail.specs.declared.table.View.TheVariants.{Appends, Reads, Spent}
use Rattle.myi_tail.specs.Rule.{IsKnown}

abbrev pub Seated : Type 0
Seated = Me ℕ View

-- the appender's view of a table of this size with no words
abbrev pub opening : ℕ → View
opening size = Appends size [] 0 []

-- a new reader's view
abbrev pub new_reader : View → View
new_reader (Appends size words published joined) = Reads size 0 []
new_reader v = Spent

-- the appender's view with what a reader knew
abbrev pub with_joined : View → View → View
with_joined (Appends size words published joined) (Reads n seen known) = Appends size words published (joined ++ known ∷ [])
with_joined v w = v

abbrev pub with_word : View → ℕ → View
with_word (Appends size words published joined) word = Appends size (words ++ word ∷ []) published joined
with_word v word = v

abbrev pub with_all_published : View → View
with_all_published (Appends size words published joined) = Appends size words (length words) joined
with_all_published v = v

abbrev pub with_count : View → ℕ → View
with_count (Reads size seen known) count = Reads size count known
with_count v count = v

abbrev pub with_known : View → ℕ → View
with_known (Reads size seen known) word = Reads size seen (known ++ word ∷ [])
with_known v word = v

-- the count is at least the one seen before, and a count of words that fit
abbrev pub IsLater : View → ℕ → Type 0
IsLater (Reads size seen known) count = (seen ≤ count) × (count < size)
IsLater v count = Unit {0}

-- what joined readers knew are the first of the published words
abbrev pub AllKnown : View → Type 0
AllKnown (Appends size words published joined) = All (IsKnown published words) joined
AllKnown v = Unit {0}

abbrev pub joined_of : View → List (List ℕ)
joined_of (Appends size words published joined) = joined
joined_of v = []

abbrev pub WordStored : Step ℕ → Seated → ℕ → Seated → Type 0
WordStored step before word after = after ≡ (with_word before.0 word, before.1)

abbrev pub CountStored : Step ℕ → Seated → ℕ → Seated → Type 0
CountStored step before count after = after ≡ (with_all_published before.0, before.1)

abbrev pub CountLoaded : Step ℕ → Seated → ℕ → Seated → Type 0
CountLoaded step before count after = (after ≡ (with_count before.0 count, before.1)) × IsLater before.0 count

abbrev pub WordLoaded : Step ℕ → Seated → ℕ → Seated → Type 0
WordLoaded step before word after = after ≡ (with_known before.0 word, before.1)

-- the appender looks at the count, which changes nothing
abbrev pub CountLookedAt : Step ℕ → Seated → ℕ → Seated → Type 0
CountLookedAt step before count after = (after ≡ before) × AllKnown before.0
