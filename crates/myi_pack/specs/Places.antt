-- Where the fields of a dynamic row begin in its bytes (this project's own).
use Rattle.std.specs.Prelude.{◌≡◌, ◌≤◌, ℕ, zero, suc, List, [], ◌∷◌, length, drop, get_or}
use Rattle.myi_defs.specs.declared.types.RowFormat.{RowFormat}
use Rattle.myi_defs.specs.declared.types.RowFormat.TheVariants.{Dynamic}
use Rattle.myi_defs.specs.declared.types.Field.{Field}
use Rattle.myi_pack.specs.declared.places.FieldPlace.{FieldPlace}
use Rattle.myi_pack.specs.Left.{values_left, IsLeft, IsPlaced}

-- the place of the first field
abbrev pub first_place : FieldPlace
first_place = record { begin = 0; flag = 0 }

-- the place of field i, from 0, where those behind the first one are told
abbrev pub place_of : List FieldPlace → ℕ → FieldPlace
place_of behind zero = first_place
place_of behind (suc i) = get_or behind i first_place

-- field i and those after it are read from this place on
pub record IsBegun (fs : List Field) (flags b : List ℕ) (i : ℕ) (place : FieldPlace) : Type 0 where
  pub inside : place.begin ≤ length b
  pub left : IsLeft Dynamic (drop i fs) place.flag flags (drop place.begin b)
  pub values : values_left Dynamic (drop i fs) place.flag flags (drop place.begin b) ≡ drop i (values_left Dynamic fs 0 flags b)

-- these are the places of field i and of those after it, as far as they go
abbrev pub AreBegun : List Field → List ℕ → List ℕ → ℕ → List FieldPlace → Type 0
AreBegun fs flags b i [] = Unit {0}
AreBegun fs flags b i (place ∷ places) = IsBegun fs flags b i place × AreBegun fs flags b (suc i) places

-- the bytes have these fields, and in a dynamic row these are the places of those behind the first one
pub record IsNumbered (format : RowFormat) (fs : List Field) (flags b : List ℕ) (behind : List FieldPlace) : Type 0 where
  pub placed : IsPlaced format fs flags b
  pub begun : format ≡ Dynamic → AreBegun fs flags b 1 behind
