-- The keys of a table by their numbers, which begin with 1, and the keys of its rows.
use Rattle.std.specs.Prelude.{ℕ, zero, suc, Bool, false, List, [], ◌∷◌, length, map, filter}
use Rattle.std.specs.Option.{option_map_or}
use Rattle.myi_defs.specs.declared.types.Defs.{Defs}
use Rattle.myi_keys.specs.declared.values.KeySeg.{KeySeg}
use Rattle.myi_keylist.specs.FirstBy.{KeyOf}
use Rattle.myi_pack.specs.Packed.{Values}
use Rattle.myi_data.specs.Keys.{key_at, key_of}
use Rattle.myi_data.specs.Stored.{SizedRow}

-- so many numbers from one on
abbrev pub numbers_from : ℕ → ℕ → List ℕ
numbers_from k zero = []
numbers_from k (suc n) = k ∷ numbers_from (suc k) n

-- the numbers of the keys
abbrev pub key_numbers : Defs → List ℕ
key_numbers d = numbers_from 1 (length d.keys)

abbrev pub is_unique : Defs → ℕ → Bool
is_unique d k = option_map_or (λ key. key.unique) (key_at d.keys k) false

-- the keys of a row, one for each key of the table
abbrev pub row_keys : Defs → Values → List (List KeySeg)
row_keys d row = map (λ k. key_of d k row) (key_numbers d)

-- what a row's key is for the key of that number
abbrev pub key_in : Defs → ℕ → KeyOf SizedRow
key_in d k row = key_of d k row.values

-- what a row's keys are for the unique keys of the table
abbrev pub unique_keys : Defs → List (KeyOf SizedRow)
unique_keys d = map (key_in d) (filter (is_unique d) (key_numbers d))
