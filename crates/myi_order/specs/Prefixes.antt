-- How many rows of a table go to one prefix of a key, on average: what the optimizer of a server reads as the records per key
-- (MySQL Internals Manual, "The .MYI file"; that a prefix with an absent segment is one of its own is this project's own).
use Rattle.std.specs.Prelude.{ℕ, ◌+◌, ◌/◌, min, Bool, false, if◌then◌else◌, List, [], ◌∷◌, length, take, map}
use Rattle.std.specs.List.{list_any, range_with_len}
use Rattle.myi_keys.specs.declared.values.KeySeg.{KeySeg}
use Rattle.myi_keylist.specs.Repeats.{is_same_key}

-- both keys have the same first j segments, and none of these is absent
abbrev pub shares_prefix : ℕ → List KeySeg → List KeySeg → Bool
shares_prefix j key other = is_same_key (take j key) (take j other)

-- How many distinct prefixes of j segments these keys have: of the keys that share one the last counts. A prefix with an
-- absent segment is shared by no other key.
unfoldable pub distinct_prefixes : ℕ → List (List KeySeg) → ℕ
distinct_prefixes j [] = 0
distinct_prefixes j (key ∷ keys) = (if list_any (shares_prefix j key) keys then 0 else 1) + distinct_prefixes j keys

-- what the four bytes of a key part hold at most
abbrev pub most_per : ℕ
most_per = 4294967295

-- the number of rows with these keys for each of their distinct prefixes of j segments, rounded down
unfoldable pub per : ℕ → List (List KeySeg) → ℕ
per j [] = 0
per j (key ∷ keys) = min most_per (length (key ∷ keys) / distinct_prefixes j (key ∷ keys))

-- the same for prefixes of one segment, of two, and so on, up to so many
abbrev pub per_each : ℕ → List (List KeySeg) → List ℕ
per_each segments keys = map (λ j. per j keys) (range_with_len 1 segments)

-- ---- of keys in order

-- the key shares its prefix of j segments with the first of those behind it
abbrev pub goes_on : ℕ → List KeySeg → List (List KeySeg) → Bool
goes_on j key [] = false
goes_on j key (next ∷ keys) = shares_prefix j key next

-- at how many keys of a list a prefix of j segments ends: the next key has another one
unfoldable pub prefix_ends : ℕ → List (List KeySeg) → ℕ
prefix_ends j [] = 0
prefix_ends j (key ∷ keys) = (if goes_on j key keys then 0 else 1) + prefix_ends j keys
