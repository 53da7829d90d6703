-- Whether one of a row's pairs has the complete key of a pair in the tree of a unique key.
use Rattle.std.specs.Prelude.{◌≡◌, ◌&&◌, ◌+◌, ◌<◌, ℕ, Bool, true, false, List, [], length, slice_index_or}
use Rattle.std.specs.List.{list_any}
use Rattle.myi_defs.specs.declared.types.Defs.{Defs}
use Rattle.myi_keys.specs.declared.values.KeySeg.{KeySeg}
use Rattle.myi_keylist.specs.declared.pair.Pair.{Pair}
use Rattle.myi_keylist.specs.PairOrder.{pair_with}
use Rattle.myi_keylist.specs.Repeats.{is_same_key}
use Rattle.myi_pair.specs.FirstRows.{is_unique}
use Rattle.myi_keytrees.specs.Standing.{list_of}

-- the key of the pair with this number
abbrev pub key_at : List Pair → ℕ → List KeySeg
key_at pairs i = (slice_index_or pairs i (pair_with [] 0)).key

-- a pair of the list has the complete key, and the key with this number, from 0, is unique
abbrev pub is_held : Defs → ℕ → List KeySeg → List Pair → Bool
is_held d i key pairs = is_unique d (i + 1) && list_any (λ (q : Pair). is_same_key key q.key) pairs

-- that of a pair in the list of its key
abbrev pub is_held_at : Defs → List Pair → List (List Pair) → ℕ → Bool
is_held_at d pairs lists i = is_held d i (key_at pairs i) (list_of lists i)

-- one of the pairs, or none
abbrev pub AreHeld : Defs → List Pair → List (List Pair) → Bool → Type 0
AreHeld d pairs lists true = (i : ℕ) × (i < length pairs) × (is_held_at d pairs lists i ≡ true)
AreHeld d pairs lists false = (i : ℕ) → i < length pairs → is_held_at d pairs lists i ≡ false
