-- The complete keys of a row in the unique keys of a table, and what a map finds by such a key.
use Rattle.std.specs.Prelude.{◌≡◌, ◌==◌, ◌&&◌, ◌++◌, ℕ, Bool, true, List, map, filter, None}
use Rattle.std.specs.Ordering.{is_eq}
use Rattle.std.specs.List.{AllByRecursion}
use Rattle.std.specs.Hash as fed
use Rattle.std.specs.Hash.{HashWrites}
use Rattle.indexmap.specs.IndexMap.{IndexMap, get}
use Rattle.myi_defs.specs.declared.types.Defs.{Defs}
use Rattle.myi_pack.specs.Packed.{Values}
use Rattle.myi_keys.specs.Limits.{is_complete}
use Rattle.myi_keys.specs.Order.{key_cmp}
use Rattle.myi_keys.specs.Codes.{key_code}
use Rattle.myi_data.specs.Keys.{IsKeyNumber, key_of}
use Rattle.myi_rowkeys.specs.TableKeys.{key_numbers, is_unique}
use Rattle.myi_state.specs.State.{StoredRow}
use Rattle.myi_tablestate.specs.Keyed.{holder}
use Rattle.myi_inserter.specs.declared.unique_key.UniqueKey.{UniqueKey}

-- the key of a row in the key of that number
abbrev pub key_in : Defs → Values → ℕ → UniqueKey
key_in d values k = record { number = k; key = key_of d k values }

-- the key of that number is unique, and that of the row is complete, so that it may not repeat
abbrev pub may_not_repeat : Defs → Values → ℕ → Bool
may_not_repeat d values k = is_unique d k && is_complete (key_of d k values)

-- the complete keys of a row in unique keys
abbrev pub unique_keys : Defs → Values → List UniqueKey
unique_keys d values = map (key_in d values) (filter (may_not_repeat d values) (key_numbers d))

-- ---- as keys of a map

abbrev pub is_same : UniqueKey → UniqueKey → Bool
is_same x y = (x.number == y.number) && is_eq (key_cmp x.key y.key)

abbrev pub hashed : UniqueKey → HashWrites
hashed x = fed.usize x.number ++ fed.slice fed.u8 (key_code x.key)

-- by each complete key in a unique key a map finds the position of the first of these rows that has it
abbrev pub Finds : {S : Type 0} → Defs → IndexMap UniqueKey ℕ S → List StoredRow → Type 0
Finds d found rows = (k : ℕ) (values : Values) → IsKeyNumber d k → is_unique d k ≡ true → is_complete (key_of d k values) ≡ true
    → get is_same found (key_in d values k) ≡ holder d values k rows

-- and none of these keys is found
abbrev pub FindsNone : {S : Type 0} → IndexMap UniqueKey ℕ S → List UniqueKey → Type 0
FindsNone found keys = AllByRecursion (λ q. get is_same found q ≡ None) keys
