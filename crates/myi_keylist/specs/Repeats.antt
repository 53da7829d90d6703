-- Keys that repeat. In a unique key no two rows have one complete key (MySQL Reference Manual, "CREATE TABLE": the values of a
-- UNIQUE index are distinct, but NULL may stand several times).
use Rattle.std.specs.Prelude.{◌≡◌, ◌&&◌, ◌||◌, Bool, false, List, [], ◌∷◌, ◌++◌, map}
use Rattle.std.specs.List.{list_any}
use Rattle.std.specs.Ordering.{is_eq}
use Rattle.myi_keys.specs.declared.values.KeySeg.{KeySeg}
use Rattle.myi_keys.specs.Limits.{is_complete}
use Rattle.myi_keys.specs.Order.{key_cmp}
use Rattle.myi_keylist.specs.declared.pair.Pair.{Pair}

-- both keys are complete and equal
abbrev pub is_same_key : List KeySeg → List KeySeg → Bool
is_same_key key other = is_complete key && is_eq (key_cmp key other)

-- two pairs, one behind the other, have one complete key
abbrev pub has_repeat : List Pair → Bool
has_repeat [] = false
has_repeat (p ∷ []) = false
has_repeat (p ∷ q ∷ ps) = is_same_key p.key q.key || has_repeat (q ∷ ps)

-- no key of the list is complete and one of those before it, or before the list
abbrev pub AreApart : List (List KeySeg) → List (List KeySeg) → Type 0
AreApart before [] = Unit {0}
AreApart before (key ∷ keys) = (list_any (is_same_key key) before ≡ false) × AreApart (before ++ key ∷ []) keys

abbrev pub keys_of : List Pair → List (List KeySeg)
keys_of pairs = map (λ (p : Pair). p.key) pairs
