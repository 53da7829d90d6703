-- A list of pairs with the codes of all keys in one buffer. A mark says of each pair where its key's code stands; before the
-- code stand two bytes, its length, high byte first.
use Rattle.std.specs.Prelude.{◌≡◌, ◌==◌, ◌&&◌, ℕ, ◌+◌, ◌-◌, ◌*◌, ◌/◌, ◌%◌, Bool, false, not, if◌then◌else◌, List, [], ◌∷◌, ◌++◌, length, take, drop, map, slice_index, slice_index_or}
use Rattle.std.specs.Ordering.{nat_cmp, ordering_then}
use Rattle.std.specs.declared.cmp.Ordering.{Ordering}
use Rattle.myi_keys.specs.declared.values.KeySeg.{KeySeg}
use Rattle.myi_keys.specs.Limits.{IsKey, is_complete}
use Rattle.myi_keys.specs.Codes.{key_code}
use Rattle.myi_keys.specs.Comparing.{key_front, code_cmp, key_prefix}
use Rattle.myi_keylist.specs.declared.pair.Pair.{Pair}
use Rattle.myi_keylist.specs.declared.pair_list.Mark.{Mark}
use Rattle.myi_keylist.specs.PairOrder.{pair_with}
use Rattle.myi_keylist.specs.Repeats.{is_same_key}

-- a code behind its length
abbrev pub led : List ℕ → List ℕ
led code = length code / 256 ∷ length code % 256 ∷ code

-- the code that stands behind its length
abbrev pub led_code : List ℕ → List ℕ
led_code [] = []
led_code (h ∷ []) = []
led_code (h ∷ l ∷ bytes) = take (h * 256 + l) bytes

-- the code at a place of the buffer
abbrev pub code_from : List ℕ → ℕ → List ℕ
code_from codes start = led_code (drop start codes)

-- the pair of a mark
unfoldable pub pair_at : List ℕ → Mark → Pair
pair_at codes mark = pair_with (key_front (code_from codes mark.start)) mark.row

-- what a mark says: a key's code stands there, and the number that it is sorted by first is the key's
pub record IsMark (codes : List ℕ) (mark : Mark) : Type 0 where
  pub key : List KeySeg
  pub is : IsKey key
  pub rest : List ℕ
  pub stands : drop mark.start codes ≡ led (key_code key) ++ rest
  pub prefix : mark.prefix ≡ key_prefix key

-- the pairs of marks
abbrev pub pairs_at : List ℕ → List Mark → List Pair
pairs_at codes marks = map (pair_at codes) marks

-- the order of marks: by the number, and where that is the same by code and pointer
abbrev pub mark_cmp : List ℕ → Mark → Mark → Ordering
mark_cmp codes a b = ordering_then (nat_cmp a.prefix b.prefix) (ordering_then (code_cmp (code_from codes a.start) (code_from codes b.start)) (nat_cmp a.row b.row))

-- the mark of a row number with the pointer that stands at it
abbrev pub pointed_mark : List ℕ → Mark → Mark
pointed_mark pointers mark = record { prefix = mark.prefix; start = mark.start; row = slice_index pointers mark.row }

-- the mark's row, by its number, has a flag that is set
abbrev pub is_flagged : List Bool → Mark → Bool
is_flagged flags mark = slice_index_or flags mark.row false

-- the key and the row of a pair of a list
abbrev pub key_at : List Pair → ℕ → List KeySeg
key_at pairs i = (slice_index_or pairs i (pair_with [] 0)).key

abbrev pub row_at : List Pair → ℕ → ℕ
row_at pairs i = (slice_index_or pairs i (pair_with [] 0)).row

-- a pair and the one before it have one complete key
abbrev pub repeats_last : List Pair → ℕ → Bool
repeats_last pairs i = not (i == 0) && is_same_key (key_at pairs (i - 1)) (key_at pairs i)

-- the class number of a pair of a list in order, behind the last number that was given
abbrev pub next_number : List Pair → ℕ → ℕ → ℕ
next_number pairs i last = if repeats_last pairs i then last else (if is_complete (key_at pairs i) then last + 1 else 0)
