-- Codes compared as the keys that they stand for (this project's own). Bytes are read from the left, at most 16
-- segments, with no test of their form, so that all bytes stand for a key and comparing them is a total order. The law
-- that joins this to the codes of keys is the contract of `codes_stand_for_keys`.
use Rattle.std.specs.Prelude.{◌≡◌, ℕ, zero, suc, ◌+◌, ◌*◌, ◌^◌, List, [], ◌∷◌, length, take, drop, nat_lt, if◌then◌else◌, Option, Some, None}
use Rattle.std.specs.declared.cmp.Ordering.{Ordering}
use Rattle.myi_keys.specs.declared.values.KeySeg.{KeySeg}
use Rattle.myi_keys.specs.declared.values.KeySeg.TheVariants.{Absent, Weights}
use Rattle.myi_keys.specs.Limits.{IsKey}
use Rattle.myi_keys.specs.Codes.{key_code}
use Rattle.myi_keys.specs.Order.{key_cmp}

-- the two bytes of a number after 255, or 0 where they are cut off
abbrev pub wide_number_front : List ℕ → ℕ × List ℕ
wide_number_front [] = (0, [])
wide_number_front (h ∷ []) = (0, [])
wide_number_front (h ∷ l ∷ bs) = (h * 256 + l, bs)

-- the number that bytes begin with, and the bytes behind it
unfoldable pub number_front : List ℕ → ℕ × List ℕ
number_front [] = (0, [])
number_front (b ∷ bs) = if nat_lt b 255 then (b, bs) else wide_number_front bs

-- a segment by its number, which is one more than the number of its weights
abbrev pub seg_front_by : ℕ → List ℕ → KeySeg × List ℕ
seg_front_by zero bytes = (Absent, bytes)
seg_front_by (suc n) bytes = (Weights (take n bytes), drop n bytes)

-- the segment that bytes begin with, and the bytes behind it
unfoldable pub seg_front : List ℕ → KeySeg × List ℕ
seg_front bytes = seg_front_by (number_front bytes).0 (number_front bytes).1

-- the segments that bytes begin with, at most n
unfoldable pub segs_front : ℕ → List ℕ → List KeySeg
segs_front zero bytes = []
segs_front (suc n) [] = []
segs_front (suc n) (b ∷ bs) = (seg_front (b ∷ bs)).0 ∷ segs_front n (seg_front (b ∷ bs)).1

-- the key that bytes stand for
unfoldable pub key_front : List ℕ → List KeySeg
key_front bytes = segs_front 16 bytes

-- which of two codes is first: the one whose key is
abbrev pub code_cmp : List ℕ → List ℕ → Ordering
code_cmp one other = key_cmp (key_front one) (key_front other)

-- a segment by its weights, where it has any
abbrev pub seg_with : Option (List ℕ) → KeySeg
seg_with None = Absent
seg_with (Some w) = Weights w

-- the first n weights as a number high byte first, with zeros for those that are not there
abbrev pub weights_number : ℕ → List ℕ → ℕ
weights_number zero w = 0
weights_number (suc n) [] = 0
weights_number (suc n) (b ∷ w) = b * 256 ^ n + weights_number n w

-- the first eight weights of a segment as a number, and 0 where it is absent
abbrev pub seg_prefix : KeySeg → ℕ
seg_prefix Absent = 0
seg_prefix (Weights w) = weights_number 8 w

-- a number that stands in the order of keys: that of the first segment, and 0 for a key of none
unfoldable pub key_prefix : List KeySeg → ℕ
key_prefix [] = 0
key_prefix (seg ∷ segs) = seg_prefix seg

-- bytes are the code of the key that they stand for
pub record IsCode (code : List ℕ) : Type 0 where
  pub key : IsKey (key_front code)
  pub written : code ≡ key_code (key_front code)

-- two keys have segments of the same lengths, and none is absent
abbrev pub AreAlike : List KeySeg → List KeySeg → Type 0
AreAlike [] [] = Unit {0}
AreAlike (Weights v ∷ one) (Weights w ∷ other) = (length v ≡ length w) × AreAlike one other
AreAlike _ _ = ⊥
