-- The code of a key (this project's own).
use Rattle.std.specs.Prelude.{◌≡◌, ℕ, ◌+◌, ◌/◌, ◌%◌, List, [], ◌∷◌, ◌++◌, length, nat_lt, if◌then◌else◌}
use Rattle.std.specs.List.{flat_map}
use Rattle.myi_base.specs.Numbers.{AreBytes}
use Rattle.myi_keys.specs.declared.values.KeySeg.{KeySeg}
use Rattle.myi_keys.specs.declared.values.KeySeg.TheVariants.{Absent, Weights}

-- a number below 255 is one byte; another is 255 and two bytes, high byte first
abbrev pub number_code : ℕ → List ℕ
number_code n = if nat_lt n 255 then n ∷ [] else 255 ∷ n / 256 ∷ n % 256 ∷ []

-- 0 for an absent segment, else one more than the number of weights, and the weights
abbrev pub seg_code : KeySeg → List ℕ
seg_code Absent = 0 ∷ []
seg_code (Weights w) = number_code (length w + 1) ++ w

-- the codes of the segments one after the other
abbrev pub key_code : List KeySeg → List ℕ
key_code segs = flat_map seg_code segs

-- the code of a segment is written behind the bytes that were there
abbrev pub Gains : List ℕ → List ℕ → KeySeg → Type 0
Gains old new seg = new ≡ old ++ seg_code seg

-- the weights of a segment are bytes
abbrev pub HasBytes : KeySeg → Type 0
HasBytes Absent = Unit {0}
HasBytes (Weights w) = AreBytes w
