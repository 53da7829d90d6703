-- The first bad place of bytes that are no key's code, in the words of the codes.
use Rattle.std.specs.Prelude.{◌≡◌, ◌⊎◌, ◌<◌, ◌≤◌, ◌+◌, ◌*◌, ℕ, List, [], ◌∷◌, ◌++◌, length}
use Rattle.myi_keys.specs.declared.values.KeySeg.{KeySeg}
use Rattle.myi_keys.specs.declared.codes.KeyFault.{KeyFault}
use Rattle.myi_keys.specs.declared.codes.KeyFault.TheVariants.{Short, Spelling, TooLong, Memory}
use Rattle.myi_keys.specs.Limits.{IsKey}
use Rattle.myi_keys.specs.Codes.{number_code, key_code}

-- the bytes end inside a number
abbrev pub EndsInNumber : List ℕ → Type 0
EndsInNumber rest = (rest ≡ 255 ∷ []) ⊎ ((h : ℕ) × (rest ≡ 255 ∷ h ∷ []))

-- the bytes end inside the weights of a segment
abbrev pub EndsInWeights : List ℕ → Type 0
EndsInWeights rest = (n : ℕ) × (part : List ℕ) × (rest ≡ number_code (n + 1) ++ part) × (n ≤ 1000) × (length part < n)

-- a number of three bytes that is below 255
abbrev pub HasLongSpelling : List ℕ → Type 0
HasLongSpelling rest = (h l : ℕ) × (after : List ℕ) × (rest ≡ 255 ∷ h ∷ l ∷ after) × (h * 256 + l < 255)

-- a segment of more than 1000 weights begins
abbrev pub BeginsLongSeg : List ℕ → Type 0
BeginsLongSeg rest = (n : ℕ) × (after : List ℕ) × (rest ≡ number_code (n + 1) ++ after) × (1000 < n)

-- what stands at a bad place before which so many segments stand
abbrev pub IsBadAt : KeyFault → ℕ → List ℕ → Type 0
IsBadAt Short before rest = (before < 16) × (EndsInNumber rest ⊎ EndsInWeights rest)
IsBadAt Spelling before rest = (before < 16) × HasLongSpelling rest
IsBadAt TooLong before rest = ((before ≡ 16) × (0 < length rest)) ⊎ ((before < 16) × BeginsLongSeg rest)
IsBadAt Memory before rest = ⊥

-- whole segments stand from the left on, and the bytes after them are bad in this way
pub record BreaksOff (fault : KeyFault) (bytes : List ℕ) : Type 0 where
  pub before : List KeySeg
  pub are_segs : IsKey before
  pub rest : List ℕ
  pub parts : bytes ≡ key_code before ++ rest
  pub bad : IsBadAt fault (length before) rest
