-- A key's code read from left to right, up to the first bad place. `Memory` never comes here. The laws that join this
-- to the codes and to the bad places are the contracts of `codes_read_back` and `faults_at_first_place`.
use Rattle.std.specs.Prelude.{◌≡◌, ℕ, zero, suc, ◌+◌, ◌*◌, List, [], ◌∷◌, length, take, drop, Result, Ok, Err, nat_lt, if◌then◌else◌}
use Rattle.myi_keys.specs.declared.values.KeySeg.{KeySeg}
use Rattle.myi_keys.specs.declared.values.KeySeg.TheVariants.{Absent, Weights}
use Rattle.myi_keys.specs.declared.codes.KeyFault.{KeyFault}
use Rattle.myi_keys.specs.declared.codes.KeyFault.TheVariants.{Short, Spelling, TooLong, Memory}

-- the first fault ends the reading
infixl 10 ◌>>=◌
abbrev pub ◌>>=◌ : {A B : Type 0} → Result A KeyFault → (A → Result B KeyFault) → Result B KeyFault
(Ok x) >>= f = f x
(Err e) >>= f = Err e

-- a call with this error fails as the reading does, unless memory ran out
abbrev pub Fails : {Y : Type 0} → KeyFault → Result Y KeyFault → Type 0
Fails Short read = read ≡ Err Short
Fails Spelling read = read ≡ Err Spelling
Fails TooLong read = read ≡ Err TooLong
Fails Memory read = Unit {0}

-- a call answers what was read, unless memory ran out
abbrev pub Gives : {X Y : Type 0} → (X → Y) → Result X KeyFault → Result Y KeyFault → Type 0
Gives view (Ok x) read = read ≡ Ok (view x)
Gives view (Err e) read = Fails e read

-- the two bytes of a number after 255
abbrev pub wide_number_at : List ℕ → Result (ℕ × List ℕ) KeyFault
wide_number_at [] = Err Short
wide_number_at (h ∷ []) = Err Short
wide_number_at (h ∷ l ∷ bs) = if nat_lt (h * 256 + l) 255 then Err Spelling else Ok (h * 256 + l, bs)

-- a number, and the bytes after it
unfoldable pub number_at : List ℕ → Result (ℕ × List ℕ) KeyFault
number_at [] = Err Short
number_at (b ∷ bs) = if nat_lt b 255 then Ok (b, bs) else wide_number_at bs

-- so many weights, and the bytes after them
abbrev pub weights_at : ℕ → List ℕ → Result (KeySeg × List ℕ) KeyFault
weights_at n bytes = if nat_lt 1000 n then Err TooLong else (if nat_lt (length bytes) n then Err Short else Ok (Weights (take n bytes), drop n bytes))

-- a segment by its number, which is one more than the number of its weights
abbrev pub seg_by : ℕ → List ℕ → Result (KeySeg × List ℕ) KeyFault
seg_by zero bytes = Ok (Absent, bytes)
seg_by (suc n) bytes = weights_at n bytes

-- a segment, and the bytes after it
unfoldable pub seg_at : List ℕ → Result (KeySeg × List ℕ) KeyFault
seg_at bytes = do
  number ← number_at bytes
  seg_by number.0 number.1

-- at most n segments up to the end of the bytes
unfoldable pub segs_at : ℕ → List ℕ → Result (List KeySeg) KeyFault
segs_at n [] = Ok []
segs_at zero (b ∷ bs) = Err TooLong
segs_at (suc n) (b ∷ bs) = do
  seg ← seg_at (b ∷ bs)
  others ← segs_at n seg.1
  Ok (seg.0 ∷ others)

-- the key that the bytes are the code of, or the fault at the first bad place
abbrev pub key_at : List ℕ → Result (List KeySeg) KeyFault
key_at bytes = segs_at 16 bytes
