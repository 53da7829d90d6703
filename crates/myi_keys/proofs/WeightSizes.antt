-- Weights are bytes, and there are not too many of them.
use Rattle.std.proofs.Common.{◌≡◌, ℕ, zero, suc, ◌/◌, ◌<◌, ◌≤◌, true, max, List, [], ◌∷◌, length, take, reverse, get_or, refl, sym, subst, ◌∙◌, arith, lit<, inl, inr}
use Rattle.std.specs.Prelude.{nat_lt, Option, Some, None}
use Rattle.std.specs.List.{list_all}
use Rattle.std.specs.Char.{to_ascii_uppercase}
use Rattle.std.proofs.lemmas.Bool.{cases_lt, lt-ltb, le-ltb, ltb-true, and_parts}
use Rattle.std.proofs.lemmas.List.{length-map, length-reverse, length-take}
use Rattle.std.proofs.lemmas.Nat.{xor_of_8}
use Rattle.myi_base.specs.Numbers.{AreBytes}
use Rattle.myi_base.proofs.CallerLemmas.{bytes-take}
use Rattle.myi_defs.specs.declared.types.SegType.{SegType}
use Rattle.myi_defs.specs.declared.types.SegType.TheVariants as types
use Rattle.myi_defs.specs.Kinds.{int_size}
use Rattle.myi_keys.specs.declared.collations.Collation.{Collation}
use Rattle.myi_keys.specs.declared.collations.Collation.TheVariants.{Latin1SwedishCi, AsciiGeneralCi, Utf8mb4Bin, Latin1Bin, Binary, AsciiBin, Utf8mb3Bin}
use Rattle.myi_keys.specs.declared.collations.TheConstants.{LATIN1_SWEDISH_CI}
use Rattle.myi_keys.specs.Collations.{collation_of, character_width, weight}
use Rattle.myi_keys.specs.Weights.{sign_inverted, first_characters, character_prefix, blanks_stripped, weights_in, text_weights, weights_by, CanWeighBy}
use Rattle.myi_keys.proofs.ByteLists.{bytes-reverse, bytes-map}
use Rattle.myi_base.proofs.CallerLemmas.{blanks_short}
use Rattle.myi_keys.proofs.TextCuts.{characters_front, characters_short}

-- ---- bytes

inverted : (b : ℕ) (x : List ℕ) → AreBytes (b ∷ x) → AreBytes (sign_inverted (b ∷ x))
inverted b x bytes zero = xor_of_8 b 128 (bytes 0) (lit< tt)
inverted b x bytes (suc i) = bytes (suc i)

inverted_bytes : (x : List ℕ) → AreBytes x → AreBytes (sign_inverted x)
inverted_bytes [] bytes = bytes
inverted_bytes (b ∷ x) bytes = inverted b x bytes

prefix_bytes : (width : Option ℕ) (size : ℕ) (x : List ℕ) → AreBytes x → AreBytes (character_prefix width size x)
prefix_bytes None size x bytes = bytes
prefix_bytes (Some width) size x bytes =
    subst (λ (y : List ℕ). AreBytes y) (sym (characters_front (size / width) x)) (bytes-take (length (first_characters (size / width) x)) x bytes)

stripped_bytes : (collation : Collation) (x : List ℕ) → AreBytes x → AreBytes (blanks_stripped collation x)
stripped_bytes Binary x bytes = bytes
stripped_bytes Latin1SwedishCi x bytes = bytes-take _ x bytes
stripped_bytes AsciiGeneralCi x bytes = bytes-take _ x bytes
stripped_bytes Utf8mb4Bin x bytes = bytes-take _ x bytes
stripped_bytes Latin1Bin x bytes = bytes-take _ x bytes
stripped_bytes AsciiBin x bytes = bytes-take _ x bytes
stripped_bytes Utf8mb3Bin x bytes = bytes-take _ x bytes

-- a test of each item holds at each place, and past the end there is 0
each_below : (n : ℕ) (xs : List ℕ) → 0 < n → list_all (λ x. nat_lt x n) xs ≡ true → (i : ℕ) → get_or xs i 0 < n
each_below n [] some all i = some
each_below n (x ∷ xs) some all zero = ltb-true x n (and_parts (nat_lt x n) (list_all (λ x. nat_lt x n) xs) all).0
each_below n (x ∷ xs) some all (suc i) = each_below n xs some (and_parts (nat_lt x n) (list_all (λ x. nat_lt x n) xs) all).1 i

capital_byte : (b : ℕ) → b < 256 → to_ascii_uppercase b < 256
capital_byte b is = elim (cases_lt b 97) [
  | inl less ↦ rw (lt-ltb b 97 less) is
  | inr more ↦ elim (cases_lt b 123) [
    | inl small ↦ rw (le-ltb b 97 more, lt-ltb b 123 small) (omega arith)
    | inr large ↦ rw (le-ltb b 97 more, le-ltb b 123 large) is
  ]
]

weight_byte : (collation : Collation) (b : ℕ) → b < 256 → weight collation b < 256
weight_byte Latin1SwedishCi b is = each_below 256 LATIN1_SWEDISH_CI (lit< tt) refl b
weight_byte AsciiGeneralCi b is = capital_byte b is
weight_byte Utf8mb4Bin b is = is
weight_byte Latin1Bin b is = is
weight_byte Binary b is = is
weight_byte AsciiBin b is = is
weight_byte Utf8mb3Bin b is = is

text_bytes_in : (collation : Collation) (size : ℕ) (x : List ℕ) → AreBytes x → AreBytes (weights_in collation size x)
text_bytes_in collation size x bytes =
    bytes-map (weight collation) (blanks_stripped collation (character_prefix (character_width collation) size (take size x))) (weight_byte collation)
    (stripped_bytes collation (character_prefix (character_width collation) size (take size x)) (prefix_bytes (character_width collation) size (take size x) (bytes-take size x bytes)))

text_bytes : (collation : Option Collation) (size : ℕ) (x : List ℕ) → AreBytes x → AreBytes (text_weights collation size x)
text_bytes None size x bytes = λ i. lit< tt
text_bytes (Some collation) size x bytes = text_bytes_in collation size x bytes

pub bytes_by : (t : SegType) (language size : ℕ) (x : List ℕ) → AreBytes x → AreBytes (weights_by t language size x)
bytes_by types.ShortInt language size x bytes = inverted_bytes (reverse x) (bytes-reverse x bytes)
bytes_by types.LongInt language size x bytes = inverted_bytes (reverse x) (bytes-reverse x bytes)
bytes_by types.Longlong language size x bytes = inverted_bytes (reverse x) (bytes-reverse x bytes)
bytes_by types.Int24 language size x bytes = inverted_bytes (reverse x) (bytes-reverse x bytes)
bytes_by types.Int8 language size x bytes = inverted_bytes (reverse x) (bytes-reverse x bytes)
bytes_by types.UshortInt language size x bytes = bytes-reverse x bytes
bytes_by types.UlongInt language size x bytes = bytes-reverse x bytes
bytes_by types.Ulonglong language size x bytes = bytes-reverse x bytes
bytes_by types.Uint24 language size x bytes = bytes-reverse x bytes
bytes_by types.Binary language size x bytes = bytes
bytes_by types.VarBinary language size x bytes = bytes-take size x bytes
bytes_by types.Text language size x bytes = text_bytes (collation_of language) size x bytes
bytes_by types.VarText language size x bytes = text_bytes (collation_of language) size x bytes

-- ---- their number

inverted_size : (x : List ℕ) → length (sign_inverted x) ≡ length x
inverted_size [] = refl
inverted_size (b ∷ x) = refl

prefix_size : (width : Option ℕ) (size : ℕ) (x : List ℕ) → length (character_prefix width size x) ≤ length x
prefix_size None size x = omega arith
prefix_size (Some width) size x = characters_short (size / width) x

stripped_size : (collation : Collation) (x : List ℕ) → length (blanks_stripped collation x) ≤ length x
stripped_size Binary x = omega arith
stripped_size Latin1SwedishCi x = omega (arith, blanks_short x)
stripped_size AsciiGeneralCi x = omega (arith, blanks_short x)
stripped_size Utf8mb4Bin x = omega (arith, blanks_short x)
stripped_size Latin1Bin x = omega (arith, blanks_short x)
stripped_size AsciiBin x = omega (arith, blanks_short x)
stripped_size Utf8mb3Bin x = omega (arith, blanks_short x)

text_size_in : (collation : Collation) (size : ℕ) (x : List ℕ) → length (weights_in collation size x) ≤ length (take size x)
text_size_in collation size x =
    let cut : List ℕ = character_prefix (character_width collation) size (take size x) in
    omega (arith, length-map (blanks_stripped collation cut) (weight collation), stripped_size collation cut, prefix_size (character_width collation) size (take size x))

text_size : (collation : Option Collation) (size : ℕ) (x : List ℕ) → length (text_weights collation size x) ≤ length (take size x)
text_size None size x = omega arith
text_size (Some collation) size x = text_size_in collation size x

integer_size : (x : List ℕ) → length (sign_inverted (reverse x)) ≡ length x
integer_size x = inverted_size (reverse x) ∙ length-reverse x

pub size_by : (t : SegType) (language size : ℕ) (x : List ℕ) → length (weights_by t language size x) ≤ length x
size_by types.ShortInt language size x = omega (arith, integer_size x)
size_by types.LongInt language size x = omega (arith, integer_size x)
size_by types.Longlong language size x = omega (arith, integer_size x)
size_by types.Int24 language size x = omega (arith, integer_size x)
size_by types.Int8 language size x = omega (arith, integer_size x)
size_by types.UshortInt language size x = omega (arith, length-reverse x)
size_by types.UlongInt language size x = omega (arith, length-reverse x)
size_by types.Ulonglong language size x = omega (arith, length-reverse x)
size_by types.Uint24 language size x = omega (arith, length-reverse x)
size_by types.Binary language size x = omega arith
size_by types.VarBinary language size x = omega (arith, length-take size x)
size_by types.Text language size x = omega (arith, text_size (collation_of language) size x, length-take size x)
size_by types.VarText language size x = omega (arith, text_size (collation_of language) size x, length-take size x)

pub fits_by : (t : SegType) (language size : ℕ) (x : List ℕ) → CanWeighBy t language size x → length (weights_by t language size x) ≤ max size 8
fits_by types.ShortInt language size x can = omega (arith, integer_size x)
fits_by types.LongInt language size x can = omega (arith, integer_size x)
fits_by types.Longlong language size x can = omega (arith, integer_size x)
fits_by types.Int24 language size x can = omega (arith, integer_size x)
fits_by types.Int8 language size x can = omega (arith, integer_size x)
fits_by types.UshortInt language size x can = omega (arith, length-reverse x)
fits_by types.UlongInt language size x can = omega (arith, length-reverse x)
fits_by types.Ulonglong language size x can = omega (arith, length-reverse x)
fits_by types.Uint24 language size x can = omega (arith, length-reverse x)
fits_by types.Binary language size x can = omega arith
fits_by types.VarBinary language size x can = omega (arith, length-take size x)
fits_by types.Text language size x can = omega (arith, text_size (collation_of language) size x, length-take size x)
fits_by types.VarText language size x can = omega (arith, text_size (collation_of language) size x, length-take size x)

-- where the segment of an integer has its type's size
pub few_by : (t : SegType) (language size : ℕ) (x : List ℕ) → ((n : ℕ) → int_size t ≡ Some n → size ≡ n) → CanWeighBy t language size x → length (weights_by t language size x) ≤ size
few_by types.ShortInt language size x sized can = omega (arith, integer_size x, sized 2 refl)
few_by types.LongInt language size x sized can = omega (arith, integer_size x, sized 4 refl)
few_by types.Longlong language size x sized can = omega (arith, integer_size x, sized 8 refl)
few_by types.Int24 language size x sized can = omega (arith, integer_size x, sized 3 refl)
few_by types.Int8 language size x sized can = omega (arith, integer_size x, sized 1 refl)
few_by types.UshortInt language size x sized can = omega (arith, length-reverse x, sized 2 refl)
few_by types.UlongInt language size x sized can = omega (arith, length-reverse x, sized 4 refl)
few_by types.Ulonglong language size x sized can = omega (arith, length-reverse x, sized 8 refl)
few_by types.Uint24 language size x sized can = omega (arith, length-reverse x, sized 3 refl)
few_by types.Binary language size x sized can = omega arith
few_by types.VarBinary language size x sized can = omega (arith, length-take size x)
few_by types.Text language size x sized can = omega (arith, text_size (collation_of language) size x, length-take size x)
few_by types.VarText language size x sized can = omega (arith, text_size (collation_of language) size x, length-take size x)
