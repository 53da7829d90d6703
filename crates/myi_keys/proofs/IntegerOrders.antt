-- Integers stand by their weights in the order of their numbers.
use Rattle.std.proofs.Common.{◌≡◌, ℕ, zero, suc, ◌+◌, ◌*◌, ◌^◌, ◌%◌, ◌/◌, ◌<◌, ◌≤◌, List, [], ◌∷◌, ◌++◌, length, reverse, refl, sym, ap, subst, ◌∙◌, arith, lit<, inl, inr}
use Rattle.std.proofs.Math.Nat.{mul-le-mul_right, pow-succ'}
use Rattle.std.proofs.lemmas.Bool.{cases_lt, lt-ltb, le-ltb}
use Rattle.std.proofs.lemmas.Int.{ints}
use Rattle.std.proofs.lemmas.List.{length-append, length-reverse}
use Rattle.std.proofs.lemmas.Grind.{reverse_onto}
use Rattle.std.proofs.lemmas.Nat.Bits.{and_pow}
use Rattle.std.specs.Int.Bits.{xor_add_and}
use Rattle.std.proofs.lemmas.Nat.{xor_of_8}
use Rattle.std.specs.Prelude.{bit_xor, ℤ, pos, ◌+ℤ◌, ◌<ℤ◌}
use Rattle.std.specs.Ordering.{nat_cmp, int_cmp, ordering_then, MatchOrdering}
use Rattle.std.specs.Cmp.{ranks, nat_cmp_is, int_cmp_is}
use Rattle.std.specs.Cmp.Lexicographic.{slice_cmp}
use Rattle.std.specs.declared.cmp.Ordering.{Ordering}
use Rattle.std.specs.declared.cmp.Ordering.TheVariants.{Less, Equal, Greater}
use Rattle.byteorder.specs.Endian.{big_from, little_from}
use Rattle.byteorder.specs.Numbers.{big_from-cons, little_from-cons, big_from-lt}
use Rattle.myi_base.specs.Numbers.{low_num, AreBytes}
use Rattle.myi_defs.specs.declared.types.SegType.{SegType}
use Rattle.myi_defs.specs.declared.types.SegType.TheVariants.{Text, Binary, ShortInt, LongInt, UshortInt, UlongInt, Longlong, Ulonglong, Int24, Uint24, Int8, VarText, VarBinary}
use Rattle.myi_keys.specs.Weights.{sign_inverted, weights_by, CanWeighBy}
use Rattle.myi_keys.specs.Integers.{IsSigned, IsUnsigned, twos_complement, signed_number, unsigned_number}
use Rattle.myi_keys.proofs.ByteLists.{bytes-reverse}

-- the number that all the bytes spell, high byte first
abbrev pub whole : List ℕ → ℕ
whole x = big_from 0 (length x) x

tail_bytes : (b : ℕ) (x : List ℕ) → AreBytes (b ∷ x) → AreBytes x
tail_bytes b x bytes i = bytes (suc i)

-- ---- bytes of one length stand in the order of their numbers

digits : (o q : Ordering) (b c r s p : ℕ) → MatchOrdering o (b < c) (b ≡ c) (c < b) → MatchOrdering q (r < s) (r ≡ s) (s < r) → r < p → s < p
    → MatchOrdering (ordering_then o q) (b * p + r < c * p + s) (b * p + r ≡ c * p + s) (c * p + s < b * p + r)
digits Less q b c r s p first rest small little = let more : (b + 1) * p ≤ c * p = mul-le-mul_right p (omega arith) in omega arith
digits Greater q b c r s p first rest small little = let more : (c + 1) * p ≤ b * p = mul-le-mul_right p (omega arith) in omega arith
digits Equal Less b c r s p first rest small little = let same = ap (λ (n : ℕ). n * p) first in omega arith
digits Equal Equal b c r s p first rest small little = let same = ap (λ (n : ℕ). n * p) first in omega arith
digits Equal Greater b c r s p first rest small little = let same = ap (λ (n : ℕ). n * p) first in omega arith

pub bytes_ranked : (x y : List ℕ) → length x ≡ length y → AreBytes x → AreBytes y → MatchOrdering (slice_cmp nat_cmp x y) (whole x < whole y) (whole x ≡ whole y) (whole y < whole x)
bytes_ranked [] [] long left right = refl
bytes_ranked [] (c ∷ y) long left right = absurd (omega arith)
bytes_ranked (b ∷ x) [] long left right = absurd (omega arith)
bytes_ranked (b ∷ x) (c ∷ y) long left right =
    let rest = bytes_ranked x y (omega arith) (tail_bytes b x left) (tail_bytes c y right) in
    let size : length y ≡ length x = omega arith in
    let p : ℕ = 256 ^ length x in
    let small = big_from-lt 0 (length x) x (tail_bytes b x left) in
    let little = subst (λ (n : ℕ). whole y < 256 ^ n) size (big_from-lt 0 (length y) y (tail_bytes c y right)) in
    let xs : whole (b ∷ x) ≡ b * p + whole x = ap (λ (r : ℕ). b * p + r) (big_from-cons 0 (length x) b x) in
    let ys : whole (c ∷ y) ≡ c * p + whole y = ap (λ (r : ℕ). c * 256 ^ length y + r) (big_from-cons 0 (length y) c y) ∙ ap (λ (n : ℕ). c * 256 ^ n + whole y) size in
    rw (xs, ys) (digits (nat_cmp b c) (slice_cmp nat_cmp x y) b c (whole x) (whole y) p (ranks b c) rest small little)

pub bytes_cmp : (x y : List ℕ) → length x ≡ length y → AreBytes x → AreBytes y → slice_cmp nat_cmp x y ≡ nat_cmp (whole x) (whole y)
bytes_cmp x y long left right = nat_cmp_is (whole x) (whole y) (slice_cmp nat_cmp x y) (bytes_ranked x y long left right)

-- ---- low byte first, read backwards

whole_end : (x : List ℕ) (a : ℕ) → whole (x ++ a ∷ []) ≡ 256 * whole x + a
whole_end [] a = omega arith
whole_end (b ∷ x) a =
    let n : ℕ = length x in
    let size : length (x ++ a ∷ []) ≡ suc n = omega (arith, length-append x (a ∷ [])) in
    let longer : whole (b ∷ (x ++ a ∷ [])) ≡ b * 256 ^ length (x ++ a ∷ []) + whole (x ++ a ∷ []) = ap (λ (r : ℕ). b * 256 ^ length (x ++ a ∷ []) + r) (big_from-cons 0 (length (x ++ a ∷ [])) b (x ++ a ∷ [])) in
    let shorter : whole (b ∷ x) ≡ b * 256 ^ n + whole x = ap (λ (r : ℕ). b * 256 ^ n + r) (big_from-cons 0 n b x) in
    let power : b * 256 ^ length (x ++ a ∷ []) ≡ 256 * (b * 256 ^ n) = ap (λ (m : ℕ). b * 256 ^ m) size ∙ ap (λ (m : ℕ). b * m) (pow-succ' 256 n) ∙ omega arith in
    let rest = whole_end x a in
    omega arith

reversed : (x : List ℕ) → little_from 0 (length x) x ≡ whole (reverse x)
reversed [] = refl
reversed (a ∷ x) =
    let moved : little_from 0 (suc (length x)) (a ∷ x) ≡ a + 256 * little_from 0 (length x) x = ap (λ (r : ℕ). a + 256 * r) (little_from-cons 0 (length x) a x) in
    let turned : reverse (a ∷ x) ≡ reverse x ++ a ∷ [] = reverse_onto x a [] in
    let ends : whole (reverse (a ∷ x)) ≡ 256 * whole (reverse x) + a = ap whole turned ∙ whole_end (reverse x) a in
    let rest = reversed x in
    omega arith

pub unsigned_number-reverse : (x : List ℕ) → unsigned_number x ≡ whole (reverse x)
unfolding low_num
unsigned_number-reverse x = reversed x

-- ---- the sign

inverted_low : (b : ℕ) → b < 128 → bit_xor b 128 ≡ b + 128
inverted_low b small = let bit : b / 128 % 2 ≡ 0 = omega arith in omega (arith, xor_add_and b 128, and_pow b 7)

inverted_high : (b : ℕ) → 128 ≤ b → b < 256 → bit_xor b 128 + 128 ≡ b
inverted_high b large small = let bit : b / 128 % 2 ≡ 1 = omega arith in omega (arith, xor_add_and b 128, and_pow b 7)

-- half of the numbers of one byte more than n
abbrev pub half : ℕ → ℕ
half n = 128 * 256 ^ n

low_moves : (b n r f : ℕ) → b < 128 → r < 256 ^ n → f ≡ (b + 128) * 256 ^ n + r → pos f ≡ twos_complement (suc n) (b * 256 ^ n + r) +ℤ pos (half n)
low_moves b n r f small rest is =
    let p : ℕ = 256 ^ n in
    let most : (b + 1) * p ≤ 128 * p = mul-le-mul_right p (omega arith) in
    let power : 256 ^ suc n ≡ 256 * p = pow-succ' 256 n in
    let less : 2 * (b * p + r) < 256 ^ suc n = omega arith in
    rw (lt-ltb (2 * (b * p + r)) (256 ^ suc n) less) (omega (arith, ints))

high_moves : (b n r f : ℕ) → 128 ≤ b → r < 256 ^ n → f + 128 * 256 ^ n ≡ b * 256 ^ n + r → pos f ≡ twos_complement (suc n) (b * 256 ^ n + r) +ℤ pos (half n)
high_moves b n r f large rest is =
    let p : ℕ = 256 ^ n in
    let least : 128 * p ≤ b * p = mul-le-mul_right p large in
    let power : 256 ^ suc n ≡ 256 * p = pow-succ' 256 n in
    let more : 256 ^ suc n ≤ 2 * (b * p + r) = omega arith in
    rw (le-ltb (2 * (b * p + r)) (256 ^ suc n) more) (omega (arith, ints))

-- inverting the sign adds half of the numbers to what two's complement stands for
sign_moves : (b : ℕ) (x : List ℕ) → AreBytes (b ∷ x) → pos (whole (sign_inverted (b ∷ x))) ≡ twos_complement (suc (length x)) (whole (b ∷ x)) +ℤ pos (half (length x))
sign_moves b x bytes =
    let n : ℕ = length x in
    let first : b < 256 = bytes 0 in
    let rest = big_from-lt 0 n x (tail_bytes b x bytes) in
    let value : whole (b ∷ x) ≡ b * 256 ^ n + whole x = ap (λ (r : ℕ). b * 256 ^ n + r) (big_from-cons 0 n b x) in
    let inverted : whole (bit_xor b 128 ∷ x) ≡ bit_xor b 128 * 256 ^ n + whole x = ap (λ (r : ℕ). bit_xor b 128 * 256 ^ n + r) (big_from-cons 0 n (bit_xor b 128) x) in
    elim (cases_lt b 128) [
      | inl small ↦
          let digit = ap (λ (d : ℕ). d * 256 ^ n) (inverted_low b small) in
          subst (λ (v : ℕ). pos (whole (bit_xor b 128 ∷ x)) ≡ twos_complement (suc n) v +ℤ pos (half n)) (sym value) (low_moves b n (whole x) (whole (bit_xor b 128 ∷ x)) small rest (omega arith))
      | inr large ↦
          let digit = ap (λ (d : ℕ). d * 256 ^ n) (inverted_high b large first) in
          subst (λ (v : ℕ). pos (whole (bit_xor b 128 ∷ x)) ≡ twos_complement (suc n) v +ℤ pos (half n)) (sym value) (high_moves b n (whole x) (whole (bit_xor b 128 ∷ x)) large rest (omega arith))
    ]

moved_ranked : (o : Ordering) (f g h : ℕ) (s t : ℤ) → MatchOrdering o (f < g) (f ≡ g) (g < f) → pos f ≡ s +ℤ pos h → pos g ≡ t +ℤ pos h → MatchOrdering o (s <ℤ t) (s ≡ t) (t <ℤ s)
moved_ranked Less f g h s t ranked left right = omega (arith, ints)
moved_ranked Equal f g h s t ranked left right = omega (arith, ints)
moved_ranked Greater f g h s t ranked left right = omega (arith, ints)

inverted_bytes : (b : ℕ) (x : List ℕ) → AreBytes (b ∷ x) → AreBytes (sign_inverted (b ∷ x))
inverted_bytes b x bytes zero = xor_of_8 b 128 (bytes 0) (lit< tt)
inverted_bytes b x bytes (suc i) = bytes (suc i)

inverted_cmp : (x y : List ℕ) → length x ≡ length y → 0 < length x → AreBytes x → AreBytes y → slice_cmp nat_cmp (sign_inverted x) (sign_inverted y) ≡ int_cmp (twos_complement (length x) (whole x)) (twos_complement (length y) (whole y))
inverted_cmp [] y long some left right = absurd (omega arith)
inverted_cmp (b ∷ x) [] long some left right = absurd (omega arith)
inverted_cmp (b ∷ x) (c ∷ y) long some left right =
    let size : length y ≡ length x = omega arith in
    let other = subst (λ (n : ℕ). pos (whole (sign_inverted (c ∷ y))) ≡ twos_complement (length (c ∷ y)) (whole (c ∷ y)) +ℤ pos (half n)) size (sign_moves c y right) in
    let o : Ordering = slice_cmp nat_cmp (sign_inverted (b ∷ x)) (sign_inverted (c ∷ y)) in
    int_cmp_is (twos_complement (length (b ∷ x)) (whole (b ∷ x))) (twos_complement (length (c ∷ y)) (whole (c ∷ y))) o
    (moved_ranked o (whole (sign_inverted (b ∷ x))) (whole (sign_inverted (c ∷ y))) (half (length x)) (twos_complement (length (b ∷ x)) (whole (b ∷ x))) (twos_complement (length (c ∷ y)) (whole (c ∷ y)))
    (bytes_ranked (sign_inverted (b ∷ x)) (sign_inverted (c ∷ y)) long (inverted_bytes b x left) (inverted_bytes c y right))
    (sign_moves b x left) other)

-- ---- the contents of segments

pub signed_cmp : (x y : List ℕ) → length x ≡ length y → 0 < length x → AreBytes x → AreBytes y → slice_cmp nat_cmp (sign_inverted (reverse x)) (sign_inverted (reverse y)) ≡ int_cmp (signed_number x) (signed_number y)
signed_cmp x y long some left right =
    let lx = length-reverse x in
    let ly = length-reverse y in
    inverted_cmp (reverse x) (reverse y) (omega arith) (omega arith) (bytes-reverse x left) (bytes-reverse y right)
    ∙ ap (λ (v : ℤ). int_cmp v (twos_complement (length (reverse y)) (whole (reverse y)))) (ap (λ (n : ℕ). twos_complement n (whole (reverse x))) lx ∙ ap (twos_complement (length x)) (sym (unsigned_number-reverse x)))
    ∙ ap (int_cmp (signed_number x)) (ap (λ (n : ℕ). twos_complement n (whole (reverse y))) ly ∙ ap (twos_complement (length y)) (sym (unsigned_number-reverse y)))

pub unsigned_cmp : (x y : List ℕ) → length x ≡ length y → AreBytes x → AreBytes y → slice_cmp nat_cmp (reverse x) (reverse y) ≡ nat_cmp (unsigned_number x) (unsigned_number y)
unsigned_cmp x y long left right =
    let lx = length-reverse x in
    let ly = length-reverse y in
    bytes_cmp (reverse x) (reverse y) (omega arith) (bytes-reverse x left) (bytes-reverse y right)
    ∙ ap (λ (v : ℕ). nat_cmp v (whole (reverse y))) (sym (unsigned_number-reverse x))
    ∙ ap (nat_cmp (unsigned_number x)) (sym (unsigned_number-reverse y))

pub signed_by : (t : SegType) (language size : ℕ) (x y : List ℕ) → IsSigned t → CanWeighBy t language size x → CanWeighBy t language size y → AreBytes x → AreBytes y → slice_cmp nat_cmp (weights_by t language size x) (weights_by t language size y) ≡ int_cmp (signed_number x) (signed_number y)
signed_by ShortInt language size x y is one other left right = signed_cmp x y (one ∙ sym other) (omega arith) left right
signed_by LongInt language size x y is one other left right = signed_cmp x y (one ∙ sym other) (omega arith) left right
signed_by Longlong language size x y is one other left right = signed_cmp x y (one ∙ sym other) (omega arith) left right
signed_by Int24 language size x y is one other left right = signed_cmp x y (one ∙ sym other) (omega arith) left right
signed_by Int8 language size x y is one other left right = signed_cmp x y (one ∙ sym other) (omega arith) left right
signed_by Text language size x y is one other left right = absurd is
signed_by Binary language size x y is one other left right = absurd is
signed_by UshortInt language size x y is one other left right = absurd is
signed_by UlongInt language size x y is one other left right = absurd is
signed_by Ulonglong language size x y is one other left right = absurd is
signed_by Uint24 language size x y is one other left right = absurd is
signed_by VarText language size x y is one other left right = absurd is
signed_by VarBinary language size x y is one other left right = absurd is

pub unsigned_by : (t : SegType) (language size : ℕ) (x y : List ℕ) → IsUnsigned t → CanWeighBy t language size x → CanWeighBy t language size y → AreBytes x → AreBytes y → slice_cmp nat_cmp (weights_by t language size x) (weights_by t language size y) ≡ nat_cmp (unsigned_number x) (unsigned_number y)
unsigned_by UshortInt language size x y is one other left right = unsigned_cmp x y (one ∙ sym other) left right
unsigned_by UlongInt language size x y is one other left right = unsigned_cmp x y (one ∙ sym other) left right
unsigned_by Ulonglong language size x y is one other left right = unsigned_cmp x y (one ∙ sym other) left right
unsigned_by Uint24 language size x y is one other left right = unsigned_cmp x y (one ∙ sym other) left right
unsigned_by ShortInt language size x y is one other left right = absurd is
unsigned_by LongInt language size x y is one other left right = absurd is
unsigned_by Longlong language size x y is one other left right = absurd is
unsigned_by Int24 language size x y is one other left right = absurd is
unsigned_by Int8 language size x y is one other left right = absurd is
unsigned_by Text language size x y is one other left right = absurd is
unsigned_by Binary language size x y is one other left right = absurd is
unsigned_by VarText language size x y is one other left right = absurd is
unsigned_by VarBinary language size x y is one other left right = absurd is
