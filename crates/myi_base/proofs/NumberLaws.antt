-- Numbers in bytes: what is written is read, and one list of bytes spells one number.
use Rattle.std.proofs.Common.{◌≡◌, ℕ, zero, suc, ◌+◌, ◌-◌, ◌*◌, ◌^◌, ◌%◌, ◌/◌, ◌<◌, ◌≤◌, List, [], ◌∷◌, ◌++◌, length, take, drop, get_or, slice_index, refl, sym, ap, subst, ◌∙◌, arith, lit<}
use Rattle.std.proofs.Math.Nat.{mod-lt, mul-le-mul_right}
use Rattle.std.proofs.lemmas.Bool.{cases_lt}
use Rattle.std.proofs.lemmas.List.{length-take-le, append-nil}
use Rattle.std.specs.Int.{byte_at, bytes_high_first, bytes_low_first}
use Rattle.byteorder.specs.Endian.{big_from, little_from}
use Rattle.byteorder.specs.Numbers.{big_number-reads_back, little_number-reads_back, length-bytes_high_first, length-bytes_low_first, big_from-cons, little_from-cons, big_from-take, little_from-take, big_from-lt, little_from-lt}
use Rattle.myi_base.specs.Numbers.{num, num_bytes, low_num, low_num_bytes, AreBytes}
use Rattle.myi_base.proofs.BytesLaws.{bytes-take}

pub length-num_bytes : (n v : ℕ) → length (num_bytes n v) ≡ n
unfolding num_bytes
length-num_bytes n v = length-bytes_high_first n v

pub length-low_num_bytes : (n v : ℕ) → length (low_num_bytes n v) ≡ n
unfolding low_num_bytes
length-low_num_bytes n v = length-bytes_low_first 0 n v

pub num-num_bytes : (n v : ℕ) (rest : List ℕ) → v < 256 ^ n → num n (num_bytes n v ++ rest) ≡ v
unfolding num num_bytes
num-num_bytes n v rest fits = big_number-reads_back n v rest fits

pub low_num-low_num_bytes : (n v : ℕ) (rest : List ℕ) → v < 256 ^ n → low_num n (low_num_bytes n v ++ rest) ≡ v
unfolding low_num low_num_bytes
low_num-low_num_bytes n v rest fits = little_number-reads_back n v rest fits

pub num-below : (n : ℕ) (x : List ℕ) → AreBytes x → num n x < 256 ^ n
unfolding num
num-below n x bytes = big_from-lt 0 n x bytes

pub low_num-below : (n : ℕ) (x : List ℕ) → AreBytes x → low_num n x < 256 ^ n
unfolding low_num
low_num-below n x bytes = little_from-lt 0 n x bytes

pub num-take : (n m : ℕ) (x : List ℕ) → n ≤ m → num n (take m x) ≡ num n x
unfolding num
num-take n m x inside = big_from-take 0 n m x (omega arith)

pub low_num-take : (n m : ℕ) (x : List ℕ) → n ≤ m → low_num n (take m x) ≡ low_num n x
unfolding low_num
low_num-take n m x inside = little_from-take 0 n m x (omega arith)

-- the bytes of a number are bytes

byte_at-below : (k v : ℕ) → byte_at k v < 256
byte_at-below zero v = mod-lt v (lit< tt)
byte_at-below (suc k) v = mod-lt (v / 256 ^ suc k) (lit< tt)

high_bytes : (n v : ℕ) → AreBytes (bytes_high_first n v)
high_bytes zero v i = lit< tt
high_bytes (suc n) v zero = byte_at-below n v
high_bytes (suc n) v (suc i) = high_bytes n v i

low_bytes : (k n v : ℕ) → AreBytes (bytes_low_first k n v)
low_bytes k zero v i = lit< tt
low_bytes k (suc n) v zero = byte_at-below k v
low_bytes k (suc n) v (suc i) = low_bytes (suc k) n v i

pub bytes-num_bytes : (n v : ℕ) → AreBytes (num_bytes n v)
unfolding num_bytes
bytes-num_bytes n v = high_bytes n v

pub bytes-low_num_bytes : (n v : ℕ) → AreBytes (low_num_bytes n v)
unfolding low_num_bytes
bytes-low_num_bytes n v = low_bytes 0 n v

-- a digit above a rest below its place is found again
digit_once : (a b r s p : ℕ) → r < p → s < p → a * p + r ≡ b * p + s → (a ≡ b) × (r ≡ s)
digit_once a b r s p small little same = elim (cases_lt a b) [
  | Rattle.std.proofs.Common.inl less ↦
      let more : (a + 1) * p ≤ b * p = mul-le-mul_right p (omega arith) in absurd (omega arith)
  | Rattle.std.proofs.Common.inr most ↦ elim (cases_lt b a) [
    | Rattle.std.proofs.Common.inl less ↦
        let more : (b + 1) * p ≤ a * p = mul-le-mul_right p (omega arith) in absurd (omega arith)
    | Rattle.std.proofs.Common.inr least ↦ let e : a ≡ b = omega arith in (e, omega (arith, ap (λ n. n * p) e))
  ]
]

tail_bytes : (b : ℕ) (x : List ℕ) → AreBytes (b ∷ x) → AreBytes x
tail_bytes b x bytes i = bytes (suc i)

high_once : (x y : List ℕ) → length x ≡ length y → AreBytes x → AreBytes y → big_from 0 (length x) x ≡ big_from 0 (length x) y → x ≡ y
high_once [] [] long left right same = refl
high_once [] (c ∷ y) long left right same = absurd (omega arith)
high_once (b ∷ x) [] long left right same = absurd (omega arith)
high_once (b ∷ x) (c ∷ y) long left right same =
    let n : ℕ = length x in
    let xs = big_from-cons 0 n b x in
    let ys = big_from-cons 0 n c y in
    let both = digit_once b c (big_from 0 n x) (big_from 0 n y) (256 ^ n) (big_from-lt 0 n x (tail_bytes b x left)) (big_from-lt 0 n y (tail_bytes c y right)) (ap (λ r. b * 256 ^ n + r) (sym xs) ∙ same ∙ ap (λ r. c * 256 ^ n + r) ys) in
    let rest : x ≡ y = high_once x y (omega arith) (tail_bytes b x left) (tail_bytes c y right) both.1 in
    ap (λ d. d ∷ x) both.0 ∙ ap (λ r. c ∷ r) rest

low_once : (x y : List ℕ) → length x ≡ length y → AreBytes x → AreBytes y → little_from 0 (length x) x ≡ little_from 0 (length x) y → x ≡ y
low_once [] [] long left right same = refl
low_once [] (c ∷ y) long left right same = absurd (omega arith)
low_once (b ∷ x) [] long left right same = absurd (omega arith)
low_once (b ∷ x) (c ∷ y) long left right same =
    let n : ℕ = length x in
    let xs = little_from-cons 0 n b x in
    let ys = little_from-cons 0 n c y in
    let equal : b + 256 * little_from 0 n x ≡ c + 256 * little_from 0 n y = ap (λ r. b + 256 * r) (sym xs) ∙ same ∙ ap (λ r. c + 256 * r) ys in
    let first = left 0 in
    let second = right 0 in
    let rest : x ≡ y = low_once x y (omega arith) (tail_bytes b x left) (tail_bytes c y right) (omega arith) in
    let digit : b ≡ c = omega arith in
    ap (λ d. d ∷ x) digit ∙ ap (λ r. c ∷ r) rest

pub num_bytes-num : (n : ℕ) (x : List ℕ) → AreBytes x → n ≤ length x → num_bytes n (num n x) ≡ take n x
unfolding num num_bytes
num_bytes-num n x bytes long =
    let v = big_from 0 n x in
    let long_left : length (bytes_high_first n v) ≡ n = length-bytes_high_first n v in
    let long_right : length (take n x) ≡ n = length-take-le n x long in
    let left : big_from 0 n (bytes_high_first n v) ≡ v = ap (big_from 0 n) (sym (append-nil (bytes_high_first n v))) ∙ big_number-reads_back n v [] (big_from-lt 0 n x bytes) in
    let right : big_from 0 n (take n x) ≡ v = big_from-take 0 n n x (omega arith) in
    high_once (bytes_high_first n v) (take n x) (long_left ∙ sym long_right) (high_bytes n v) (bytes-take n x bytes)
    (subst (λ k. big_from 0 k (bytes_high_first n v) ≡ big_from 0 k (take n x)) (sym long_left) (left ∙ sym right))

pub low_num_bytes-low_num : (n : ℕ) (x : List ℕ) → AreBytes x → n ≤ length x → low_num_bytes n (low_num n x) ≡ take n x
unfolding low_num low_num_bytes
low_num_bytes-low_num n x bytes long =
    let v = little_from 0 n x in
    let long_left : length (bytes_low_first 0 n v) ≡ n = length-bytes_low_first 0 n v in
    let long_right : length (take n x) ≡ n = length-take-le n x long in
    let left : little_from 0 n (bytes_low_first 0 n v) ≡ v = ap (little_from 0 n) (sym (append-nil (bytes_low_first 0 n v))) ∙ little_number-reads_back n v [] (little_from-lt 0 n x bytes) in
    let right : little_from 0 n (take n x) ≡ v = little_from-take 0 n n x (omega arith) in
    low_once (bytes_low_first 0 n v) (take n x) (long_left ∙ sym long_right) (low_bytes 0 n v) (bytes-take n x bytes)
    (subst (λ k. little_from 0 k (bytes_low_first 0 n v) ≡ little_from 0 k (take n x)) (sym long_left) (left ∙ sym right))
