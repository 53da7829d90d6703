-- A row in words, and the bytes that words hold.
use Rattle.std.proofs.Common.{◌≡◌, ℕ, zero, suc, ◌+◌, ◌-◌, ◌*◌, ◌/◌, ◌%◌, ◌^◌, ◌<◌, ◌≤◌, List, [], ◌∷◌, ◌++◌, length, take, drop, replicate, sym, refl, ap, ◌∙◌, subst, arith, le_refl, lit<, length-append, append_assoc, min, inl, inr}
use Rattle.std.proofs.lemmas.List.{take_all, drop_all, take-append-drop, length-drop, length-take, replicate-append-replicate, append-nil, nil_from_length}
use Rattle.std.proofs.lemmas.Bool.{cases_lt}
use Rattle.std.proofs.Math.Seq.{take-length, take-append_seam, drop-append_seam}
use Rattle.std.proofs.lemmas.List.Concat.{flat_map-append}
use Rattle.std.proofs.Math.Nat.{pow-le-pow_right, div-eq_of_lt}
use Rattle.std.specs.List.{flat_map}
use Rattle.std.specs.Int.{byte_at, bytes_low_first}
use Rattle.myi_base.specs.Numbers.{low_num_bytes, AreBytes}
use Rattle.myi_base.proofs.CallerLemmas.{bytes-none, bytes-append, bytes-take, bytes-drop, bytes-low_num_bytes, low_num-below, low_num_bytes-low_num}
use Rattle.myi_tail.specs.Rows.{word_of, words_of}
use Rattle.myi_tail.specs.Spelled.{bytes_in}

pub length-words_of : (n : ℕ) (bytes : List ℕ) → length (words_of n bytes) ≡ n
length-words_of zero bytes = refl
length-words_of (suc n) bytes = ap suc (length-words_of n (drop 8 bytes))

-- one more word where bytes are left, and none where none is
pub words_of-more : (bytes : List ℕ) → 0 < length bytes
    → words_of ((length bytes + 7) / 8) bytes ≡ word_of (take 8 bytes) ∷ words_of ((length (drop 8 bytes) + 7) / 8) (drop 8 bytes)
words_of-more bytes some =
    let long : length (drop 8 bytes) ≡ length bytes - 8 = length-drop 8 bytes in
    let n : (length bytes + 7) / 8 ≡ suc ((length (drop 8 bytes) + 7) / 8) = omega arith in
    ap (λ k. words_of k bytes) n

chunk_parts : (all chunk rest : List ℕ) → all ≡ chunk ++ rest → length chunk ≡ min 8 (length all) → (take 8 all ≡ chunk) × (drop 8 all ≡ rest)
chunk_parts all chunk rest parts size =
    let sum = ap length parts ∙ length-append chunk rest in
    elim (cases_lt (length all) 8) [
      | inl short ↦
          let none : rest ≡ [] = nil_from_length rest (omega arith) in
          let same : all ≡ chunk = parts ∙ ap (λ l. chunk ++ l) none ∙ append-nil chunk in
          (take_all 8 all (omega arith) ∙ same, drop_all 8 all (omega arith) ∙ sym none)
      | inr long ↦
          let whole : length chunk ≡ 8 = omega arith in
          (ap (take 8) parts ∙ ap (λ n. take n (chunk ++ rest)) (sym whole) ∙ take-append_seam chunk rest, ap (drop 8) parts ∙ ap (λ n. drop n (chunk ++ rest)) (sym whole) ∙ drop-append_seam chunk rest)
    ]

-- a chunk of eight bytes, or of those that are left, is one word
pub words_of-chunk : (all chunk rest : List ℕ) → all ≡ chunk ++ rest → length chunk ≡ min 8 (length all) → 0 < length all
    → words_of ((length all + 7) / 8) all ≡ word_of chunk ∷ words_of ((length rest + 7) / 8) rest
words_of-chunk all chunk rest parts size some =
    let p = chunk_parts all chunk rest parts size in
    words_of-more all some ∙ (λ i. word_of (p.0 i) ∷ words_of ((length (p.1 i) + 7) / 8) (p.1 i))

-- the bytes above a number are zeros

byte_above : (j v : ℕ) → v < 256 ^ j → byte_at j v ≡ 0
byte_above zero v below = ap (λ n. n % 256) (let none : v ≡ 0 = omega arith in none)
byte_above (suc j) v below = ap (λ n. n % 256) (div-eq_of_lt below)

zeros_above : (j k v : ℕ) → v < 256 ^ j → bytes_low_first j k v ≡ replicate k 0
zeros_above j zero v below = refl
zeros_above j (suc k) v below =
    let more : 256 ^ j ≤ 256 ^ suc j = pow-le-pow_right (lit< tt) (omega arith) in
    (λ i. byte_above j v below i ∷ zeros_above (suc j) k v (omega arith) i)

low_first-parts : (j n k m i v : ℕ) → n + k ≡ m → j + n ≡ i → bytes_low_first j m v ≡ bytes_low_first j n v ++ bytes_low_first i k v
low_first-parts j zero k m i v sum next =
    let all : m ≡ k = omega arith in
    let here : j ≡ i = omega arith in
    (λ t. bytes_low_first (here t) (all t) v)
low_first-parts j (suc n) k zero i v sum next = absurd (omega arith)
low_first-parts j (suc n) k (suc m) i v sum next = ap (λ l. byte_at j v ∷ l) (low_first-parts (suc j) n k m i v (omega arith) (omega arith))

low_num_bytes-more : (n k m v : ℕ) → n + k ≡ m → v < 256 ^ n → low_num_bytes m v ≡ low_num_bytes n v ++ replicate k 0
unfolding low_num_bytes
low_num_bytes-more n k m v sum below = low_first-parts 0 n k m n v sum (omega arith) ∙ ap (λ l. bytes_low_first 0 n v ++ l) (zeros_above n k v below)

-- words hold bytes

bytes-words : (words : List ℕ) → AreBytes (flat_map (low_num_bytes 8) words)
bytes-words [] = bytes-none
bytes-words (w ∷ words) = bytes-append (low_num_bytes 8 w) (flat_map (low_num_bytes 8) words) (bytes-low_num_bytes 8 w) (bytes-words words)

pub bytes-bytes_in : (n : ℕ) (words : List ℕ) → AreBytes (bytes_in n words)
bytes-bytes_in n words = bytes-take n (flat_map (low_num_bytes 8) words) (bytes-words words)

-- the bytes of words

word_back : (bytes : List ℕ) → AreBytes bytes → length bytes ≤ 8 → low_num_bytes 8 (word_of bytes) ≡ bytes ++ replicate (8 - length bytes) 0
word_back bytes all few =
    let n : ℕ = length bytes in
    low_num_bytes-more n (8 - n) 8 (word_of bytes) (omega arith) (low_num-below n bytes all)
    ∙ ap (λ l. l ++ replicate (8 - n) 0) (low_num_bytes-low_num n bytes all (le_refl n) ∙ take-length bytes)

-- two fills are one
filled_twice : (j k m : ℕ) (bytes : List ℕ) → j + k ≡ m → (bytes ++ replicate j 0) ++ ([] ++ replicate k 0) ≡ bytes ++ replicate m 0
filled_twice j k m bytes sum =
    append_assoc bytes (replicate j 0) (replicate k 0) ∙ (ap (λ l. bytes ++ l) (replicate-append-replicate j k 0) ∙ ap (λ n. bytes ++ replicate n 0) sum)

-- the first word is the last
filled_short : (n : ℕ) (bytes front back : List ℕ) → front ≡ bytes → back ≡ [] → length bytes < 8
    → (front ++ replicate (8 - length front) 0) ++ (back ++ replicate (8 * n - length back) 0) ≡ bytes ++ replicate (8 * suc n - length bytes) 0
filled_short n bytes front back same none short =
    (λ i. (same i ++ replicate (8 - length (same i)) 0) ++ (none i ++ replicate (8 * n - length (none i)) 0))
    ∙ filled_twice (8 - length bytes) (8 * n - length {A = ℕ} []) (8 * suc n - length bytes) bytes (omega arith)

-- the first word is full
filled_long : (n : ℕ) (bytes front back : List ℕ) → front ++ back ≡ bytes → 8 ≤ length bytes → length front ≡ 8 → length back ≡ length bytes - 8
    → (front ++ replicate (8 - length front) 0) ++ (back ++ replicate (8 * n - length back) 0) ≡ bytes ++ replicate (8 * suc n - length bytes) 0
filled_long n bytes front back parts long full rest =
    let k : ℕ = 8 * n - length back in
    let none : 8 - length front ≡ 0 = omega arith in
    let same : k ≡ 8 * suc n - length bytes = omega arith in
    ap (λ m. (front ++ replicate m 0) ++ (back ++ replicate k 0)) none
    ∙ (ap (λ l. l ++ (back ++ replicate k 0)) (append-nil front)
    ∙ (sym (append_assoc front back (replicate k 0)) ∙ (λ i. parts i ++ replicate (same i) 0)))

bytes_back : (n : ℕ) (bytes : List ℕ) → AreBytes bytes → length bytes ≤ 8 * n → flat_map (low_num_bytes 8) (words_of n bytes) ≡ bytes ++ replicate (8 * n - length bytes) 0
bytes_back zero bytes all few =
    let none : bytes ≡ [] = nil_from_length bytes (omega arith) in
    subst (λ (b : List ℕ). [] ≡ b ++ replicate (8 * 0 - length b) 0) (sym none) refl
bytes_back (suc n) bytes all few =
    let front : List ℕ = take 8 bytes in
    let back : List ℕ = drop 8 bytes in
    let fronts : length front ≡ min 8 (length bytes) = length-take 8 bytes in
    let backs : length back ≡ length bytes - 8 = length-drop 8 bytes in
    let here = word_back front (bytes-take 8 bytes all) (omega arith) in
    let there = bytes_back n back (bytes-drop 8 bytes all) (omega arith) in
    let joined : low_num_bytes 8 (word_of front) ++ flat_map (low_num_bytes 8) (words_of n back)
    ≡ (front ++ replicate (8 - length front) 0) ++ (back ++ replicate (8 * n - length back) 0) = λ i. here i ++ there i in
    joined ∙ elim (cases_lt (length bytes) 8) [
      | inl short ↦ filled_short n bytes front back (take_all 8 bytes (omega arith)) (drop_all 8 bytes (omega arith)) short
      | inr long ↦ filled_long n bytes front back (take-append-drop 8 bytes) (omega arith) (omega arith) (omega arith)
    ]

-- the bytes that a row's words hold, cut to its length, are the row's
pub row_back : (row back : List ℕ) → AreBytes row → bytes_in (length row) (words_of ((length row + 7) / 8) row ++ back) ≡ row
row_back row back all =
    let n : ℕ = (length row + 7) / 8 in
    let fill : List ℕ = replicate (8 * n - length row) 0 in
    let rest : List ℕ = flat_map (low_num_bytes 8) back in
    ap (take (length row)) (flat_map-append (low_num_bytes 8) (words_of n row) back
    ∙ ap (λ l. l ++ rest) (bytes_back n row all (omega arith))
    ∙ append_assoc row fill rest) ∙ take-append_seam row (fill ++ rest)
