-- What bytes begin with: a code is read to its key, and numbers of first weights stand in the order of keys.
use Rattle.std.proofs.Common.{◌≡◌, ℕ, zero, suc, ◌+◌, ◌-◌, ◌*◌, ◌/◌, ◌%◌, ◌^◌, ◌<◌, ◌≤◌, List, [], ◌∷◌, ◌++◌, length, refl, sym, ap, subst, ◌∙◌, append_assoc, arith, inl, inr, lit<, mul_comm, add-one, Bool, true, false, Option, Some, None}
use Rattle.std.specs.List.{AllByRecursion}
use Rattle.std.proofs.lemmas.Bool.{cases_lt, le-ltb, lt-ltb}
use Rattle.std.proofs.lemmas.Cmp.{nat_cmp_total, tied_itself}
use Rattle.std.proofs.lemmas.Bool.Decides.{nat_tests}
use Rattle.std.proofs.lemmas.List.{take_at, drop_at}
use Rattle.std.proofs.Math.Nat.{mul-le-mul_left, pow-suc, pow-le-pow_right, add-mul, mul_assoc}
use Rattle.std.specs.Ordering.{nat_cmp, ordering_then, is_ne}
use Rattle.std.specs.Cmp.Lexicographic.{slice_cmp}
use Rattle.std.specs.declared.cmp.Ordering.{Ordering}
use Rattle.std.specs.declared.cmp.Ordering.TheVariants.{Less, Equal, Greater}
use Rattle.myi_base.specs.Numbers.{AreBytes}
use Rattle.myi_base.proofs.CallerLemmas.{bytes-take, bytes-drop}
use Rattle.myi_keys.specs.declared.values.KeySeg.{KeySeg}
use Rattle.myi_keys.specs.declared.values.KeySeg.TheVariants.{Absent, Weights}
use Rattle.myi_keys.specs.Codes.{number_code, seg_code, key_code, HasBytes}
use denote.Ref.{Bor}
use Rattle.std.specs.Option.{is_some, option_copied}
use Rattle.myi_keys.specs.Limits.{is_complete, IsKey}
use Rattle.myi_keys.specs.Order.{seg_cmp, key_cmp}
use Rattle.myi_keys.specs.Comparing.{wide_number_front, number_front, seg_front, seg_front_by, segs_front, key_front, seg_with, weights_number, seg_prefix, key_prefix, IsCode, AreAlike}

-- ---- a code is read to its key

pub number_front_again : (n : ℕ) (rest : List ℕ) → number_front (number_code n ++ rest) ≡ (n, rest)
unfolding number_front
number_front_again n rest =
    elim (cases_lt n 255) [
      | inl small ↦ let t = lt-ltb n 255 small in rw (t, t) refl
      | inr large ↦
          let t = le-ltb n 255 large in
          let whole : n / 256 * 256 + n % 256 ≡ n = omega arith in
          rw (t, whole) refl
    ]

weights_again : (w rest : List ℕ) → seg_front_by (suc (length w)) (w ++ rest) ≡ (Weights w, rest)
weights_again w rest = rw (take_at w rest (length w) refl, drop_at w rest (length w) refl) refl

pub seg_front_again : (seg : KeySeg) (rest : List ℕ) → seg_front (seg_code seg ++ rest) ≡ (seg, rest)
unfolding seg_front number_front
seg_front_again Absent rest = refl
seg_front_again (Weights w) rest =
    ap seg_front (append_assoc (number_code (length w + 1)) w rest)
    ∙ rw (number_front_again (length w + 1) (w ++ rest)) (let one : length w + 1 ≡ suc (length w) = omega arith in rw one (weights_again w rest))

pub segs_more : (n : ℕ) (bytes : List ℕ) → 0 < length bytes → segs_front (suc n) bytes ≡ (seg_front bytes).0 ∷ segs_front n (seg_front bytes).1
unfolding segs_front
segs_more n [] some = absurd (omega arith)
segs_more n (b ∷ bs) some = refl

pub segs_none : (n : ℕ) → segs_front n [] ≡ []
unfolding segs_front
segs_none zero = refl
segs_none (suc n) = refl

seg_code_some : (seg : KeySeg) (rest : List ℕ) → 0 < length (seg_code seg ++ rest)
seg_code_some Absent rest = omega arith
seg_code_some (Weights w) rest =
    elim (cases_lt (length w + 1) 255) [
      | inl small ↦ rw (lt-ltb (length w + 1) 255 small) (omega arith)
      | inr large ↦ rw (le-ltb (length w + 1) 255 large) (omega arith)
    ]

pub segs_again : (n : ℕ) (key : List KeySeg) → length key ≤ n → segs_front n (key_code key) ≡ key
segs_again n [] few = segs_none n
segs_again zero (seg ∷ key) few = absurd (omega arith)
segs_again (suc n) (seg ∷ key) few =
    segs_more n (seg_code seg ++ key_code key) (seg_code_some seg (key_code key))
    ∙ rw (seg_front_again seg (key_code key)) (ap (λ segs. seg ∷ segs) (segs_again n key (omega arith)))

pub key_again : (key : List KeySeg) → length key ≤ 16 → key_front (key_code key) ≡ key
unfolding key_front
key_again key few = segs_again 16 key few

pub front_again : (key : List KeySeg) → IsKey key → key_front (key_code key) ≡ key
front_again key is = key_again key is.0

-- a key's code is read to a key whose code it is
pub code_is : (code : List ℕ) (key : List KeySeg) → IsKey key → code ≡ key_code key → IsCode code × (key_front code ≡ key)
code_is code key is coded =
    let read : key_front code ≡ key = ap key_front coded ∙ key_again key is.0 in
    (record { key = rw read is; written = rw read coded }, read)

-- ---- numbers of first weights

bytes-tail : (b : ℕ) (bs : List ℕ) → AreBytes (b ∷ bs) → AreBytes bs
bytes-tail b bs bytes i = bytes (suc i)

shifted : (a b p : ℕ) → b < a → b * p + p ≤ a * p
shifted a b p less =
    let more : p * (b + 1) ≤ p * a = mul-le-mul_left p (omega arith) in
    omega (arith, more)

weights_none : (n : ℕ) → weights_number n [] ≡ 0
weights_none zero = refl
weights_none (suc n) = refl

pub number_below : (n : ℕ) (w : List ℕ) → AreBytes w → weights_number n w < 256 ^ n
number_below zero w bytes = lit< tt
number_below (suc n) [] bytes = omega (arith, number_below n [] bytes, pow-suc 256 n, weights_none n)
number_below (suc n) (b ∷ w) bytes = omega (arith, number_below n w (bytes-tail b w bytes), shifted 256 b (256 ^ n) (bytes 0), pow-suc 256 n, mul_comm 256 (256 ^ n))

digits_apart : (a b p r s : ℕ) → s < p → b < a → a * p + r < b * p + s → ⊥
digits_apart a b p r s few less sum = omega (arith, shifted a b p less)

digits_same : (a p r s : ℕ) → a * p + r < a * p + s → r < s
digits_same a p r s sum = omega arith

number_orders : (n : ℕ) (v w : List ℕ) → AreBytes v → AreBytes w → weights_number n v < weights_number n w → slice_cmp nat_cmp v w ≡ Less
number_orders zero v w some other less = absurd (omega arith)
number_orders (suc n) [] [] some other less = absurd (omega arith)
number_orders (suc n) [] (b ∷ w) some other less = refl
number_orders (suc n) (a ∷ v) [] some other less = absurd (omega arith)
number_orders (suc n) (a ∷ v) (b ∷ w) some other less = by (number_orders n v w (bytes-tail a v some) (bytes-tail b w other)) (nat_cmp a b) refl
  where
    by : (weights_number n v < weights_number n w → slice_cmp nat_cmp v w ≡ Less) → (o : Ordering) → nat_cmp a b ≡ o → ordering_then o (slice_cmp nat_cmp v w) ≡ Less
    by others Less is = refl
    by others Equal is =
        let same : a ≡ b = grind (arith, nat_tests) in
        let less-same : a * 256 ^ n + weights_number n v < a * 256 ^ n + weights_number n w = subst (λ (c : ℕ). a * 256 ^ n + weights_number n v < c * 256 ^ n + weights_number n w) (sym same) less in
        others (digits_same a (256 ^ n) (weights_number n v) (weights_number n w) less-same)
    by others Greater is =
        let more : b < a = grind (arith, nat_tests) in
        absurd (digits_apart a b (256 ^ n) (weights_number n v) (weights_number n w) (number_below n w (bytes-tail b w other)) more less)

prefix_orders : (one other : List KeySeg) → AllByRecursion HasBytes one → AllByRecursion HasBytes other → key_prefix one < key_prefix other → key_cmp one other ≡ Less
unfolding key_prefix
prefix_orders [] [] bytes others less = absurd (omega arith)
prefix_orders [] (t ∷ other) bytes others less = refl
prefix_orders (s ∷ one) [] bytes others less = absurd (omega arith)
prefix_orders (s ∷ one) (t ∷ other) bytes others less = rw (segs s t bytes.0 others.0 less) refl
  where
    segs : (s t : KeySeg) → HasBytes s → HasBytes t → seg_prefix s < seg_prefix t → seg_cmp s t ≡ Less
    segs Absent Absent is isnt less = absurd (omega arith)
    segs Absent (Weights w) is isnt less = refl
    segs (Weights v) Absent is isnt less = absurd (omega arith)
    segs (Weights v) (Weights w) is isnt less = number_orders 8 v w is isnt less

-- ---- what bytes stand for has bytes

wide_bytes : (bs : List ℕ) → AreBytes bs → AreBytes (wide_number_front bs).1
wide_bytes [] bytes = bytes
wide_bytes (h ∷ []) bytes = bytes-tail h [] bytes
wide_bytes (h ∷ l ∷ bs) bytes = λ i. bytes (suc (suc i))

seg_by_bytes : (n : ℕ) (bytes : List ℕ) → AreBytes bytes → HasBytes (seg_front_by n bytes).0 × AreBytes (seg_front_by n bytes).1
seg_by_bytes zero bytes are = (tt, are)
seg_by_bytes (suc n) bytes are = (bytes-take n bytes are, bytes-drop n bytes are)

number_bytes : (bytes : List ℕ) → AreBytes bytes → AreBytes (number_front bytes).1
unfolding number_front
number_bytes [] are = are
number_bytes (b ∷ bs) are = elim (cases_lt b 255) [
  | inl small ↦ rw (lt-ltb b 255 small) (bytes-tail b bs are)
  | inr large ↦ rw (le-ltb b 255 large) (wide_bytes bs (bytes-tail b bs are))
]

seg_bytes : (bytes : List ℕ) → AreBytes bytes → HasBytes (seg_front bytes).0 × AreBytes (seg_front bytes).1
unfolding seg_front
seg_bytes bytes are = seg_by_bytes (number_front bytes).0 (number_front bytes).1 (number_bytes bytes are)

segs_bytes : (n : ℕ) (bytes : List ℕ) → AreBytes bytes → AllByRecursion HasBytes (segs_front n bytes)
unfolding segs_front
segs_bytes zero bytes are = tt
segs_bytes (suc n) [] are = tt
segs_bytes (suc n) (b ∷ bs) are = let both = seg_bytes (b ∷ bs) are in (both.0, segs_bytes n (seg_front (b ∷ bs)).1 both.1)

key_bytes : (bytes : List ℕ) → AreBytes bytes → AllByRecursion HasBytes (key_front bytes)
unfolding key_front
key_bytes bytes are = segs_bytes 16 bytes are

-- of two codes with other numbers of first weights, the one with the lesser number is first
pub prefix_less : (one other : List ℕ) → AreBytes one → AreBytes other → key_prefix (key_front one) < key_prefix (key_front other) → key_cmp (key_front one) (key_front other) ≡ Less
prefix_less one other bytes others less = prefix_orders (key_front one) (key_front other) (key_bytes one bytes) (key_bytes other others) less

-- ---- the loop of the comparison

-- where one of the two ends, the lengths decide
pub first_ends : (n : ℕ) (x y : List ℕ) → 0 < n → length x ≡ 0 → key_cmp (segs_front n x) (segs_front n y) ≡ nat_cmp (length x) (length y)
unfolding segs_front
first_ends zero x y some none = absurd (omega arith)
first_ends (suc n) [] [] some none = refl
first_ends (suc n) [] (b ∷ y) some none = grind (arith, nat_tests)
first_ends (suc n) (a ∷ x) y some none = absurd (omega arith)

pub second_ends : (n : ℕ) (x y : List ℕ) → 0 < n → length y ≡ 0 → key_cmp (segs_front n x) (segs_front n y) ≡ nat_cmp (length x) (length y)
unfolding segs_front
second_ends zero x y some none = absurd (omega arith)
second_ends (suc n) [] [] some none = refl
second_ends (suc n) (a ∷ x) [] some none = grind (arith, nat_tests)
second_ends (suc n) x (b ∷ y) some none = absurd (omega arith)

-- a segment each, and what is left
pub one_more : (i : ℕ) (x y : List ℕ) (s t : KeySeg) (rest others : List ℕ) → i < 16 → 0 < length x → 0 < length y → seg_front x ≡ (s, rest) → seg_front y ≡ (t, others)
    → key_cmp (segs_front (16 - i) x) (segs_front (16 - i) y) ≡ ordering_then (seg_cmp s t) (key_cmp (segs_front (16 - (i + 1)) rest) (segs_front (16 - (i + 1)) others))
one_more i x y s t rest others few some more first second =
    let m : 16 - i ≡ suc (16 - (i + 1)) = omega arith in
    rw (m, segs_more (16 - (i + 1)) x some, segs_more (16 - (i + 1)) y more, first, second) refl

decided : (o r : Ordering) → is_ne o ≡ true → ordering_then o r ≡ o
decided Less r is = refl
decided Equal r is = absurd cc
decided Greater r is = refl

tied : (o r : Ordering) → is_ne o ≡ false → ordering_then o r ≡ r
tied Less r is = absurd cc
tied Equal r is = refl
tied Greater r is = absurd cc

pub decides : (i : ℕ) (x y : List ℕ) (s t : KeySeg) (rest others : List ℕ) (order total : Ordering) → i < 16 → 0 < length x → 0 < length y → seg_front x ≡ (s, rest) → seg_front y ≡ (t, others)
    → order ≡ seg_cmp s t → is_ne order ≡ true → key_cmp (segs_front (16 - i) x) (segs_front (16 - i) y) ≡ total → order ≡ total
decides i x y s t rest others order total few some more first second is ne so_far =
    let step = one_more i x y s t rest others few some more first second in
    let stays : ordering_then order (key_cmp (segs_front (16 - (i + 1)) rest) (segs_front (16 - (i + 1)) others)) ≡ order = decided order _ ne in
    sym stays ∙ ap (λ o. ordering_then o (key_cmp (segs_front (16 - (i + 1)) rest) (segs_front (16 - (i + 1)) others))) is ∙ sym step ∙ so_far

pub passes : (i : ℕ) (x y : List ℕ) (s t : KeySeg) (rest others : List ℕ) (order total : Ordering) → i < 16 → 0 < length x → 0 < length y → seg_front x ≡ (s, rest) → seg_front y ≡ (t, others)
    → order ≡ seg_cmp s t → is_ne order ≡ false → key_cmp (segs_front (16 - i) x) (segs_front (16 - i) y) ≡ total
    → key_cmp (segs_front (16 - (i + 1)) rest) (segs_front (16 - (i + 1)) others) ≡ total
passes i x y s t rest others order total few some more first second is eq so_far =
    let step = one_more i x y s t rest others few some more first second in
    let left : ordering_then order (key_cmp (segs_front (16 - (i + 1)) rest) (segs_front (16 - (i + 1)) others)) ≡ key_cmp (segs_front (16 - (i + 1)) rest) (segs_front (16 - (i + 1)) others) = tied order _ eq in
    sym left ∙ ap (λ o. ordering_then o (key_cmp (segs_front (16 - (i + 1)) rest) (segs_front (16 - (i + 1)) others))) is ∙ sym step ∙ so_far

pub all_passed : (x y : List ℕ) (n : ℕ) → n ≡ 0 → key_cmp (segs_front n x) (segs_front n y) ≡ Equal
unfolding segs_front
all_passed x y zero none = refl
all_passed x y (suc n) none = absurd (omega arith)

-- ---- the loop that reads first weights

pub still_small : (i number : ℕ) → i < 8 → number < 256 ^ i → number < 256 ^ 7
still_small i number few small = let more : 256 ^ i ≤ 256 ^ 7 = pow-le-pow_right {n = 256} (lit< tt) {i = i} {j = 7} (omega arith) in omega arith

shift_in : (number w p rest : ℕ) → (number * 256 + w) * p + rest ≡ number * (p * 256) + (w * p + rest)
shift_in number w p rest =
    let one : (number * 256 + w) * p ≡ number * 256 * p + w * p = add-mul (number * 256) w p in
    let two : number * 256 * p ≡ number * (256 * p) = mul_assoc number 256 p in
    let three : 256 * p ≡ p * 256 = mul_comm 256 p in
    let four : number * (256 * p) ≡ number * (p * 256) = ap (λ q. number * q) three in
    omega (arith, one, two, four)

pub weight_read : (i number w : ℕ) (left rest : List ℕ) (total : ℕ) → i < 8 → ((n : ℕ) → weights_number (n + 1) left ≡ w * 256 ^ n + weights_number n rest)
    → number * 256 ^ (8 - i) + weights_number (8 - i) left ≡ total → (number * 256 + w) * 256 ^ (8 - (i + 1)) + weights_number (8 - (i + 1)) rest ≡ total
weight_read i number w left rest total few read so_far =
    let m : 8 - i ≡ (8 - (i + 1)) + 1 = omega arith in
    let power : 256 ^ (8 - i) ≡ 256 ^ (8 - (i + 1)) * 256 = ap (λ k. 256 ^ k) (m ∙ add-one (8 - (i + 1))) ∙ pow-suc 256 (8 - (i + 1)) in
    let one = shift_in number w (256 ^ (8 - (i + 1))) (weights_number (8 - (i + 1)) rest) in
    one ∙ ap (λ p. number * p + (w * 256 ^ (8 - (i + 1)) + weights_number (8 - (i + 1)) rest)) (sym power)
    ∙ ap (λ r. number * 256 ^ (8 - i) + r) (sym (ap (λ k. weights_number k left) m ∙ read (8 - (i + 1)))) ∙ so_far

pub more_bound : (i number w : ℕ) → number < 256 ^ i → w < 256 → number * 256 + w < 256 ^ (i + 1)
more_bound i number w small byte = rw (add-one i, pow-suc 256 i) (omega arith)

-- ---- the loop over the segments of a key

pub ends_complete : (n : ℕ) (x : List ℕ) → length x ≡ 0 → is_complete (segs_front n x) ≡ true
unfolding segs_front
ends_complete zero x none = refl
ends_complete (suc n) [] none = refl
ends_complete (suc n) (b ∷ x) none = absurd (omega arith)

pub none_left : (n : ℕ) (x : List ℕ) → n ≡ 0 → is_complete (segs_front n x) ≡ true
unfolding segs_front
none_left zero x none = refl
none_left (suc n) x none = absurd (omega arith)

pub is_absent : (i : ℕ) (x rest : List ℕ) (w : Option (Bor (List ℕ))) (total : Bool) → i < 16 → 0 < length x → seg_front x ≡ (seg_with (option_copied w), rest) → is_some w ≡ false → is_complete (segs_front (16 - i) x) ≡ total → false ≡ total
is_absent i x rest None total few some first none so_far =
    let m : 16 - i ≡ suc (16 - (i + 1)) = omega arith in
    sym (rw (m, segs_more (16 - (i + 1)) x some, first) refl) ∙ so_far
is_absent i x rest (Some w) total few some first none so_far = absurd cc

pub is_there : (i : ℕ) (x rest : List ℕ) (w : Option (Bor (List ℕ))) (total : Bool) → i < 16 → 0 < length x → seg_front x ≡ (seg_with (option_copied w), rest) → is_some w ≡ true → is_complete (segs_front (16 - i) x) ≡ total
    → is_complete (segs_front (16 - (i + 1)) rest) ≡ total
is_there i x rest None total few some first there so_far = absurd cc
is_there i x rest (Some w) total few some first there so_far =
    let m : 16 - i ≡ suc (16 - (i + 1)) = omega arith in
    let whole : is_complete (segs_front (16 - i) x) ≡ is_complete (segs_front (16 - (i + 1)) rest) = rw (m, segs_more (16 - (i + 1)) x some, first) refl in
    sym whole ∙ so_far

-- ---- codes of one length

cmp_front : (p x y : List ℕ) → slice_cmp nat_cmp (p ++ x) (p ++ y) ≡ slice_cmp nat_cmp x y
cmp_front [] x y = refl
cmp_front (b ∷ p) x y = ap (λ o. ordering_then o (slice_cmp nat_cmp (p ++ x) (p ++ y))) (tied_itself nat_cmp_total b) ∙ cmp_front p x y

then_then : (a b c : Ordering) → ordering_then a (ordering_then b c) ≡ ordering_then (ordering_then a b) c
then_then Less b c = refl
then_then Equal b c = refl
then_then Greater b c = refl

cmp_both : (v w x y : List ℕ) → length v ≡ length w → slice_cmp nat_cmp (v ++ x) (w ++ y) ≡ ordering_then (slice_cmp nat_cmp v w) (slice_cmp nat_cmp x y)
cmp_both [] [] x y long = refl
cmp_both [] (b ∷ w) x y long = absurd (omega arith)
cmp_both (a ∷ v) [] x y long = absurd (omega arith)
cmp_both (a ∷ v) (b ∷ w) x y long = ap (ordering_then (nat_cmp a b)) (cmp_both v w x y (omega arith)) ∙ then_then (nat_cmp a b) (slice_cmp nat_cmp v w) (slice_cmp nat_cmp x y)

-- codes of keys that are alike stand in byte order
pub alike_order : (one other : List KeySeg) → AreAlike one other → slice_cmp nat_cmp (key_code one) (key_code other) ≡ key_cmp one other
alike_order [] [] are = refl
alike_order [] (t ∷ other) are = absurd are
alike_order (Absent ∷ one) other are = absurd are
alike_order (Weights v ∷ one) [] are = absurd are
alike_order (Weights v ∷ one) (Absent ∷ other) are = absurd are
alike_order (Weights v ∷ one) (Weights w ∷ other) are =
    let same : number_code (length w + 1) ≡ number_code (length v + 1) = ap (λ n. number_code (n + 1)) (sym are.0) in
    ap (λ t. slice_cmp nat_cmp t (seg_code (Weights w) ++ key_code other)) (append_assoc (number_code (length v + 1)) v (key_code one))
    ∙ ap (λ t. slice_cmp nat_cmp (number_code (length v + 1) ++ (v ++ key_code one)) t) (append_assoc (number_code (length w + 1)) w (key_code other) ∙ ap (λ t. t ++ (w ++ key_code other)) same)
    ∙ cmp_front (number_code (length v + 1)) (v ++ key_code one) (w ++ key_code other)
    ∙ cmp_both v w (key_code one) (key_code other) are.0
    ∙ ap (ordering_then (slice_cmp nat_cmp v w)) (alike_order one other are.1)
