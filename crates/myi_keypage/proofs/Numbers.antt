-- What is read as a number or a pointer is what spells it, and what spells it is read again.
use Rattle.std.proofs.Common.{◌≡◌, ℕ, suc, ◌+◌, ◌*◌, ◌/◌, ◌%◌, ◌^◌, ◌<◌, ◌≤◌, Bool, true, false, cond, ltb, Option, Some, None, List, [], ◌∷◌, ◌++◌, length, take, drop, refl, sym, ap, subst, ◌∙◌, append_assoc, arith, inl, inr}
use Rattle.std.proofs.lemmas.Bool.{cases_lt, ltb-false, le-ltb, lt-ltb}
use Rattle.std.proofs.lemmas.List.{take_at, drop_at, take-append-drop, length-append, length-take}
use Rattle.std.proofs.lemmas.Option.{some_pair_parts}
use Rattle.myi_keypage.specs.Page.{number_bytes}
use Rattle.myi_base.specs.Numbers.{num_bytes, num, AreBytes}
use Rattle.myi_base.proofs.CallerLemmas.{length-num_bytes, num-num_bytes, num-below, num_bytes-num, bytes-take, bytes-drop}
use Rattle.myi_keypage.specs.PageItems.{◌>>=◌, number_at, wide_at, piece_at, pointer_at}

pub AreBytes-rest : (b : ℕ) (bytes : List ℕ) → AreBytes (b ∷ bytes) → AreBytes bytes
AreBytes-rest b bytes h i = h (suc i)

-- the value of a step that found something
pub bind_some : {A B : Type 0} (r : Option A) (f : A → Option B) (y : B) → (r >>= f) ≡ Some y → (x : A) × (r ≡ Some x) × (f x ≡ Some y)
bind_some (Some x) f y e = (x, refl, e)
bind_some None f y e = absurd cc

-- a test that did not fail
pub guard_some : {A : Type 0} (b : Bool) (x y : A) → cond b None (Some x) ≡ Some y → (b ≡ false) × (x ≡ y)
guard_some true x y e = absurd cc
guard_some false x y e = (refl, cc)

pub chosen : {A : Type 0} (b : Bool) (x y z : A) → cond b x y ≡ z → (P : Type 0) → (b ≡ true → x ≡ z → P) → (b ≡ false → y ≡ z → P) → P
chosen true x y z e P p q = p refl e
chosen false x y z e P p q = q refl e

-- what a reader took from the front
pub record Takes (bytes text rest : List ℕ) : Type 0 where
  pub parts : bytes ≡ text ++ rest
  pub fits : AreBytes rest

pub Takes-then : (a x b y c : List ℕ) → Takes a x b → Takes b y c → Takes a (x ++ y) c
Takes-then a x b y c p q = record { parts = p.parts ∙ ap (λ (t : List ℕ). x ++ t) q.parts ∙ sym (append_assoc x y c); fits = q.fits }

-- ---- numbers

high_byte : (h l : ℕ) → l < 256 → (h * 256 + l) / 256 ≡ h
high_byte h l lt = omega arith

low_byte : (h l : ℕ) → l < 256 → (h * 256 + l) % 256 ≡ l
low_byte h l lt = omega arith

wide_takes : (b : ℕ) (bytes : List ℕ) (n : ℕ) (rest : List ℕ) → AreBytes (b ∷ bytes) → 255 ≤ b → wide_at bytes ≡ Some (n, rest) → Takes (b ∷ bytes) (number_bytes n) rest × (n < 65536)
wide_takes b [] n rest fits le e = absurd cc
wide_takes b (h ∷ []) n rest fits le e = absurd cc
wide_takes b (h ∷ l ∷ bs) n rest fits le e =
    let g = guard_some (ltb (h * 256 + l) 255) (h * 256 + l, bs) (n, rest) e in
    let n-is : h * 256 + l ≡ n = ap (λ (p : ℕ × List ℕ). p.0) g.1 in
    let rest-is : bs ≡ rest = ap (λ (p : ℕ × List ℕ). p.1) g.1 in
    let b-is : b ≡ 255 = omega (arith, fits 0) in
    let l-lt : l < 256 = fits 2 in
    let h-lt : h < 256 = fits 1 in
    let text : number_bytes (h * 256 + l) ≡ 255 ∷ h ∷ l ∷ [] = rw (g.0, high_byte h l l-lt, low_byte h l l-lt) refl in
    (record { parts = rw (b-is, ← n-is, text, rest-is) refl; fits = rw (← rest-is) (λ i. fits (suc (suc (suc i)))) }, omega arith)

pub number_takes : (bytes : List ℕ) (n : ℕ) (rest : List ℕ) → AreBytes bytes → number_at bytes ≡ Some (n, rest) → Takes bytes (number_bytes n) rest × (n < 65536)
unfolding number_at
number_takes [] n rest fits e = absurd cc
number_takes (b ∷ bytes) n rest fits e =
    chosen (ltb b 255) (Some (b, bytes)) (wide_at bytes) (Some (n, rest)) e _
    (λ lt is.
    let p = some_pair_parts b n bytes rest is in
    let text : number_bytes b ≡ b ∷ [] = rw lt refl in
    (record { parts = rw (← p.0, text, p.1) refl; fits = rw (← p.1) (AreBytes-rest b bytes fits) }, omega (arith, fits 0)))
    (λ ge is. wide_takes b bytes n rest fits (ltb-false b 255 ge) is)

pub number_again : (n : ℕ) (rest : List ℕ) → n < 65536 → number_at (number_bytes n ++ rest) ≡ Some (n, rest)
unfolding number_at
number_again n rest lt =
    elim (cases_lt n 255) [
      | inl small ↦ let t = lt-ltb n 255 small in rw (t, t) refl
      | inr large ↦
          let t = le-ltb n 255 large in
          let whole : n / 256 * 256 + n % 256 ≡ n = omega arith in
          rw (t, whole, t) refl
    ]

-- ---- pieces and pointers

pub piece_takes : (n : ℕ) (bytes text rest : List ℕ) → AreBytes bytes → piece_at n bytes ≡ Some (text, rest) → Takes bytes text rest × (length text ≡ n) × AreBytes text
piece_takes n bytes text rest fits e =
    let g = guard_some (ltb (length bytes) n) (take n bytes, drop n bytes) (text, rest) e in
    let long : n ≤ length bytes = ltb-false _ _ g.0 in
    let text-is : take n bytes ≡ text = ap (λ (p : List ℕ × List ℕ). p.0) g.1 in
    let rest-is : drop n bytes ≡ rest = ap (λ (p : List ℕ × List ℕ). p.1) g.1 in (
      record { parts = rw (← text-is, ← rest-is) (sym (take-append-drop n bytes)); fits = rw (← rest-is) (bytes-drop n bytes fits) },
      rw (← text-is) (omega (arith, length-take n bytes)),
      rw (← text-is) (bytes-take n bytes fits),
    )

pub piece_again : (text rest : List ℕ) → piece_at (length text) (text ++ rest) ≡ Some (text, rest)
piece_again text rest =
    let long : ltb (length (text ++ rest)) (length text) ≡ false = le-ltb _ _ (omega (arith, length-append text rest)) in
    rw (long, take_at text rest (length text) refl, drop_at text rest (length text) refl) refl

pub pointer_takes : (n : ℕ) (bytes : List ℕ) (x : ℕ) (rest : List ℕ) → AreBytes bytes → pointer_at n bytes ≡ Some (x, rest) → Takes bytes (num_bytes n x) rest × (x < 256 ^ n)
unfolding pointer_at
pointer_takes n bytes x rest fits e =
    let g = guard_some (ltb (length bytes) n) (num n bytes, drop n bytes) (x, rest) e in
    let long : n ≤ length bytes = ltb-false _ _ g.0 in
    subst (λ (p : ℕ × List ℕ). Takes bytes (num_bytes n p.0) p.1 × (p.0 < 256 ^ n)) g.1
    (record { parts = rw (num_bytes-num n bytes fits long) (sym (take-append-drop n bytes)); fits = bytes-drop n bytes fits }, num-below n bytes fits)

pub pointer_again : (n x : ℕ) (rest : List ℕ) → x < 256 ^ n → pointer_at n (num_bytes n x ++ rest) ≡ Some (x, rest)
unfolding pointer_at
pointer_again n x rest lt =
    let len = length-num_bytes n x in
    let long : ltb (length (num_bytes n x ++ rest)) n ≡ false = le-ltb _ _ (omega (arith, length-append (num_bytes n x) rest)) in
    rw (long, num-num_bytes n x rest lt, drop_at (num_bytes n x) rest n len) refl
