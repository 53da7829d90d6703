-- What is read from a code is coded so, and what was coded is read again.
use Rattle.std.proofs.Common.{◌≡◌, ℕ, zero, suc, ◌+◌, ◌-◌, ◌*◌, ◌/◌, ◌%◌, ◌<◌, ◌≤◌, Bool, true, false, cond, ltb, Result, Ok, Err, List, [], ◌∷◌, ◌++◌, length, take, drop, refl, sym, ap, subst, ◌∙◌, append_assoc, arith, inl, inr}
use Rattle.std.specs.List.{AllByRecursion}
use Rattle.std.proofs.lemmas.Bool.{cases_lt, ltb-false, le-ltb, lt-ltb}
use Rattle.std.proofs.lemmas.List.{take_at, drop_at, take-append-drop, length-append, length-take, append-nil}
use Rattle.myi_base.specs.Numbers.{AreBytes}
use Rattle.myi_base.proofs.CallerLemmas.{bytes-drop}
use Rattle.myi_keys.specs.declared.values.KeySeg.{KeySeg}
use Rattle.myi_keys.specs.declared.values.KeySeg.TheVariants.{Absent, Weights}
use Rattle.myi_keys.specs.declared.codes.KeyFault.{KeyFault}
use Rattle.myi_keys.specs.declared.codes.KeyFault.TheVariants.{Short, Spelling, TooLong, Memory}
use Rattle.myi_keys.specs.Codes.{number_code, seg_code, key_code}
use Rattle.myi_keys.specs.Limits.{IsSeg}
use Rattle.myi_keys.specs.Decoding.{◌>>=◌, number_at, wide_number_at, weights_at, seg_by, seg_at, segs_at, Fails}

-- segments before those that are read
abbrev pub with_front : List KeySeg → Result (List KeySeg) KeyFault → Result (List KeySeg) KeyFault
with_front front read = read >>= λ x. Ok (front ++ x)

pub bind_ok : {A B : Type 0} (r : Result A KeyFault) (f : A → Result B KeyFault) (y : B) → (r >>= f) ≡ Ok y → (x : A) × (r ≡ Ok x) × (f x ≡ Ok y)
bind_ok (Ok x) f y e = (x, refl, e)
bind_ok (Err d) f y e = absurd cc

chosen : {A : Type 0} (b : Bool) (x y z : A) → cond b x y ≡ z → (P : Type 0) → (b ≡ true → x ≡ z → P) → (b ≡ false → y ≡ z → P) → P
chosen true x y z e P p q = p refl e
chosen false x y z e P p q = q refl e

same_ok : {A : Type 0} (x y : A) → ◌≡◌ {A = Result A KeyFault} (Ok x) (Ok y) → x ≡ y
same_ok x y e = cc

guard_then : {A : Type 0} (b : Bool) (d : KeyFault) (r : Result A KeyFault) (y : A) → cond b (Err d) r ≡ Ok y → (b ≡ false) × (r ≡ Ok y)
guard_then true d r y e = absurd cc
guard_then false d r y e = (refl, e)

pub record Takes (bytes text rest : List ℕ) : Type 0 where
  pub parts : bytes ≡ text ++ rest
  pub fits : AreBytes rest

wide_takes : (b : ℕ) (bytes : List ℕ) (n : ℕ) (rest : List ℕ) → AreBytes (b ∷ bytes) → 255 ≤ b → wide_number_at bytes ≡ Ok (n, rest) → Takes (b ∷ bytes) (number_code n) rest
wide_takes b [] n rest fits le e = absurd cc
wide_takes b (h ∷ []) n rest fits le e = absurd cc
wide_takes b (h ∷ l ∷ bs) n rest fits le e =
    let g = guard_then (ltb (h * 256 + l) 255) Spelling (Ok (h * 256 + l, bs)) (n, rest) e in
    let b-is : b ≡ 255 = omega (arith, fits 0) in
    let l-lt : l < 256 = fits 2 in
    let hi : (h * 256 + l) / 256 ≡ h = omega arith in
    let lo : (h * 256 + l) % 256 ≡ l = omega arith in
    let text : number_code (h * 256 + l) ≡ 255 ∷ h ∷ l ∷ [] = rw (g.0, hi, lo) refl in
    subst (λ (p : ℕ × List ℕ). Takes (b ∷ h ∷ l ∷ bs) (number_code p.0) p.1) (same_ok _ _ g.1) (record { parts = rw (b-is, text) refl; fits = λ i. fits (suc (suc (suc i))) })

pub number_takes : (bytes : List ℕ) (n : ℕ) (rest : List ℕ) → AreBytes bytes → number_at bytes ≡ Ok (n, rest) → Takes bytes (number_code n) rest
unfolding number_at
number_takes [] n rest fits e = absurd cc
number_takes (b ∷ bytes) n rest fits e =
    chosen _ _ _ _ e _
    (λ lt is. subst (λ (p : ℕ × List ℕ). Takes (b ∷ bytes) (number_code p.0) p.1) (same_ok _ _ is) (record { parts = rw lt refl; fits = λ i. fits (suc i) }))
    (λ ge is. wide_takes b bytes n rest fits (ltb-false b 255 ge) is)

pub number_again : (n : ℕ) (rest : List ℕ) → number_at (number_code n ++ rest) ≡ Ok (n, rest)
unfolding number_at
number_again n rest =
    elim (cases_lt n 255) [
      | inl small ↦ let t = lt-ltb n 255 small in rw (t, t) refl
      | inr large ↦
          let t = le-ltb n 255 large in
          let whole : n / 256 * 256 + n % 256 ≡ n = omega arith in
          rw (t, whole, t) refl
    ]

seg_by_takes : (n : ℕ) (bytes : List ℕ) (seg : KeySeg) (rest : List ℕ) → AreBytes bytes → seg_by n bytes ≡ Ok (seg, rest) → (number_code n ++ bytes ≡ seg_code seg ++ rest) × AreBytes rest × IsSeg seg
seg_by_takes zero bytes seg rest fits e =
    subst (λ (p : KeySeg × List ℕ). (number_code 0 ++ bytes ≡ seg_code p.0 ++ p.1) × AreBytes p.1 × IsSeg p.0) (same_ok _ _ e) (refl, fits, tt)
seg_by_takes (suc n) bytes seg rest fits e =
    let g = guard_then (ltb 1000 n) TooLong (cond (ltb (length bytes) n) (Err Short) (Ok (Weights (take n bytes), drop n bytes))) (seg, rest) e in
    let k = guard_then (ltb (length bytes) n) Short (Ok (Weights (take n bytes), drop n bytes)) (seg, rest) g.1 in
    let long : n ≤ length bytes = ltb-false _ _ k.0 in
    let small : n ≤ 1000 = ltb-false _ _ g.0 in
    let len : length (take n bytes) ≡ n = omega (arith, length-take n bytes) in
    let one : length (take n bytes) + 1 ≡ suc n = omega arith in
    subst (λ (p : KeySeg × List ℕ). (number_code (suc n) ++ bytes ≡ seg_code p.0 ++ p.1) × AreBytes p.1 × IsSeg p.0) (same_ok _ _ k.1) (
      rw one (ap (λ (t : List ℕ). number_code (suc n) ++ t) (sym (take-append-drop n bytes)) ∙ sym (append_assoc (number_code (suc n)) (take n bytes) (drop n bytes))),
      bytes-drop n bytes fits,
      omega arith,
    )

pub seg_takes : (bytes : List ℕ) (seg : KeySeg) (rest : List ℕ) → AreBytes bytes → seg_at bytes ≡ Ok (seg, rest) → Takes bytes (seg_code seg) rest × IsSeg seg
unfolding seg_at
seg_takes bytes seg rest fits e =
    let b = bind_ok _ _ _ e in
    let t = number_takes bytes b.0.0 b.0.1 fits b.1 in
    let s = seg_by_takes b.0.0 b.0.1 seg rest t.fits b.2 in
    (record { parts = t.parts ∙ s.0; fits = s.1 }, s.2)

seg_by_again : (w rest : List ℕ) → length w ≤ 1000 → weights_at (length w) (w ++ rest) ≡ Ok (Weights w, rest)
seg_by_again w rest le =
    rw (le-ltb _ _ le, le-ltb (length (w ++ rest)) (length w) (omega (arith, length-append w rest)), take_at w rest (length w) refl, drop_at w rest (length w) refl) refl

pub seg_again : (seg : KeySeg) (rest : List ℕ) → IsSeg seg → seg_at (seg_code seg ++ rest) ≡ Ok (seg, rest)
unfolding seg_at number_at
seg_again Absent rest h = refl
seg_again (Weights w) rest h =
    ap seg_at (append_assoc (number_code (length w + 1)) w rest) ∙ rw (number_again (length w + 1) (w ++ rest)) (let one : length w + 1 ≡ suc (length w) = omega arith in rw one (seg_by_again w rest h))

pub segs_take : (n : ℕ) (bytes : List ℕ) (segs : List KeySeg) → AreBytes bytes → segs_at n bytes ≡ Ok segs → (bytes ≡ key_code segs) × (length segs ≤ n) × AllByRecursion IsSeg segs
unfolding segs_at
segs_take n [] segs fits e = subst (λ (s : List KeySeg). ([] ≡ key_code s) × (length s ≤ n) × AllByRecursion IsSeg s) (same_ok _ _ e) (refl, omega arith, tt)
segs_take zero (b ∷ bs) segs fits e = absurd cc
segs_take (suc n) (b ∷ bs) segs fits e =
    let a = bind_ok _ _ _ e in
    let o = bind_ok _ _ _ a.2 in
    let t = seg_takes (b ∷ bs) a.0.0 a.0.1 fits a.1 in
    let again = segs_take n a.0.1 o.0 t.0.fits o.1 in
    subst (λ (s : List KeySeg). (b ∷ bs ≡ key_code s) × (length s ≤ suc n) × AllByRecursion IsSeg s) (same_ok _ _ o.2)
    (t.0.parts ∙ ap (λ (r : List ℕ). seg_code a.0.0 ++ r) again.0, omega (arith, again.1), (t.1, again.2))

pub segs_more : (n : ℕ) (seg : KeySeg) (bytes rest : List ℕ) → 0 < length bytes → seg_at bytes ≡ Ok (seg, rest) → segs_at (suc n) bytes ≡ (segs_at n rest >>= λ others. Ok (seg ∷ others))
unfolding segs_at
segs_more n seg [] rest lt e = absurd (omega arith)
segs_more n seg (b ∷ bs) rest lt e = rw e refl

segs_nil : (n : ℕ) → segs_at n [] ≡ Ok []
unfolding segs_at
segs_nil zero = refl
segs_nil (suc n) = refl

pub seg_code_some : (seg : KeySeg) → 0 < length (seg_code seg)
seg_code_some Absent = omega arith
seg_code_some (Weights w) =
    elim (cases_lt (length w + 1) 255) [
      | inl small ↦ rw (lt-ltb (length w + 1) 255 small) (omega arith)
      | inr large ↦ rw (le-ltb (length w + 1) 255 large) (omega arith)
    ]

regroup : (front : List KeySeg) (seg : KeySeg) (read : Result (List KeySeg) KeyFault) → with_front front (read >>= λ x. Ok (seg ∷ x)) ≡ with_front (front ++ seg ∷ []) read
regroup front seg (Ok x) = ap (λ (segs : List KeySeg). Ok segs) (sym (append_assoc front (seg ∷ []) x))
regroup front seg (Err f) = refl

pub no_front : (read : Result (List KeySeg) KeyFault) → read ≡ with_front [] read
no_front (Ok x) = refl
no_front (Err f) = refl

onto : (seg : KeySeg) (segs : List KeySeg) (read : Result (List KeySeg) KeyFault) → (with_front segs read >>= λ others. Ok (seg ∷ others)) ≡ with_front (seg ∷ segs) read
onto seg segs (Ok x) = refl
onto seg segs (Err f) = refl

-- whole segments are read first, and then what comes after them
pub segs_before : (n : ℕ) (segs : List KeySeg) (rest : List ℕ) → length segs ≤ n → AllByRecursion IsSeg segs → segs_at n (key_code segs ++ rest) ≡ with_front segs (segs_at (n - length segs) rest)
segs_before n [] rest few are = let all : n - 0 ≡ n = omega arith in rw all (no_front (segs_at n rest))
segs_before zero (seg ∷ segs) rest few are = absurd (omega arith)
segs_before (suc n) (seg ∷ segs) rest few are =
    let some : 0 < length (seg_code seg ++ (key_code segs ++ rest)) = omega (arith, seg_code_some seg, length-append (seg_code seg) (key_code segs ++ rest)) in
    ap (segs_at (suc n)) (append_assoc (seg_code seg) (key_code segs) rest)
    ∙ segs_more n seg (seg_code seg ++ (key_code segs ++ rest)) (key_code segs ++ rest) some (seg_again seg (key_code segs ++ rest) are.0)
    ∙ ap (λ (r : Result (List KeySeg) KeyFault). r >>= λ others. Ok (seg ∷ others)) (segs_before n segs rest (omega arith) are.1)
    ∙ onto seg segs (segs_at (n - length segs) rest)
    ∙ (let less : n - length segs ≡ suc n - length (seg ∷ segs) = omega arith in ap (λ (m : ℕ). with_front (seg ∷ segs) (segs_at m rest)) less)

pub segs_again : (n : ℕ) (segs : List KeySeg) → length segs ≤ n → AllByRecursion IsSeg segs → segs_at n (key_code segs) ≡ Ok segs
segs_again n segs few are =
    ap (segs_at n) (sym (append-nil (key_code segs))) ∙ segs_before n segs [] few are ∙ rw (segs_nil (n - length segs)) (ap (λ (s : List KeySeg). Ok s) (append-nil segs))

-- ---- the loop of the reader

pub goes_on : (front : List KeySeg) (count : ℕ) (bytes : List ℕ) (seg : KeySeg) (after : List ℕ) (total : Result (List KeySeg) KeyFault) → count < 16 → 0 < length bytes → seg_at bytes ≡ Ok (seg, after)
    → with_front front (segs_at (16 - count) bytes) ≡ total → with_front (front ++ seg ∷ []) (segs_at (16 - (count + 1)) after) ≡ total
goes_on front count bytes seg after total lt some h so_far =
    let k : 16 - count ≡ suc (16 - (count + 1)) = omega arith in
    sym (rw (k, segs_more (16 - (count + 1)) seg bytes after some h) (regroup front seg (segs_at (16 - (count + 1)) after))) ∙ so_far

pub too_many : (front : List KeySeg) (count : ℕ) (bytes : List ℕ) (total : Result (List KeySeg) KeyFault) → count ≡ 16 → 0 < length bytes → with_front front (segs_at (16 - count) bytes) ≡ total → total ≡ Err TooLong
unfolding segs_at
too_many front count [] total e some so_far = absurd (omega arith)
too_many front count (b ∷ bs) total e some so_far = let k : 16 - count ≡ 0 = omega arith in sym so_far ∙ rw k refl

err_first : (f : KeyFault) (front : List KeySeg) (count : ℕ) (bytes : List ℕ) (total : Result (List KeySeg) KeyFault) → count < 16 → 0 < length bytes → seg_at bytes ≡ Err f → with_front front (segs_at (16 - count) bytes) ≡ total → total ≡ Err f
unfolding segs_at
err_first f front count [] total lt some h so_far = absurd (omega arith)
err_first f front count (b ∷ bs) total lt some h so_far =
    let k : 16 - count ≡ suc (16 - (count + 1)) = omega arith in
    sym so_far ∙ rw (k, h) refl

pub ends : (e : KeyFault) (front : List KeySeg) (count : ℕ) (bytes : List ℕ) (total : Result (List KeySeg) KeyFault) → count < 16 → 0 < length bytes → Fails e (seg_at bytes) → with_front front (segs_at (16 - count) bytes) ≡ total → Fails e total
ends Memory front count bytes total lt some h so_far = tt
ends Short front count bytes total lt some h so_far = err_first Short front count bytes total lt some h so_far
ends Spelling front count bytes total lt some h so_far = err_first Spelling front count bytes total lt some h so_far
ends TooLong front count bytes total lt some h so_far = err_first TooLong front count bytes total lt some h so_far

pub is_done : (front : List KeySeg) (count : ℕ) (bytes : List ℕ) (total : Result (List KeySeg) KeyFault) → length bytes ≡ 0 → with_front front (segs_at (16 - count) bytes) ≡ total → total ≡ Ok front
is_done front count [] total none so_far = sym so_far ∙ rw (segs_nil (16 - count)) (ap (λ (s : List KeySeg). Ok s) (append-nil front))
is_done front count (b ∷ bs) total none so_far = absurd (omega arith)
