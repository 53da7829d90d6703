-- The fault that is read is the one of the first bad place.
use Rattle.std.proofs.Common.{◌≡◌, ◌⊎◌, ℕ, zero, suc, ◌+◌, ◌-◌, ◌*◌, ◌<◌, ◌≤◌, Bool, true, false, cond, ltb, Result, Ok, Err, List, [], ◌∷◌, ◌++◌, length, take, drop, refl, sym, ap, subst, ◌∙◌, append_assoc, arith, inl, inr}
use Rattle.std.specs.List.{AllByRecursion}
use Rattle.std.proofs.lemmas.Bool.{cases_lt, ltb-true, ltb-false, le-ltb, lt-ltb}
use Rattle.std.proofs.lemmas.List.{length-append}
use Rattle.std.proofs.lemmas.List.Elements.{All-from_recursion, recursion_from_All}
use Rattle.myi_base.specs.Numbers.{AreBytes}
use Rattle.myi_keys.specs.declared.values.KeySeg.{KeySeg}
use Rattle.myi_keys.specs.declared.values.KeySeg.TheVariants.{Weights}
use Rattle.myi_keys.specs.declared.codes.KeyFault.{KeyFault}
use Rattle.myi_keys.specs.declared.codes.KeyFault.TheVariants.{Short, Spelling, TooLong, Memory}
use Rattle.myi_keys.specs.Codes.{number_code, seg_code, key_code}
use Rattle.myi_keys.specs.Limits.{IsSeg}
use Rattle.myi_keys.specs.Decoding.{◌>>=◌, number_at, wide_number_at, weights_at, seg_by, seg_at, segs_at}
use Rattle.myi_keys.specs.Faults.{EndsInNumber, EndsInWeights, HasLongSpelling, BeginsLongSeg, IsBadAt, BreaksOff}
use Rattle.myi_keys.proofs.Readings.{with_front, number_takes, number_again, seg_takes, segs_before}

-- what is bad about a segment, as it begins
abbrev pub IsBadSeg : KeyFault → List ℕ → Type 0
IsBadSeg Short rest = EndsInNumber rest ⊎ EndsInWeights rest
IsBadSeg Spelling rest = HasLongSpelling rest
IsBadSeg TooLong rest = BeginsLongSeg rest
IsBadSeg Memory rest = ⊥

-- ---- what is read as a fault is bad

same_err : {A : Type 0} (d e : KeyFault) → ◌≡◌ {A = Result A KeyFault} (Err d) (Err e) → d ≡ e
same_err d e h = cc

no_ok : {A : Type 0} (x : A) (e : KeyFault) → ◌≡◌ {A = Result A KeyFault} (Ok x) (Err e) → ⊥
no_ok x e h = cc

-- an error of a bind is the first's or the second's
bind_err : {A B : Type 0} (r : Result A KeyFault) (f : A → Result B KeyFault) (d : KeyFault) → (r >>= f) ≡ Err d → (r ≡ Err d) ⊎ ((x : A) × (r ≡ Ok x) × (f x ≡ Err d))
bind_err (Ok x) f d e = inr (x, refl, e)
bind_err (Err c) f d e = inl (ap (λ (k : KeyFault). Err k) (same_err c d e))

guard_err : {A : Type 0} (b : Bool) (d e : KeyFault) (r : Result A KeyFault) → cond b (Err d) r ≡ Err e → ((b ≡ true) × (d ≡ e)) ⊎ ((b ≡ false) × (r ≡ Err e))
guard_err true d e r h = inl (refl, same_err d e h)
guard_err false d e r h = inr (refl, h)

wide_fails : (b : ℕ) (bytes : List ℕ) (d : KeyFault) → b ≡ 255 → wide_number_at bytes ≡ Err d → IsBadSeg d (b ∷ bytes)
wide_fails b [] d is e = subst (λ (k : KeyFault). IsBadSeg k (b ∷ [])) (same_err Short d e) (inl (inl (rw is refl)))
wide_fails b (h ∷ []) d is e = subst (λ (k : KeyFault). IsBadSeg k (b ∷ h ∷ [])) (same_err Short d e) (inl (inr (h, rw is refl)))
wide_fails b (h ∷ l ∷ bs) d is e = elim (guard_err (ltb (h * 256 + l) 255) Spelling d (Ok (h * 256 + l, bs)) e) [
  | inl bad ↦ subst (λ (k : KeyFault). IsBadSeg k (b ∷ h ∷ l ∷ bs)) bad.1 (h, l, bs, rw is refl, ltb-true _ _ bad.0)
  | inr good ↦ absurd (no_ok _ _ good.1)
]

number_fails : (b : ℕ) (bytes : List ℕ) (d : KeyFault) → AreBytes (b ∷ bytes) → number_at (b ∷ bytes) ≡ Err d → IsBadSeg d (b ∷ bytes)
unfolding number_at
number_fails b bytes d fits e = elim (cases_lt b 255) [
  | inl small ↦ let k = rw (lt-ltb b 255 small) at e in absurd (no_ok _ _ k)
  | inr large ↦ let k = rw (le-ltb b 255 large) at e in wide_fails b bytes d (omega (arith, fits 0)) k
]

seg_by_fails : (n : ℕ) (bytes rest : List ℕ) (d : KeyFault) → rest ≡ number_code n ++ bytes → seg_by n bytes ≡ Err d → IsBadSeg d rest
seg_by_fails zero bytes rest d parts e = absurd (no_ok _ _ e)
seg_by_fails (suc n) bytes rest d parts e =
    let one : suc n ≡ n + 1 = omega arith in
    let again : rest ≡ number_code (n + 1) ++ bytes = parts ∙ ap (λ (m : ℕ). number_code m ++ bytes) one in
    elim (guard_err (ltb 1000 n) TooLong d (cond (ltb (length bytes) n) (Err Short) (Ok (Weights (take n bytes), drop n bytes))) e) [
      | inl long ↦ subst (λ (k : KeyFault). IsBadSeg k rest) long.1 (n, bytes, again, ltb-true _ _ long.0)
      | inr few ↦ elim (guard_err (ltb (length bytes) n) Short d (Ok (Weights (take n bytes), drop n bytes)) few.1) [
        | inl cut ↦ subst (λ (k : KeyFault). IsBadSeg k rest) cut.1 (inr (n, bytes, again, ltb-false _ _ few.0, ltb-true _ _ cut.0))
        | inr good ↦ absurd (no_ok _ _ good.1)
      ]
    ]

seg_fails : (b : ℕ) (bytes : List ℕ) (d : KeyFault) → AreBytes (b ∷ bytes) → seg_at (b ∷ bytes) ≡ Err d → IsBadSeg d (b ∷ bytes)
unfolding seg_at
seg_fails b bytes d fits e = elim (bind_err (number_at (b ∷ bytes)) (λ number. seg_by number.0 number.1) d e) [
  | inl first ↦ number_fails b bytes d fits first
  | inr second ↦ seg_by_fails second.0.0 second.0.1 (b ∷ bytes) d (number_takes (b ∷ bytes) second.0.0 second.0.1 fits second.1).parts second.2
]

-- a bad segment among the first 16
placed : (d : KeyFault) (before : ℕ) (rest : List ℕ) → before < 16 → IsBadSeg d rest → IsBadAt d before rest
placed Short before rest few bad = (few, bad)
placed Spelling before rest few bad = (few, bad)
placed TooLong before rest few bad = inr (few, bad)
placed Memory before rest few bad = absurd bad

-- segments stand before the place that a reading of n more segments stops at
record Stops (d : KeyFault) (n : ℕ) (bytes : List ℕ) : Type 0 where
  before : List KeySeg
  are_segs : AllByRecursion IsSeg before
  few : length before ≤ n
  rest : List ℕ
  parts : bytes ≡ key_code before ++ rest
  bad : ((length before ≡ n) × (0 < length rest) × (d ≡ TooLong)) ⊎ ((length before < n) × IsBadSeg d rest)

later : (d : KeyFault) (n : ℕ) (bytes after : List ℕ) (seg : KeySeg) → IsSeg seg → bytes ≡ seg_code seg ++ after → Stops d n after → Stops d (suc n) bytes
later d n bytes after seg is parts stops = record {
  before = seg ∷ stops.before;
  are_segs = (is, stops.are_segs);
  few = omega (arith, stops.few);
  rest = stops.rest;
  parts = parts ∙ ap (λ (r : List ℕ). seg_code seg ++ r) stops.parts ∙ sym (append_assoc (seg_code seg) (key_code stops.before) stops.rest);
  bad = elim stops.bad [
    | inl full ↦ inl (omega (arith, full.0), full.1, full.2)
    | inr bad ↦ inr (omega (arith, bad.0), bad.1)
  ];
}

segs_stop : (n : ℕ) (bytes : List ℕ) (d : KeyFault) → AreBytes bytes → segs_at n bytes ≡ Err d → Stops d n bytes
unfolding segs_at
segs_stop n [] d fits e = absurd (no_ok _ _ e)
segs_stop zero (b ∷ bs) d fits e = record {
  before = [];
  are_segs = tt;
  few = omega arith;
  rest = b ∷ bs;
  parts = refl;
  bad = inl (refl, omega arith, sym (same_err TooLong d e));
}
segs_stop (suc n) (b ∷ bs) d fits e =
    elim (bind_err (seg_at (b ∷ bs)) (λ seg. segs_at n seg.1 >>= λ others. Ok (seg.0 ∷ others)) d e) [
      | inl first ↦ record {
        before = [];
        are_segs = tt;
        few = omega arith;
        rest = b ∷ bs;
        parts = refl;
        bad = inr (omega arith, seg_fails b bs d fits first);
      }
      | inr second ↦
          let taken = seg_takes (b ∷ bs) second.0.0 second.0.1 fits second.1 in
          elim (bind_err (segs_at n second.0.1) (λ others. Ok (second.0.0 ∷ others)) d second.2) [
            | inl others ↦ later d n (b ∷ bs) second.0.1 second.0.0 taken.1 taken.0.parts (segs_stop n second.0.1 d taken.0.fits others)
            | inr good ↦ absurd (no_ok _ _ good.2)
          ]
    ]

pub breaks_off : (bytes : List ℕ) (d : KeyFault) → AreBytes bytes → segs_at 16 bytes ≡ Err d → BreaksOff d bytes
breaks_off bytes d fits e =
    let stops = segs_stop 16 bytes d fits e in
    record {
      before = stops.before;
      are_segs = (stops.few, All-from_recursion IsSeg stops.before stops.are_segs);
      rest = stops.rest;
      parts = stops.parts;
      bad = elim stops.bad [
        | inl full ↦ subst (λ (k : KeyFault). IsBadAt k (length stops.before) stops.rest) (sym full.2) (inl (full.0, full.1))
        | inr bad ↦ placed d (length stops.before) stops.rest bad.0 bad.1
      ];
    }

-- ---- what is bad is read as its fault

long_spelling_read : (h l : ℕ) (after : List ℕ) → h * 256 + l < 255 → seg_at (255 ∷ h ∷ l ∷ after) ≡ Err Spelling
unfolding seg_at number_at
long_spelling_read h l after small = rw (lt-ltb (h * 256 + l) 255 small) refl

number_cut_read : seg_at (255 ∷ []) ≡ Err Short
unfolding seg_at number_at
number_cut_read = refl

wide_cut_read : (h : ℕ) → seg_at (255 ∷ h ∷ []) ≡ Err Short
unfolding seg_at number_at
wide_cut_read h = refl

-- a segment's number, and what comes after it
seg_number : (n : ℕ) (after : List ℕ) → seg_at (number_code (n + 1) ++ after) ≡ weights_at n after
unfolding seg_at
seg_number n after = rw (number_again (n + 1) after) (let one : n + 1 ≡ suc n = omega arith in ap (λ (k : ℕ). seg_by k after) one)

weights_cut : (n : ℕ) (part : List ℕ) → n ≤ 1000 → length part < n → weights_at n part ≡ Err Short
weights_cut n part few cut = rw (le-ltb 1000 n few, lt-ltb (length part) n cut) refl

weights_long : (n : ℕ) (after : List ℕ) → 1000 < n → weights_at n after ≡ Err TooLong
weights_long n after long = rw (lt-ltb 1000 n long) refl

bad_seg_read : (d : KeyFault) (rest : List ℕ) → IsBadSeg d rest → seg_at rest ≡ Err d
bad_seg_read Short rest bad = elim bad [
  | inl in_number ↦ elim in_number [
    | inl one ↦ ap seg_at one ∙ number_cut_read
    | inr two ↦ ap seg_at two.1 ∙ wide_cut_read two.0
  ]
  | inr in_weights ↦ ap seg_at in_weights.2 ∙ seg_number in_weights.0 in_weights.1 ∙ weights_cut in_weights.0 in_weights.1 in_weights.3 in_weights.4
]
bad_seg_read Spelling rest bad = ap seg_at bad.3 ∙ long_spelling_read bad.0 bad.1 bad.2 bad.4
bad_seg_read TooLong rest bad = ap seg_at bad.2 ∙ seg_number bad.0 bad.1 ∙ weights_long bad.0 bad.1 bad.3
bad_seg_read Memory rest bad = absurd bad

pub some_number : (n : ℕ) → 0 < length (number_code n)
some_number n =
    elim (cases_lt n 255) [
      | inl small ↦ rw (lt-ltb n 255 small) (omega arith)
      | inr large ↦ rw (le-ltb n 255 large) (omega arith)
    ]

some_rest : (d : KeyFault) (rest : List ℕ) → IsBadSeg d rest → 0 < length rest
some_rest Short rest bad = elim bad [
  | inl in_number ↦ elim in_number [
    | inl one ↦ omega (arith, ap length one)
    | inr two ↦ omega (arith, ap length two.1)
  ]
  | inr in_weights ↦ omega (arith, ap length in_weights.2, length-append (number_code (in_weights.0 + 1)) in_weights.1, some_number (in_weights.0 + 1))
]
some_rest Spelling rest bad = omega (arith, ap length bad.3)
some_rest TooLong rest bad = omega (arith, ap length bad.2, length-append (number_code (bad.0 + 1)) bad.1, some_number (bad.0 + 1))
some_rest Memory rest bad = absurd bad

segs_bad : (d : KeyFault) (n : ℕ) (rest : List ℕ) → 0 < length rest → seg_at rest ≡ Err d → segs_at (suc n) rest ≡ Err d
unfolding segs_at
segs_bad d n [] some e = absurd (omega arith)
segs_bad d n (b ∷ bs) some e = rw e refl

segs_full : (rest : List ℕ) → 0 < length rest → segs_at 0 rest ≡ Err TooLong
unfolding segs_at
segs_full [] some = absurd (omega arith)
segs_full (b ∷ bs) some = refl

-- a bad segment among the first 16 is read as its fault
bad_seg_placed : (d : KeyFault) (before : ℕ) (rest : List ℕ) → before < 16 → IsBadSeg d rest → segs_at (16 - before) rest ≡ Err d
bad_seg_placed d before rest few bad =
    let more : 16 - before ≡ suc (15 - before) = omega arith in
    ap (λ (n : ℕ). segs_at n rest) more ∙ segs_bad d (15 - before) rest (some_rest d rest bad) (bad_seg_read d rest bad)

bad_read : (d : KeyFault) (before : ℕ) (rest : List ℕ) → IsBadAt d before rest → segs_at (16 - before) rest ≡ Err d
bad_read Short before rest bad = bad_seg_placed Short before rest bad.0 bad.1
bad_read Spelling before rest bad = bad_seg_placed Spelling before rest bad.0 bad.1
bad_read TooLong before rest bad = elim bad [
  | inl full ↦ let none : 16 - before ≡ 0 = omega (arith, full.0) in ap (λ (n : ℕ). segs_at n rest) none ∙ segs_full rest full.1
  | inr long ↦ bad_seg_placed TooLong before rest long.0 long.1
]
bad_read Memory before rest bad = absurd bad

pub breaks_read : (bytes : List ℕ) (d : KeyFault) → BreaksOff d bytes → segs_at 16 bytes ≡ Err d
breaks_read bytes d broken =
    ap (segs_at 16) broken.parts
    ∙ segs_before 16 broken.before broken.rest broken.are_segs.0 (recursion_from_All IsSeg broken.before broken.are_segs.1)
    ∙ ap (with_front broken.before) (bad_read d (length broken.before) broken.rest broken.bad)
