-- The spelling packs its row, no packing is shorter, and what is packed fits.
use Rattle.std.proofs.Common.{◌≡◌, ℕ, zero, suc, ◌+◌, ◌-◌, ◌/◌, ◌%◌, ◌^◌, ◌<◌, ◌≤◌, Bool, true, false, cond, List, [], ◌∷◌, ◌++◌, length, replicate, get_or, refl, ap, ◌∙◌, arith, inl, inr, ◌⊎◌, length-append}
use Rattle.std.specs.Prelude.{◌&&◌, ◌||◌, ◌==◌, nat_lt, nat_le}
use Rattle.std.proofs.lemmas.Bool.{leb-true, leb-false, le-leb, ltb-true, ltb-false, lt-ltb, le-ltb, lt-leb, eqb-true, eq-eqb, cases_lt}
use Rattle.std.specs.List.{suffix_len}
use Rattle.std.proofs.lemmas.List.{length-replicate, get_or-take}
use Rattle.std.proofs.Math.Nat.{one-le-pow}
use Rattle.myi_pack.proofs.SpellingLemmas.{length-slot_bytes}
use Rattle.myi_base.specs.Numbers.{num_bytes, low_num_bytes}
use Rattle.myi_base.specs.Blanks.{is_blank, without_blanks}
use Rattle.myi_base.proofs.CallerLemmas.{length-num_bytes, blanks_short, blanks_only, no_blank_left}
use Rattle.myi_defs.specs.declared.types.RowFormat.TheVariants.{Static, Dynamic}
use Rattle.myi_defs.specs.declared.types.FieldKind.{FieldKind}
use Rattle.myi_defs.specs.declared.types.FieldKind.TheVariants.{Normal, SkipEndspace, SkipPrespace, SkipZero, Blob, Varchar}
use Rattle.myi_pack.specs.Lengths.{IsSkipLength, IsVarcharLength, length_bytes}
use Rattle.myi_pack.specs.Packed.{spaces, IsPadded, IsLed, PacksField, FillsField}
use Rattle.myi_pack.specs.Spelling.{is_all, trimmed_start, skip_length, is_shorter, skipped_bytes, varchar_length, field_flag, field_bytes, slot_bytes, fits_field}

both : (a b : Bool) → (a && b) ≡ true → (a ≡ true) × (b ≡ true)
both true b e = (refl, e)
both false b e = absurd cc

-- ---- spaces and zeros

all-one : (byte : ℕ) (v : List ℕ) → is_all byte v ≡ true → v ≡ replicate (length v) byte
all-one byte [] e = refl
all-one byte (x ∷ v) e =
    let b = both (x == byte) (is_all byte v) e in
    let z : x ≡ byte = eqb-true _ _ b.0 in
    rw z (ap (λ (t : List ℕ). byte ∷ t) (all-one byte v b.1))

all-replicate : (byte m : ℕ) → is_all byte (replicate m byte) ≡ true
all-replicate byte zero = refl
all-replicate byte (suc m) = let e : (byte == byte) ≡ true = eq-eqb byte byte refl in rw (e, all-replicate byte m) refl

end-short : (v : List ℕ) → length (without_blanks v) ≤ length v
end-short v = omega (arith, blanks_short v)

end-again : (v : List ℕ) → v ≡ without_blanks v ++ spaces (length v - length (without_blanks v))
end-again v = blanks_only v

spaces-at : (m i : ℕ) → i < m → get_or (spaces m) i 0 ≡ 32
spaces-at zero i inside = absurd (omega arith)
spaces-at (suc m) zero inside = refl
spaces-at (suc m) (suc i) inside = spaces-at m i (omega arith)

behind : (c : List ℕ) (m i : ℕ) → length c ≤ i → i < length c + m → get_or (c ++ spaces m) i 0 ≡ 32
behind [] m i after inside = spaces-at m i (omega arith)
behind (x ∷ c) m zero after inside = absurd (omega arith)
behind (x ∷ c) m (suc i) after inside = behind c m i (omega arith) (omega arith)

end-least : (c : List ℕ) (m : ℕ) → length (without_blanks (c ++ spaces m)) ≤ length c
end-least c m = elim (cases_lt (length c) (length (without_blanks (c ++ spaces m)))) [
  | inr few ↦ few
  | inl more ↦
      let b = c ++ spaces m in
      let w = without_blanks b in
      let i : ℕ = length w - 1 in
      let front : get_or w i 0 ≡ get_or b i 0 = get_or-take (length b - suffix_len is_blank b) b i 0 (omega (arith, blanks_short b)) in
      let long : length b ≡ length c + m = length-append c (spaces m) ∙ ap (λ (n : ℕ). length c + n) (length-replicate m 32) in
      absurd (no_blank_left b (omega (arith, more)) (front ∙ behind c m i (omega (arith, more)) (omega (arith, more, blanks_short b, long))))
]

start-short : (v : List ℕ) → length (trimmed_start v) ≤ length v
start-short [] = omega arith
start-short (x ∷ v) = by (x == 32) (start-short v)
  where
    by : (b : Bool) → length (trimmed_start v) ≤ length v → length (cond b (trimmed_start v) (x ∷ v)) ≤ suc (length v)
    by true h = omega arith
    by false h = omega arith

start-again : (v : List ℕ) → v ≡ spaces (length v - length (trimmed_start v)) ++ trimmed_start v
start-again [] = refl
start-again (x ∷ v) = by (x == 32) refl (start-short v) (start-again v)
  where
    by : (b : Bool) → (x == 32) ≡ b → length (trimmed_start v) ≤ length v → v ≡ spaces (length v - length (trimmed_start v)) ++ trimmed_start v → x ∷ v ≡ spaces (length (x ∷ v) - length (cond b (trimmed_start v) (x ∷ v))) ++ cond b (trimmed_start v) (x ∷ v)
    by true e s h =
        let n : suc (length v - length (trimmed_start v)) ≡ length (x ∷ v) - length (trimmed_start v) = omega arith in
        ap (λ (y : ℕ). y ∷ v) (eqb-true _ _ e) ∙ ap (λ (t : List ℕ). 32 ∷ t) h ∙ ap (λ (k : ℕ). spaces k ++ trimmed_start v) n
    by false e s h = let n : 0 ≡ length (x ∷ v) - length (x ∷ v) = omega arith in ap (λ (k : ℕ). spaces k ++ (x ∷ v)) n

start-least : (m : ℕ) (c : List ℕ) → length (trimmed_start (spaces m ++ c)) ≤ length c
start-least zero c = start-short c
start-least (suc m) c = start-least m c

-- ---- lengths

skip-one : (n k : ℕ) → n ≤ 255 ⊎ (k < 128) → skip_length n k ≡ k ∷ []
skip-one n k (inl h) = let t : nat_le n 255 ≡ true = le-leb _ _ h in rw t refl
skip-one n k (inr h) = by (nat_le n 255) (lt-ltb _ _ h)
  where
    by : (b : Bool) → nat_lt k 128 ≡ true → cond (b || nat_lt k 128) (k ∷ []) ((k % 128 + 128) ∷ (k / 128) ∷ []) ≡ k ∷ []
    by true t = refl
    by false t = rw t refl

skip-two : (n k : ℕ) → 255 < n → 128 ≤ k → skip_length n k ≡ (k % 128 + 128) ∷ (k / 128) ∷ []
skip-two n k h g = let t : nat_le n 255 ≡ false = lt-leb _ _ h in let s : nat_lt k 128 ≡ false = le-ltb _ _ g in rw (t, s) refl

sizes : (n k : ℕ) → (n ≤ 255 ⊎ (k < 128)) ⊎ ((255 < n) × (128 ≤ k))
sizes n k = elim (cases_lt 255 n) [ inr a ↦ inl (inl a) | inl a ↦ elim (cases_lt k 128) [ inl b ↦ inl (inr b) | inr b ↦ inr (a, b) ] ]

skip-is : (n k : ℕ) → n ≤ 255 ⊎ (k < 32768) → IsSkipLength n k (skip_length n k)
skip-is n k h = elim (sizes n k) [ inl a ↦ inl (a, skip-one n k a) | inr a ↦ inr (a.0, few h a.0, skip-two n k a.0 a.1) ]
  where
    few : n ≤ 255 ⊎ (k < 32768) → 255 < n → k < 32768
    few (inl a) b = absurd (omega arith)
    few (inr a) b = a

skip-most : (n k : ℕ) → length (skip_length n k) ≤ 2
skip-most n k = elim (sizes n k) [ inl a ↦ one a | inr a ↦ two a.0 a.1 ]
  where
    one : n ≤ 255 ⊎ (k < 128) → length (skip_length n k) ≤ 2
    one a = omega (arith, ap length (skip-one n k a))

    two : 255 < n → 128 ≤ k → length (skip_length n k) ≤ 2
    two a b = omega (arith, ap length (skip-two n k a b))

skip-grows : (n j k : ℕ) → j ≤ k → length (skip_length n j) ≤ length (skip_length n k)
skip-grows n j k h = elim (sizes n k) [ inl a ↦ omega (arith, ap length (skip-one n k a), ap length (skip-one n j (less a))) | inr a ↦ omega (arith, skip-most n j, ap length (skip-two n k a.0 a.1)) ]
  where
    less : n ≤ 255 ⊎ (k < 128) → n ≤ 255 ⊎ (j < 128)
    less (inl a) = inl a
    less (inr a) = inr (omega arith)

skip-least : (n k : ℕ) (p : List ℕ) → IsSkipLength n k p → length (skip_length n k) ≤ length p
skip-least n k p (inl h) = omega (arith, ap length h.1, ap length (skip-one n k h.0))
skip-least n k p (inr h) = omega (arith, ap length h.2, skip-most n k)

pub shorter-has : (n k : ℕ) → is_shorter n k ≡ true → (n ≤ 255 ⊎ (k < 32768)) × (length (skip_length n k) + k < n)
shorter-has n k e =
    let b = both (nat_le n 255 || nat_lt k 32768) (nat_lt (length (skip_length n k) + k) n) e in
    (by (nat_le n 255) refl b.0, ltb-true _ _ b.1)
  where
    by : (b : Bool) → nat_le n 255 ≡ b → (b || nat_lt k 32768) ≡ true → n ≤ 255 ⊎ (k < 32768)
    by true h t = inl (leb-true _ _ h)
    by false h t = inr (ltb-true _ _ t)

shorter-not : (n k : ℕ) → is_shorter n k ≡ false → ((255 < n) × (32768 ≤ k)) ⊎ (n ≤ length (skip_length n k) + k)
shorter-not n k e = by (nat_le n 255) refl (nat_lt k 32768) refl (nat_lt (length (skip_length n k) + k) n) refl e
  where
    by : (a : Bool) → nat_le n 255 ≡ a → (b : Bool) → nat_lt k 32768 ≡ b → (c : Bool) → nat_lt (length (skip_length n k) + k) n ≡ c → ((a || b) && c) ≡ false → ((255 < n) × (32768 ≤ k)) ⊎ (n ≤ length (skip_length n k) + k)
    by a h b g false t e = inr (ltb-false _ _ t)
    by true h b g true t e = absurd cc
    by false h true g true t e = absurd cc
    by false h false g true t e = inl (leb-false _ _ h, ltb-false _ _ g)

-- the bytes of a value without its spaces are not longer than those with any fewer spaces taken off
skipped-least : (n : ℕ) (t c p v : List ℕ) → length v ≡ n → length t ≤ length c → IsSkipLength n (length c) p → length (skipped_bytes n t v) ≤ length (p ++ c)
skipped-least n t c p v l less is = by (is_shorter n (length t)) refl
  where
    by : (b : Bool) → is_shorter n (length t) ≡ b → length (cond b (skip_length n (length t) ++ t) v) ≤ length (p ++ c)
    by true e = omega (arith, length-append (skip_length n (length t)) t, length-append p c, skip-grows n (length t) (length c) less, skip-least n (length c) p is)
    by false e = elim (shorter-not n (length t) e) [ inl h ↦ absurd (never h.0 h.1 is) | inr h ↦ omega (arith, length-append p c, skip-grows n (length t) (length c) less, skip-least n (length c) p is) ]
      where
        never : 255 < n → 32768 ≤ length t → IsSkipLength n (length c) p → ⊥
        never a b (inr h) = let few : length c < 32768 = h.1 in omega arith
        never a b (inl h) = elim h.0 [ inl g ↦ omega arith | inr g ↦ omega arith ]

plain-least : (n : ℕ) (t v : List ℕ) → length v ≡ n → length (skipped_bytes n t v) ≤ length v
plain-least n t v l = by (is_shorter n (length t)) refl
  where
    by : (b : Bool) → is_shorter n (length t) ≡ b → length (cond b (skip_length n (length t) ++ t) v) ≤ length v
    by true e = omega (arith, length-append (skip_length n (length t)) t, (shorter-has n (length t) e).1)
    by false e = omega arith

varchar-one : (n k : ℕ) → n ≤ 256 ⊎ (k < 255) → varchar_length n k ≡ k ∷ []
varchar-one n k (inl h) = let t : nat_le n 256 ≡ true = le-leb _ _ h in rw t refl
varchar-one n k (inr h) = by (nat_le n 256) (lt-ltb _ _ h)
  where
    by : (b : Bool) → nat_lt k 255 ≡ true → cond (b || nat_lt k 255) (k ∷ []) (255 ∷ num_bytes 2 k) ≡ k ∷ []
    by true t = refl
    by false t = rw t refl

varchar-two : (n k : ℕ) → 256 < n → 255 ≤ k → varchar_length n k ≡ 255 ∷ num_bytes 2 k
varchar-two n k h g = let t : nat_le n 256 ≡ false = lt-leb _ _ h in let s : nat_lt k 255 ≡ false = le-ltb _ _ g in rw (t, s) refl

contents : (n k : ℕ) → (n ≤ 256 ⊎ (k < 255)) ⊎ ((256 < n) × (255 ≤ k))
contents n k = elim (cases_lt 256 n) [ inr a ↦ inl (inl a) | inl a ↦ elim (cases_lt k 255) [ inl b ↦ inl (inr b) | inr b ↦ inr (a, b) ] ]

varchar-is : (n k : ℕ) → k < 65536 → IsVarcharLength n k (varchar_length n k)
varchar-is n k h = elim (contents n k) [ inl a ↦ inl (a, varchar-one n k a) | inr a ↦ inr (a.0, h, varchar-two n k a.0 a.1) ]

varchar-least : (n k : ℕ) (p : List ℕ) → IsVarcharLength n k p → length (varchar_length n k) ≤ length p
varchar-least n k p (inl h) = omega (arith, ap length h.1, ap length (varchar-one n k h.0))
varchar-least n k p (inr h) = elim (contents n k) [ inl a ↦ omega (arith, ap length h.2, length-num_bytes 2 k, ap length (varchar-one n k a)) | inr a ↦ omega (arith, ap length h.2, ap length (varchar-two n k a.0 a.1)) ]

-- ---- a field of a dynamic row

padded-field : (n : ℕ) (v : List ℕ) → length v ≡ n → (b : Bool) → is_shorter n (length (without_blanks v)) ≡ b → PacksField SkipEndspace n b v (cond b (skip_length n (length (without_blanks v)) ++ without_blanks v) v)
padded-field n v l true e =
    let s = shorter-has n (length (without_blanks v)) e in
    let few : length (skip_length n (length (without_blanks v))) + length (without_blanks v) < n = s.1 in
    (skip_length n (length (without_blanks v)), without_blanks v, omega arith, skip-is n (length (without_blanks v)) s.0, end-again v ∙ ap (λ (k : ℕ). without_blanks v ++ spaces (k - length (without_blanks v))) l, refl)
padded-field n v l false e = (l, refl)

led-field : (n : ℕ) (v : List ℕ) → length v ≡ n → (b : Bool) → is_shorter n (length (trimmed_start v)) ≡ b → PacksField SkipPrespace n b v (cond b (skip_length n (length (trimmed_start v)) ++ trimmed_start v) v)
led-field n v l true e =
    let s = shorter-has n (length (trimmed_start v)) e in
    let few : length (skip_length n (length (trimmed_start v))) + length (trimmed_start v) < n = s.1 in
    (skip_length n (length (trimmed_start v)), trimmed_start v, omega arith, skip-is n (length (trimmed_start v)) s.0, start-again v ∙ ap (λ (k : ℕ). spaces (k - length (trimmed_start v)) ++ trimmed_start v) l, refl)
led-field n v l false e = (l, refl)

zero-field : (n : ℕ) (v : List ℕ) → length v ≡ n → (b : Bool) → is_all 0 v ≡ b → PacksField SkipZero n b v (cond b [] v)
zero-field n v l true e = (all-one 0 v e ∙ ap (λ (k : ℕ). replicate k 0) l, refl)
zero-field n v l false e = (l, refl)

empty : (v : List ℕ) → length v ≡ 0 → v ≡ []
empty [] e = refl
empty (x ∷ v) e = absurd (omega arith)

blob-field : (n : ℕ) (v : List ℕ) → length v < 256 ^ (n - 8) → (b : Bool) → (length v == 0) ≡ b → PacksField Blob n b v (cond b [] (low_num_bytes (n - 8) (length v) ++ v))
blob-field n v l true e = (empty v (eqb-true _ _ e), refl)
blob-field n v l false e = (low_num_bytes (n - 8) (length v), (l, refl), refl)

pub field-spelled : (kind : FieldKind) (n : ℕ) (v : List ℕ) → fits_field Dynamic kind n v ≡ true → PacksField kind n (field_flag kind n v) v (field_bytes kind n v)
field-spelled Normal n v h = (eqb-true _ _ h, refl)
field-spelled SkipEndspace n v h = padded-field n v (eqb-true _ _ h) (is_shorter n (length (without_blanks v))) refl
field-spelled SkipPrespace n v h = led-field n v (eqb-true _ _ h) (is_shorter n (length (trimmed_start v))) refl
field-spelled SkipZero n v h = zero-field n v (eqb-true _ _ h) (is_all 0 v) refl
field-spelled Blob n v h = blob-field n v (ltb-true _ _ h) (length v == 0) refl
field-spelled Varchar n v h = let b = both _ _ h in (varchar_length n (length v), leb-true _ _ b.0, varchar-is n (length v) (ltb-true _ _ b.1), refl)

padded-least : (n : ℕ) (v x : List ℕ) → IsPadded n v x → length (skipped_bytes n (without_blanks v) v) ≤ length x
padded-least n v x h =
    let p = h.0 in let c = h.1 in
    let few : length c < n = h.2 in
    let m = n - length c in
    let l : length v ≡ n = omega (arith, ap length h.4, length-append h.1 (spaces (n - length h.1)), length-replicate {A = ℕ}) in
    let less : length (without_blanks v) ≤ length c = omega (arith, ap (λ (y : List ℕ). length (without_blanks y)) h.4, end-least c (n - length c)) in
    omega (arith, ap length h.5, skipped-least n (without_blanks v) c p v l less h.3)

led-least : (n : ℕ) (v x : List ℕ) → IsLed n v x → length (skipped_bytes n (trimmed_start v) v) ≤ length x
led-least n v x h =
    let p = h.0 in let c = h.1 in
    let few : length c < n = h.2 in
    let l : length v ≡ n = omega (arith, ap length h.4, length-append (spaces (n - length h.1)) h.1, length-replicate {A = ℕ}) in
    let less : length (trimmed_start v) ≤ length c = omega (arith, ap (λ (y : List ℕ). length (trimmed_start y)) h.4, start-least (n - length c) c) in
    omega (arith, ap length h.5, skipped-least n (trimmed_start v) c p v l less h.3)

zero-least : (n : ℕ) (v : List ℕ) → length (cond (is_all 0 v) [] v) ≤ length v
zero-least n v = by (is_all 0 v)
  where
    by : (b : Bool) → length (cond b [] v) ≤ length v
    by true = omega arith
    by false = omega arith

blob-least : (n : ℕ) (v : List ℕ) → length (cond (length v == 0) [] (low_num_bytes (n - 8) (length v) ++ v)) ≤ length (low_num_bytes (n - 8) (length v) ++ v)
blob-least n v = by (length v == 0)
  where
    by : (b : Bool) → length (cond b [] (low_num_bytes (n - 8) (length v) ++ v)) ≤ length (low_num_bytes (n - 8) (length v) ++ v)
    by true = omega arith
    by false = omega arith

pub field-least : (kind : FieldKind) (n : ℕ) (bit : Bool) (v x : List ℕ) → PacksField kind n bit v x → length (field_bytes kind n v) ≤ length x
field-least Normal n bit v x h = omega (arith, ap length h.1)
field-least SkipEndspace n true v x h = padded-least n v x h
field-least SkipEndspace n false v x h = omega (arith, ap length h.1, plain-least n (without_blanks v) v h.0)
field-least SkipPrespace n true v x h = led-least n v x h
field-least SkipPrespace n false v x h = omega (arith, ap length h.1, plain-least n (trimmed_start v) v h.0)
field-least SkipZero n true v x h = let e : is_all 0 v ≡ true = ap (is_all 0) h.0 ∙ all-replicate 0 n in rw e (omega arith)
field-least SkipZero n false v x h = omega (arith, ap length h.1, zero-least n v)
field-least Blob n true v x h = rw (h.0) (omega arith)
field-least Blob n false v x h = omega (arith, ap length h.2, ap length h.1.1, length-append h.0 v, length-append (low_num_bytes (n - 8) (length v)) v, blob-least n v)
field-least Varchar n bit v x h = omega (arith, ap length h.3, length-append h.0 v, length-append (varchar_length n (length v)) v, varchar-least n (length v) h.0 h.2)

padded-length : (n : ℕ) (v x : List ℕ) → IsPadded n v x → length v ≡ n
padded-length n v x h = let few : length h.1 < n = h.2 in omega (arith, ap length h.4, length-append h.1 (spaces (n - length h.1)), length-replicate {A = ℕ})

led-length : (n : ℕ) (v x : List ℕ) → IsLed n v x → length v ≡ n
led-length n v x h = let few : length h.1 < n = h.2 in omega (arith, ap length h.4, length-append (spaces (n - length h.1)) h.1, length-replicate {A = ℕ})

pub and : (a b : Bool) → a ≡ true → b ≡ true → (a && b) ≡ true
and a b h g = rw (h, g) refl

pub field-fits : (kind : FieldKind) (n : ℕ) (bit : Bool) (v x : List ℕ) → PacksField kind n bit v x → fits_field Dynamic kind n v ≡ true
field-fits Normal n bit v x h = eq-eqb _ _ h.0
field-fits SkipEndspace n true v x h = eq-eqb _ _ (padded-length n v x h)
field-fits SkipEndspace n false v x h = eq-eqb _ _ h.0
field-fits SkipPrespace n true v x h = eq-eqb _ _ (led-length n v x h)
field-fits SkipPrespace n false v x h = eq-eqb _ _ h.0
field-fits SkipZero n true v x h = eq-eqb _ _ (ap length h.0 ∙ length-replicate n 0)
field-fits SkipZero n false v x h = eq-eqb _ _ h.0
field-fits Blob n true v x h = let some : 0 < 256 ^ (n - 8) = pow-some (n - 8) in rw (h.0) (lt-ltb _ _ some)
  where
    pow-some : (k : ℕ) → 0 < 256 ^ k
    pow-some k = one-le-pow k 256 (omega arith)
field-fits Blob n false v x h = lt-ltb _ _ h.1.0
field-fits Varchar n bit v x h =
    let few : length v + length_bytes n ≤ n = h.1 in
    and _ _ (le-leb _ _ few) (lt-ltb _ _ (below h.2))
  where
    below : IsVarcharLength n (length v) h.0 → length v < 65536
    below (inr g) = g.1
    below (inl g) = elim g.0 [ inl a ↦ omega (arith, h.1) | inr a ↦ omega arith ]

-- ---- a field of a static row

pub slot-spelled : (kind : FieldKind) (n : ℕ) (v : List ℕ) → fits_field Static kind n v ≡ true → FillsField kind n v (slot_bytes kind n v)
slot-spelled Normal n v h = (eqb-true _ _ h, refl)
slot-spelled SkipEndspace n v h = (eqb-true _ _ h, refl)
slot-spelled SkipPrespace n v h = (eqb-true _ _ h, refl)
slot-spelled SkipZero n v h = (eqb-true _ _ h, refl)
slot-spelled Blob n v h = absurd cc
slot-spelled Varchar n v h =
    let b = both _ _ h in
    let few : length v + length_bytes n ≤ n = leb-true _ _ b.0 in
    let short : length v < 65536 = ltb-true _ _ b.1 in
    (low_num_bytes (length_bytes n) (length v), replicate (n - (length_bytes n + length v)) 0, few, (below (nat_le n 256) refl few short, refl), length-slot_bytes Varchar n v h, refl)
  where
    below : (b : Bool) → nat_le n 256 ≡ b → length v + cond b 1 2 ≤ n → length v < 65536 → length v < 256 ^ cond b 1 2
    below true e few short = let le = leb-true n 256 e in omega arith
    below false e few short = short

pub slot-fits : (kind : FieldKind) (n : ℕ) (v x : List ℕ) → FillsField kind n v x → fits_field Static kind n v ≡ true
slot-fits Normal n v x h = eq-eqb _ _ h.0
slot-fits SkipEndspace n v x h = eq-eqb _ _ h.0
slot-fits SkipPrespace n v x h = eq-eqb _ _ h.0
slot-fits SkipZero n v x h = eq-eqb _ _ h.0
slot-fits Blob n v x h = absurd h
slot-fits Varchar n v x h = let few : length v + length_bytes n ≤ n = h.2 in and _ _ (le-leb _ _ few) (lt-ltb _ _ (below (nat_le n 256) h.3.0))
  where
    below : (b : Bool) → length v < 256 ^ cond b 1 2 → length v < 65536
    below true l = omega arith
    below false l = l
