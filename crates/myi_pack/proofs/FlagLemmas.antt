-- What setting flags one after the other gives.
use Rattle.std.proofs.Common.{◌≡◌, ℕ, zero, suc, ◌+◌, ◌-◌, ◌*◌, ◌/◌, ◌%◌, ◌^◌, ◌<◌, ◌≤◌, Bool, true, false, cond, List, [], ◌∷◌, ◌++◌, length, get_or, take, drop, replicate, refl, sym, ap, ◌∙◌, arith, add-one, inl, inr, length-append, append_assoc}
use Rattle.std.specs.Prelude.{◌&&◌, ◌==◌, bit_or, if◌then◌else◌}
use Rattle.std.specs.Int.Bits.{or_shifted_r}
use Rattle.std.proofs.lemmas.List.{length-drop}
use Rattle.std.proofs.Math.Nat.{pow-suc, pow-le-pow_right}
use Rattle.std.proofs.lemmas.Nat.{shr-shr, shr_le}
use Rattle.std.proofs.lemmas.Bool.{eq-eqb, cases_lt}
use Rattle.myi_base.specs.Numbers.{AreBytes}
use Rattle.std.proofs.Math.ListN.{length-set}
use Rattle.std.proofs.lemmas.List.{set-append_left, get_or_append_left, take-append-drop, take_at, drop_at, take_all, get_or-take, get_or-drop, length-take}
use Rattle.std.proofs.lemmas.List.Sums.{sum_by-cons}
use Rattle.std.proofs.Math.Seq.{drop-cons}
use Rattle.myi_defs.specs.declared.types.RowFormat.TheVariants.{Dynamic}
use Rattle.myi_defs.specs.declared.types.FieldKind.{FieldKind}
use Rattle.myi_defs.specs.declared.types.FieldKind.TheVariants.{Normal, SkipEndspace, SkipPrespace, SkipZero, Blob, Varchar}
use Rattle.myi_defs.specs.declared.types.Field.{Field}
use Rattle.myi_pack.specs.Packed.{Values}
use Rattle.myi_pack.specs.Spelling.{field_flag, field_bytes, flags_of, fits_fields, fits_field, spelled_fields}
use Rattle.myi_defs.specs.Kinds.{has_flag}
use Rattle.myi_pack.specs.Flags.{byte_of, packed_bits, with_flag, with_flags, next_flag, flag_count, flag_bytes, flag_at}

-- a flag in the first byte
flag-head : (x : ℕ) (fl : List ℕ) (j : ℕ) (bit : Bool) → j < 8 → x < 2 ^ j → with_flag (x ∷ fl) j bit ≡ (x + 2 ^ j * (if bit then 1 else 0)) ∷ fl
flag-head x fl j false h lt = let z : x + 2 ^ j * 0 ≡ x = omega arith in rw z refl
flag-head x fl j true h lt =
    let q : j / 8 ≡ 0 = omega arith in
    let r : j % 8 ≡ j = omega arith in
    let o : bit_or x (1 * 2 ^ j) ≡ 1 * 2 ^ j + x = or_shifted_r 1 j x lt in
    let p : 1 * 2 ^ j ≡ 2 ^ j = omega arith in
    let s : bit_or x (2 ^ j) ≡ x + 2 ^ j * 1 = ap (bit_or x) (sym p) ∙ o ∙ omega arith in
    rw (q, r, s) refl

-- a flag behind the first byte
flag-tail : (x : ℕ) (fl : List ℕ) (j : ℕ) (bit : Bool) → with_flag (x ∷ fl) (8 + j) bit ≡ x ∷ with_flag fl j bit
flag-tail x fl j false = refl
flag-tail x fl j true =
    let q : (8 + j) / 8 ≡ suc (j / 8) = omega arith in
    let r : (8 + j) % 8 ≡ j % 8 = omega arith in
    rw (q, r) refl

flags-tail : (bs : List Bool) (x : ℕ) (fl : List ℕ) (j : ℕ) → with_flags (x ∷ fl) (8 + j) bs ≡ x ∷ with_flags fl j bs
flags-tail [] x fl j = refl
flags-tail (b ∷ bs) x fl j =
    let n : 8 + j + 1 ≡ 8 + (j + 1) = omega arith in
    ap (λ (y : List ℕ). with_flags y (8 + j + 1) bs) (flag-tail x fl j b) ∙ ap (λ (k : ℕ). with_flags (x ∷ with_flag fl j b) k bs) n ∙ flags-tail bs x (with_flag fl j b) (j + 1)

scaled : (x p c m : ℕ) → x + p * c + 2 * p * m ≡ x + p * (c + 2 * m)
scaled x p c m = grind arith

bit_of : Bool → ℕ
bit_of b = if b then 1 else 0

below-next : (x j : ℕ) (b : Bool) → x < 2 ^ j → x + 2 ^ j * (if b then 1 else 0) < 2 ^ (j + 1)
below-next x j true h = let p : 2 ^ (j + 1) ≡ 2 * 2 ^ j = two j in omega arith
  where
    two : (j : ℕ) → 2 ^ (j + 1) ≡ 2 * 2 ^ j
    two j = rw (add-one, pow-suc) (omega arith)
below-next x j false h = let p : 2 ^ (j + 1) ≡ 2 * 2 ^ j = two j in omega arith
  where
    two : (j : ℕ) → 2 ^ (j + 1) ≡ 2 * 2 ^ j
    two j = rw (add-one, pow-suc) (omega arith)

flags-head : (bs : List Bool) (x : ℕ) (fl : List ℕ) (j i : ℕ) → i + j ≡ 8 → x < 2 ^ j → with_flags (x ∷ fl) j bs ≡ (x + 2 ^ j * byte_of (take i bs)) ∷ with_flags fl 0 (drop i bs)
flags-head [] x fl j zero h lt = let z : x + 2 ^ j * 0 ≡ x = omega arith in rw z refl
flags-head [] x fl j (suc i) h lt = let z : x + 2 ^ j * 0 ≡ x = omega arith in rw z refl
flags-head (b ∷ bs) x fl j zero h lt =
    let e : j ≡ 8 + 0 = omega arith in
    let z : x + 2 ^ j * 0 ≡ x = omega arith in
    ap (λ (k : ℕ). with_flags (x ∷ fl) k (b ∷ bs)) e ∙ flags-tail (b ∷ bs) x fl 0 ∙ ap (λ (y : ℕ). y ∷ with_flags fl 0 (b ∷ bs)) (sym z)
flags-head (b ∷ bs) x fl j (suc i) h lt =
    let more = flags-head bs (x + 2 ^ j * (if b then 1 else 0)) fl (j + 1) i (omega arith) (below-next x j b lt) in
    let p : 2 ^ (j + 1) ≡ 2 * 2 ^ j = rw (add-one, pow-suc) (omega arith) in
    let one = flag-head x fl j b (omega arith) lt in
    ap (λ (y : List ℕ). with_flags y (j + 1) bs) one ∙ more ∙ ap (λ (y : ℕ). y ∷ with_flags fl 0 (drop i bs)) (rw p (scaled x (2 ^ j) (if b then 1 else 0) (byte_of (take i bs))))

-- zeros in which these flags are set
pub flags-packed : (m : ℕ) (bs : List Bool) → length bs ≤ 8 * m → with_flags (replicate m 0) 0 bs ≡ packed_bits m bs
flags-packed zero [] h = refl
flags-packed zero (b ∷ bs) h = absurd (omega arith)
flags-packed (suc m) bs h =
    let more = flags-packed m (drop 8 bs) (omega (arith, length-drop 8 bs)) in
    let z : 0 + 2 ^ 0 * byte_of (take 8 bs) ≡ byte_of (take 8 bs) = omega arith in
    flags-head bs 0 (replicate m 0) 0 8 refl (omega arith) ∙ ap (λ (y : ℕ). y ∷ with_flags (replicate m 0) 0 (drop 8 bs)) z ∙ ap (λ (y : List ℕ). byte_of (take 8 bs) ∷ y) more

-- ---- a field behind flags that are not all set

with-append : (a c : List ℕ) (k : ℕ) (bit : Bool) → (bit ≡ true → k / 8 < length a) → with_flag (a ++ c) k bit ≡ with_flag a k bit ++ c
with-append a c k false h = refl
with-append a c k true h =
    let lt : k / 8 < length a = h refl in
    let g : get_or (a ++ c) (k / 8) 0 ≡ get_or a (k / 8) 0 = get_or_append_left a c 0 (k / 8) lt in
    rw g (set-append_left a c (k / 8) (bit_or (get_or a (k / 8) 0) (2 ^ (k % 8))) lt)

length-with : (a : List ℕ) (k : ℕ) (bit : Bool) → length (with_flag a k bit) ≡ length a
length-with a k false = refl
length-with a k true = length-set a (k / 8) (bit_or (get_or a (k / 8) 0) (2 ^ (k % 8)))

pub length-flag : (out x out1 new : List ℕ) (k : ℕ) (bit : Bool) → out1 ≡ out ++ x → new ≡ with_flag out1 k bit → length out ≤ length new
length-flag out x out1 new k bit o e = omega (arith, ap length e, length-with out1 k bit, ap length o, length-append out x)

split : (m k : ℕ) (bit : Bool) (out x : List ℕ) → m ≤ length out → (bit ≡ true → k / 8 < m) → with_flag (out ++ x) k bit ≡ with_flag (take m out) k bit ++ (drop m out ++ x)
split m k bit out x inside room =
    let n : length (take m out) ≡ m = omega (arith, length-take m out) in
    let e : out ++ x ≡ take m out ++ (drop m out ++ x) = ap (λ (y : List ℕ). y ++ x) (sym (take-append-drop m out)) ∙ append_assoc (take m out) (drop m out) x in
    ap (λ (y : List ℕ). with_flag y k bit) e ∙ with-append (take m out) (drop m out ++ x) k bit (λ t. omega (arith, room t))

no-flag : (kind : FieldKind) (n : ℕ) (v : List ℕ) → has_flag kind ≡ false → field_flag kind n v ≡ false
no-flag Normal n v e = refl
no-flag SkipEndspace n v e = absurd cc
no-flag SkipPrespace n v e = absurd cc
no-flag SkipZero n v e = absurd cc
no-flag Blob n v e = absurd cc
no-flag Varchar n v e = refl

flags-step : (flags : List ℕ) (k : ℕ) (f : Field) (fs : List Field) (v : List ℕ) (vs : Values) → with_flags (with_flag flags k (field_flag f.kind f.length v)) (next_flag f.kind k) (flags_of fs vs) ≡ with_flags flags k (flags_of (f ∷ fs) (v ∷ vs))
flags-step flags k f fs v vs = by (has_flag f.kind) refl
  where
    by : (b : Bool) → has_flag f.kind ≡ b → with_flags (with_flag flags k (field_flag f.kind f.length v)) (if b then k + 1 else k) (flags_of fs vs) ≡ with_flags flags k (if b then field_flag f.kind f.length v ∷ flags_of fs vs else flags_of fs vs)
    by true e = refl
    by false e = rw (no-flag f.kind f.length v e) refl

pub step : (m k k' : ℕ) (bit : Bool) (f : Field) (gs fs : List Field) (v : List ℕ) (us vs : Values) (out out1 new : List ℕ) → gs ≡ f ∷ fs → us ≡ v ∷ vs → m ≤ length out → (bit ≡ true → k / 8 < m)
    → out1 ≡ out ++ field_bytes f.kind f.length v → bit ≡ field_flag f.kind f.length v → new ≡ with_flag out1 k bit → k' ≡ next_flag f.kind k
    → with_flags (take m new) k' (flags_of fs vs) ++ (drop m new ++ spelled_fields Dynamic fs vs) ≡ with_flags (take m out) k (flags_of gs us) ++ (drop m out ++ spelled_fields Dynamic gs us)
step m k k' bit f gs fs v us vs out out1 new g u inside room o b n next =
    let x = field_bytes f.kind f.length v in
    let e : new ≡ with_flag (take m out) k bit ++ (drop m out ++ x) = n ∙ ap (λ (y : List ℕ). with_flag y k bit) o ∙ split m k bit out x inside room in
    let l : length (with_flag (take m out) k bit) ≡ m = omega (arith, length-with (take m out) k bit, length-take m out) in
    let t : take m new ≡ with_flag (take m out) k bit = ap (take m) e ∙ take_at _ _ m l in
    let d : drop m new ≡ drop m out ++ x = ap (drop m) e ∙ drop_at _ _ m l in
    let s : (drop m out ++ x) ++ spelled_fields Dynamic fs vs ≡ drop m out ++ (x ++ spelled_fields Dynamic fs vs) = append_assoc (drop m out) x (spelled_fields Dynamic fs vs) in
    rw (t, d, s, next, b, g, u) (ap (λ (y : List ℕ). y ++ (drop m out ++ (x ++ spelled_fields Dynamic fs vs))) (flags-step (take m out) k f fs v vs))

pub counted : (f : Field) (fs : List Field) (b : Bool) → has_flag f.kind ≡ b → flag_count (f ∷ fs) ≡ cond b 1 0 + flag_count fs
counted f fs b h = sum_by-cons (λ (g : Field). cond (has_flag g.kind) 1 0) f fs ∙ ap (λ (t : Bool). cond t 1 0 + flag_count fs) h

pub room : (f : Field) (fs gs : List Field) (v : List ℕ) (k n m : ℕ) (bit : Bool) → gs ≡ f ∷ fs → k + flag_count gs ≡ n → n ≤ 8 * m → bit ≡ field_flag f.kind f.length v → bit ≡ true → k / 8 < m
room f fs gs v k n m bit g e few is t = by (has_flag f.kind) refl
  where
    by : (b : Bool) → has_flag f.kind ≡ b → k / 8 < m
    by true h = let c = counted f fs true h in omega (arith, ap flag_count g)
    by false h = absurd (cc (no-flag f.kind f.length v h, t, is))

pub next-count : (f : Field) (fs gs : List Field) (k k' n : ℕ) → gs ≡ f ∷ fs → k + flag_count gs ≡ n → k' ≡ next_flag f.kind k → k' + flag_count fs ≡ n
next-count f fs gs k k' n g e next = by (has_flag f.kind) refl next
  where
    by : (b : Bool) → has_flag f.kind ≡ b → k' ≡ (if b then k + 1 else k) → k' + flag_count fs ≡ n
    by true h next = let c = counted f fs true h in omega (arith, ap flag_count g)
    by false h next = let c = counted f fs false h in omega (arith, ap flag_count g)

pub next-fits : (f : Field) (fs gs : List Field) (v : List ℕ) (us vs : Values) → gs ≡ f ∷ fs → us ≡ v ∷ vs → fits_fields Dynamic gs us ≡ true → (fits_field Dynamic f.kind f.length v ≡ true) × (fits_fields Dynamic fs vs ≡ true)
next-fits f fs gs v us vs g u h =
    let e : (fits_field Dynamic f.kind f.length v && fits_fields Dynamic fs vs) ≡ true = rw (g, u) at h in
    both (fits_field Dynamic f.kind f.length v) (fits_fields Dynamic fs vs) e
  where
    both : (a b : Bool) → (a && b) ≡ true → (a ≡ true) × (b ≡ true)
    both true b e = (refl, e)
    both false b e = absurd cc

pub first-field : (fs : List Field) (i : ℕ) (d f : Field) → i < length fs → f ≡ get_or fs i d → drop i fs ≡ f ∷ drop (i + 1) fs
first-field fs i d f lt e = rw (add-one, e) (drop-cons fs i d lt)

pub first-value : (us : Values) (w v : List ℕ) → 1 ≤ length us → w ≡ get_or us 0 w → v ≡ w → us ≡ v ∷ take (length us - 1) (drop 1 us)
first-value [] w v h e i = absurd (omega arith)
first-value (u ∷ us) w v h e i =
    let n : length (u ∷ us) - 1 ≡ length us = omega arith in
    let t : take (length (u ∷ us) - 1) us ≡ us = ap (λ (k : ℕ). take k us) n ∙ take_all (length us) us (omega arith) in
    rw (t, i, e) refl

pub written-flags : (fs : List Field) (vs : Values) (n count : ℕ) (empty zeros new : List ℕ) → count ≡ flag_count fs → n ≡ flag_bytes count → length (flags_of fs vs) ≤ flag_count fs → empty ≡ [] → zeros ≡ empty ++ replicate n 0
    → new ≡ with_flags zeros 0 (flags_of fs vs) ++ spelled_fields Dynamic fs vs → new ≡ packed_bits (flag_bytes (flag_count fs)) (flags_of fs vs) ++ spelled_fields Dynamic fs vs
written-flags fs vs n count empty zeros new c b few em z e =
    let m : n ≡ flag_bytes (flag_count fs) = b ∙ ap flag_bytes c in
    let s : zeros ≡ replicate (flag_bytes (flag_count fs)) 0 = z ∙ ap (λ (x : List ℕ). x ++ replicate n 0) em ∙ ap (λ (k : ℕ). replicate k 0) m in
    let p = flags-packed (flag_bytes (flag_count fs)) (flags_of fs vs) (omega arith) in
    e ∙ ap (λ (x : List ℕ). x ++ spelled_fields Dynamic fs vs) (ap (λ (x : List ℕ). with_flags x 0 (flags_of fs vs)) s ∙ p)

pub few-flags : (fs : List Field) (vs : Values) → length (flags_of fs vs) ≤ flag_count fs
few-flags [] vs = omega arith
few-flags (f ∷ fs) [] = omega arith
few-flags (f ∷ fs) (v ∷ vs) = by (has_flag f.kind) refl (few-flags fs vs)
  where
    by : (b : Bool) → has_flag f.kind ≡ b → length (flags_of fs vs) ≤ flag_count fs → length (if b then field_flag f.kind f.length v ∷ flags_of fs vs else flags_of fs vs) ≤ flag_count (f ∷ fs)
    by true h few = let c = counted f fs true h in omega arith
    by false h few = let c = counted f fs false h in omega arith

-- ---- flags in their bytes

halved : (c m k : ℕ) → c ≤ 1 → (c + 2 * m) / 2 ^ suc k ≡ m / 2 ^ k
halved c m k h =
    let half : (c + 2 * m) / 2 ≡ m = omega arith in
    let s : (c + 2 * m) / 2 ^ 1 / 2 ^ k ≡ (c + 2 * m) / 2 ^ (1 + k) = shr-shr (c + 2 * m) 1 k in
    let n : suc k ≡ 1 + k = omega arith in
    rw n (sym s ∙ ap (λ x. x / 2 ^ k) half)

bit-clear : (k : ℕ) → (0 / 2 ^ k % 2 == 1) ≡ false
bit-clear k = let z : 0 / 2 ^ k ≡ 0 = omega (arith, shr_le 0 k) in rw z refl

bit-of-byte : (bs : List Bool) (k : ℕ) → (byte_of bs / 2 ^ k % 2 == 1) ≡ get_or bs k false
bit-of-byte [] k = bit-clear k
bit-of-byte (true ∷ bs) zero = eq-eqb _ _ (omega arith)
bit-of-byte (false ∷ bs) zero = let z : (0 + 2 * byte_of bs) / 1 % 2 ≡ 0 = omega arith in rw z refl
bit-of-byte (true ∷ bs) (suc k) = let e = halved 1 (byte_of bs) k (omega arith) in rw e (bit-of-byte bs k)
bit-of-byte (false ∷ bs) (suc k) = let e = halved 0 (byte_of bs) k (omega arith) in rw e (bit-of-byte bs k)

pub flag-packed : (n : ℕ) (bs : List Bool) (k : ℕ) → k < 8 * n → flag_at (packed_bits n bs) k ≡ get_or bs k false
unfolding flag_at
flag-packed zero bs k h = absurd (omega arith)
flag-packed (suc n) bs k h = elim (cases_lt k 8) [
  | inl lt ↦
      let q : k / 8 ≡ 0 = omega arith in
      let r : k % 8 ≡ k = omega arith in
      rw (q, r) (bit-of-byte (take 8 bs) k ∙ get_or-take 8 bs k false lt)
  | inr le ↦
      let q : k / 8 ≡ suc ((k - 8) / 8) = omega arith in
      let r : k % 8 ≡ (k - 8) % 8 = omega arith in
      let at : 8 + (k - 8) ≡ k = omega arith in
      rw (q, r) (flag-packed n (drop 8 bs) (k - 8) (omega arith) ∙ get_or-drop 8 bs (k - 8) false ∙ ap (λ i. get_or bs i false) at)
]

pub length-packed : (n : ℕ) (bs : List Bool) → length (packed_bits n bs) ≡ n
length-packed zero bs = refl
length-packed (suc n) bs = ap suc (length-packed n (drop 8 bs))

byte-below : (bs : List Bool) → byte_of bs < 2 ^ length bs
byte-below [] = omega arith
byte-below (true ∷ bs) = let p : 2 ^ suc (length bs) ≡ 2 * 2 ^ length bs = rw pow-suc (omega arith) in omega (arith, byte-below bs)
byte-below (false ∷ bs) = let p : 2 ^ suc (length bs) ≡ 2 * 2 ^ length bs = rw pow-suc (omega arith) in omega (arith, byte-below bs)

pub bytes-packed : (n : ℕ) (bs : List Bool) → AreBytes (packed_bits n bs)
bytes-packed zero bs i = omega arith
bytes-packed (suc n) bs zero =
    let l : length (take 8 bs) ≤ 8 = omega (arith, length-take 8 bs) in
    let p : 2 ^ length (take 8 bs) ≤ 2 ^ 8 = pow-le-pow_right (omega arith) l in
    omega (arith, byte-below (take 8 bs))
bytes-packed (suc n) bs (suc i) = bytes-packed n (drop 8 bs) i

past : (bs : List Bool) (k : ℕ) → length bs ≤ k → get_or bs k false ≡ false
past [] k h = refl
past (b ∷ bs) zero h = absurd (omega arith)
past (b ∷ bs) (suc k) h = past bs k (omega arith)

no-byte : (xs : List ℕ) (i : ℕ) → length xs ≤ i → get_or xs i 0 ≡ 0
no-byte [] i h = refl
no-byte (x ∷ xs) zero h = absurd (omega arith)
no-byte (x ∷ xs) (suc i) h = no-byte xs i (omega arith)

pub spare-packed : (n : ℕ) (bs : List Bool) (k : ℕ) → length bs ≤ k → flag_at (packed_bits n bs) k ≡ false
unfolding flag_at
spare-packed n bs k h = elim (cases_lt k (8 * n)) [
  | inl lt ↦ flag-packed n bs k lt ∙ past bs k h
  | inr le ↦
      let z : get_or (packed_bits n bs) (k / 8) 0 ≡ 0 = no-byte (packed_bits n bs) (k / 8) (omega (arith, length-packed n bs)) in
      rw z (bit-clear (k % 8))
]
