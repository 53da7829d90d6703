-- What is read as a value is one, and each value is read.
use Rattle.std.proofs.Common.{◌≡◌, ℕ, suc, ◌+◌, ◌-◌, ◌*◌, ◌/◌, ◌%◌, ◌^◌, ◌<◌, ◌≤◌, ◌==◌, ◌&&◌, nat_lt, nat_le, List, [], ◌∷◌, ◌++◌, length, take, Option, Some, None, Bool, true, false, cond, refl, ap, sym, ◌∙◌, arith, inl, inr, subst, length-append}
use Rattle.std.specs.Prelude.{slice_index, option_map, option_and_then, MatchBool}
use Rattle.std.specs.List.{AllByRecursion, list_all}
use Rattle.std.proofs.lemmas.Bool.Decides.{nat_tests, eqb_tells}
use Rattle.std.proofs.Math.Seq.{take-append_seam}
use Rattle.myi_base.specs.Numbers.{low_num_bytes}
use Rattle.myi_deftext.specs.Text.{is_digit, is_decimal, value, number}
use Rattle.myi_deftext.specs.Grammar.{IsNumber}
use Rattle.myi_script.specs.declared.form.Form.{Form}
use Rattle.myi_script.specs.Values.{greatest, depth, fits_form, FitsForm, hex_digit, hex_text, IsHex, IsPrintable, filled, IsQuoted, IsPositive, IsNegative, IsEmpty, IsValue, hex, quoted, positive, negative, empty}
use Rattle.myi_script.specs.Reading.{digit_of, byte_of, byte_before, unhex, fitting, hex_of, is_printable, quoted_of, positive_by, positive_of, negative_by, negative_of, number_of, empty_of, is_nil, value_of}

pub and_true : (a b : Bool) → a && b ≡ true → (a ≡ true) × (b ≡ true)
and_true true b e = (refl, e)
and_true false b e = cc

and_both : (a b : Bool) → a ≡ true → b ≡ true → a && b ≡ true
and_both true b e f = f
and_both false b e f = cc

pub eq_true : (a b : ℕ) → (a == b) ≡ true → a ≡ b
eq_true a b e = grind (arith, nat_tests)

pub eq_yes : (a b : ℕ) → a ≡ b → (a == b) ≡ true
eq_yes a b e = grind (arith, nat_tests)

pub eq_no : (a b : ℕ) → (a ≡ b → ⊥) → (a == b) ≡ false
eq_no a b ne = grind (arith, nat_tests)

pub le_true : (a b : ℕ) → nat_le a b ≡ true → a ≤ b
le_true a b e = grind (arith, nat_tests)

pub le_yes : (a b : ℕ) → a ≤ b → nat_le a b ≡ true
le_yes a b e = grind (arith, nat_tests)

lt_true : (a b : ℕ) → nat_lt a b ≡ true → a < b
lt_true a b e = grind (arith, nat_tests)

lt_yes : (a b : ℕ) → a < b → nat_lt a b ≡ true
lt_yes a b e = grind (arith, nat_tests)

-- ---- hexadecimal digits

digit_sound : (b d : ℕ) → digit_of b ≡ Some d → (b ≡ hex_digit d) × (d < 16)
digit_sound b d e = grind (arith, nat_tests)

digit_back : (d : ℕ) → d < 16 → digit_of (hex_digit d) ≡ Some d
digit_back d lt = grind (arith, nat_tests)

-- a byte and its two digits
halves : (x y : ℕ) → y < 16 → ((x * 16 + y) / 16 ≡ x) × ((x * 16 + y) % 16 ≡ y)
halves x y lt = (omega arith, omega arith)

byte_text : (a b x y : ℕ) (rest v : List ℕ) → a ≡ hex_digit x → b ≡ hex_digit y → y < 16 → rest ≡ hex_text v → a ∷ b ∷ rest ≡ hex_text ((x * 16 + y) ∷ v)
byte_text a b x y rest v ea eb lt er = let h = halves x y lt in rw (h.0, h.1, ea, eb, er) refl

unhex_sound : (w v : List ℕ) → unhex w ≡ Some v → (w ≡ hex_text v) × AllByRecursion (λ x. x < 256) v
unhex_sound [] v e = let same : [] ≡ v = let k = e in cc in let P : List ℕ → Type 0 = λ q. ([] ≡ hex_text q) × AllByRecursion (λ x. x < 256) q in subst P same (refl, tt)
unhex_sound (a ∷ []) v e = cc
unhex_sound (a ∷ b ∷ rest) v e = go (digit_of a) (digit_of b) (unhex rest) refl refl refl e (λ u f. unhex_sound rest u f)
  where
    go : (da db : Option ℕ) (dr : Option (List ℕ)) → digit_of a ≡ da → digit_of b ≡ db → unhex rest ≡ dr → byte_before (byte_of da db) dr ≡ Some v
        → ((u : List ℕ) → unhex rest ≡ Some u → (rest ≡ hex_text u) × AllByRecursion (λ x. x < 256) u) → (a ∷ b ∷ rest ≡ hex_text v) × AllByRecursion (λ x. x < 256) v
    go None db dr ea eb er f ih = cc
    go (Some x) None dr ea eb er f ih = cc
    go (Some x) (Some y) None ea eb er f ih = cc
    go (Some x) (Some y) (Some u) ea eb er f ih =
        let sa = digit_sound a x ea in let sb = digit_sound b y eb in let r = ih u er in
        let same : (x * 16 + y) ∷ u ≡ v = let k = f in cc in
        let P : List ℕ → Type 0 = λ q. (a ∷ b ∷ rest ≡ hex_text q) × AllByRecursion (λ x. x < 256) q in
        subst P same (byte_text a b x y rest u sa.0 sb.0 sb.1 r.0, (let l = sa.1 in let m = sb.1 in omega arith, r.1))

unhex_back : (v : List ℕ) → AllByRecursion (λ x. x < 256) v → unhex (hex_text v) ≡ Some v
unhex_back [] h = refl
unhex_back (x ∷ v) h = let l : x < 256 = h.0 in rw (digit_back (x / 16) (omega arith), digit_back (x % 16) (omega arith), unhex_back v h.1) (ap (λ q. Some (q ∷ v)) (omega arith))

fits_sound : (f : Form) (n : ℕ) → fits_form f n ≡ true → FitsForm f n
fits_sound f n = go f.fixed
  where
    go : (b : Bool) → cond b (n == f.most) (nat_le n f.most) ≡ true → MatchBool b (n ≡ f.most) (n ≤ f.most)
    go true e = eq_true n f.most e
    go false e = le_true n f.most e

fits_back : (f : Form) (n : ℕ) → FitsForm f n → fits_form f n ≡ true
fits_back f n = go f.fixed
  where
    go : (b : Bool) → MatchBool b (n ≡ f.most) (n ≤ f.most) → cond b (n == f.most) (nat_le n f.most) ≡ true
    go true e = eq_yes n f.most e
    go false e = le_yes n f.most e

hex_sound : (f : Form) (w v : List ℕ) → 0 < length w → hex_of f w ≡ Some v → IsHex f w v
hex_sound f w v some e = go (unhex w) refl e
  where
    fit : (b : Bool) (u : List ℕ) → fits_form f (length u) ≡ b → cond b (Some u) None ≡ Some v → (u ≡ v) × (fits_form f (length u) ≡ true)
    fit true u is h = (let k = h in cc, is)
    fit false u is h = cc

    nonempty : (u : List ℕ) → w ≡ hex_text u → 0 < length w → 0 < length u
    nonempty [] q l = let n = ap length q in absurd (omega arith)
    nonempty (x ∷ u) q l = omega arith

    go : (o : Option (List ℕ)) → unhex w ≡ o → option_and_then (fitting f) o ≡ Some v → IsHex f w v
    go None eo h = cc
    go (Some u) eo h =
        let k = fit (fits_form f (length u)) u refl h in
        let s = unhex_sound w u eo in
        let P : List ℕ → Type 0 = λ q. IsHex f w q in
        subst P k.0 (record { text = s.0; bytes = s.1; some = nonempty u s.0 some; fits = fits_sound f (length u) k.1 })

hex_back : (f : Form) (w v : List ℕ) → IsHex f w v → hex_of f w ≡ Some v
hex_back f w v h = ap (λ q. option_and_then (fitting f) (unhex q)) h.text ∙ rw (unhex_back v h.bytes, fits_back f (length v) h.fits) refl

-- ---- quoted texts

printable_sound : (t : List ℕ) → list_all is_printable t ≡ true → AllByRecursion IsPrintable t
printable_sound [] e = tt
printable_sound (b ∷ t) e = let h = and_true (is_printable b) (list_all is_printable t) e in (one b h.0, printable_sound t h.1)
  where
    one : (b : ℕ) → is_printable b ≡ true → IsPrintable b
    one b e = (grind (arith, nat_tests), grind (arith, nat_tests), λ q. grind (arith, nat_tests))

printable_back : (t : List ℕ) → AllByRecursion IsPrintable t → list_all is_printable t ≡ true
printable_back [] h = refl
printable_back (b ∷ t) h = and_both (is_printable b) (list_all is_printable t) (one b h.0) (printable_back t h.1)
  where
    one : (b : ℕ) → IsPrintable b → is_printable b ≡ true
    one b h = let p = h.0 in let q = h.1 in let r = h.2 in grind (arith, nat_tests)

last_split : (cs : List ℕ) (b : ℕ) → 0 < length cs → slice_index cs (length cs - 1) ≡ b → cs ≡ take (length cs - 1) cs ++ b ∷ []
last_split [] b some e = absurd (omega arith)
last_split (c ∷ []) b some e = rw e refl
last_split (c ∷ d ∷ ds) b some e =
    let n : length (c ∷ d ∷ ds) - 1 ≡ suc (length (d ∷ ds) - 1) = omega arith in
    let e2 : slice_index (d ∷ ds) (length (d ∷ ds) - 1) ≡ b = sym (ap (λ k. slice_index (c ∷ d ∷ ds) k) n) ∙ e in
    ap (λ q. c ∷ q) (last_split (d ∷ ds) b (omega arith) e2) ∙ sym (ap (λ k. take k (c ∷ d ∷ ds) ++ b ∷ []) n)

chosen : (b : Bool) (u v : List ℕ) → cond b (Some u) None ≡ Some v → (b ≡ true) × (u ≡ v)
chosen true u v e = (refl, let k = e in cc)
chosen false u v e = cc

quoted_sound : (f : Form) (cs v : List ℕ) → quoted_of f cs ≡ Some v → (t : List ℕ) × IsQuoted f t (39 ∷ cs) v
quoted_sound f cs v e =
    let t : List ℕ = take (length cs - 1) cs in
    let w = chosen _ (filled f t) v e in
    let a = and_true _ _ w.0 in
    let b = and_true _ _ a.0 in
    let c = and_true _ _ b.0 in
    let some : 0 < length cs = lt_true 0 (length cs) c.0 in
    (t, record { text = ap (λ q. 39 ∷ q) (last_split cs 39 some (eq_true _ 39 c.1)); printable = printable_sound t b.1; fits = le_true (length t) f.most a.1; content = sym w.1 })

snoc_len : (t : List ℕ) (b : ℕ) → length (t ++ b ∷ []) - 1 ≡ length t
snoc_len t b = omega (arith, length-append t (b ∷ []))

snoc_last : (t : List ℕ) (b : ℕ) → slice_index (t ++ b ∷ []) (length t) ≡ b
snoc_last [] b = refl
snoc_last (c ∷ t) b = snoc_last t b

quoted_back : (f : Form) (t cs v : List ℕ) → IsQuoted f t (39 ∷ cs) v → quoted_of f cs ≡ Some v
quoted_back f t cs v h =
    let same : cs ≡ t ++ 39 ∷ [] = let k = h.text in cc in
    ap (λ q. quoted_of f q) same
    ∙ rw (snoc_len t 39, take-append_seam t (39 ∷ []), snoc_last t 39, printable_back t h.printable, le_yes (length t) f.most h.fits, lt_yes 0 (length (t ++ 39 ∷ [])) (omega (arith, length-append t (39 ∷ []))))
    (ap (λ q. Some q) (sym h.content))

-- ---- numbers

pub number_sound : (least most n : ℕ) (d : List ℕ) → number least most d ≡ Some n → IsNumber least most d n
unfolding number
number_sound least most n d e = go (is_decimal d && nat_le least (value d) && nat_le (value d) most) refl e
  where
    go : (b : Bool) → is_decimal d && nat_le least (value d) && nat_le (value d) most ≡ b → cond b (Some (value d)) None ≡ Some n → IsNumber least most d n
    go true is h =
        let same : value d ≡ n = let k = h in cc in
        let w = and_true _ _ is in
        let u = and_true _ _ w.0 in
        let low = le_true least (value d) u.1 in
        let high = le_true (value d) most w.1 in
        record { decimal = u.0; value_is = same; least_is = omega arith; most_is = omega arith }
    go false is h = cc

pub number_back : (least most n : ℕ) (d : List ℕ) → IsNumber least most d n → number least most d ≡ Some n
unfolding number
number_back least most n d h = rw (h.decimal, h.value_is, le_yes least n h.least_is, le_yes n most h.most_is) refl

positive_sound : (f : Form) (d v : List ℕ) → positive_of f d ≡ Some v → (most n : ℕ) × IsPositive f most n d (35 ∷ d) v
positive_sound f d v e = go (greatest f.numbers f.most) refl e
  where
    said : (most : ℕ) (o : Option ℕ) → greatest f.numbers f.most ≡ Some most → number 0 most d ≡ o → option_map (λ n. low_num_bytes f.most n) o ≡ Some v → (most n : ℕ) × IsPositive f most n d (35 ∷ d) v
    said most None eg is h = cc
    said most (Some n) eg is h = (most, n, record { numbered = eg; text = refl; number = number_sound 0 most n d is; content = (let k = h in cc) })

    go : (o : Option ℕ) → greatest f.numbers f.most ≡ o → positive_by f.most d o ≡ Some v → (most n : ℕ) × IsPositive f most n d (35 ∷ d) v
    go None eg h = cc
    go (Some most) eg h = said most (number 0 most d) eg refl h

negative_sound : (f : Form) (d v : List ℕ) → negative_of f d ≡ Some v → (most n : ℕ) × IsNegative f most n d (35 ∷ 45 ∷ d) v
negative_sound f d v e = go (depth f.numbers f.most) refl e
  where
    said : (most : ℕ) (o : Option ℕ) → depth f.numbers f.most ≡ Some most → number 1 most d ≡ o → option_map (λ n. low_num_bytes f.most (256 ^ f.most - n)) o ≡ Some v → (most n : ℕ) × IsNegative f most n d (35 ∷ 45 ∷ d) v
    said most None eg is h = cc
    said most (Some n) eg is h = (most, n, record { numbered = eg; text = refl; number = number_sound 1 most n d is; content = (let k = h in cc) })

    go : (o : Option ℕ) → depth f.numbers f.most ≡ o → negative_by f.most d o ≡ Some v → (most n : ℕ) × IsNegative f most n d (35 ∷ 45 ∷ d) v
    go None eg h = cc
    go (Some most) eg h = said most (number 1 most d) eg refl h

number_of_sound : (f : Form) (cs v : List ℕ) → number_of f cs ≡ Some v → IsValue f (35 ∷ cs) v
number_of_sound f [] v h = cc
number_of_sound f (c ∷ d) v h = elim (eqb_tells c 45) [ inl p ↦ minus p.1 (rw p.0 at h) | inr p ↦ plus (rw p.0 at h) ]
  where
    minus : c ≡ 45 → negative_of f d ≡ Some v → IsValue f (35 ∷ c ∷ d) v
    minus is k = let w = negative_sound f d v k in let P : ℕ → Type 0 = λ q. IsValue f (35 ∷ q ∷ d) v in subst P (sym is) (negative w.0 w.1 d w.2)

    plus : positive_of f (c ∷ d) ≡ Some v → IsValue f (35 ∷ c ∷ d) v
    plus k = let w = positive_sound f (c ∷ d) v k in positive w.0 w.1 (c ∷ d) w.2

-- a decimal number has a digit first
pub decimal_digits : (d : List ℕ) → is_decimal d ≡ true → (list_all is_digit d ≡ true) × (0 < length d)
unfolding is_decimal
decimal_digits [] e = cc
decimal_digits (c ∷ d) e = ((and_true _ _ e).0, omega arith)

pub digit_is : (c : ℕ) → is_digit c ≡ true → (48 ≤ c) × (c ≤ 57)
digit_is c e = (grind (arith, nat_tests), grind (arith, nat_tests))

first_digit : (c : ℕ) (d : List ℕ) → is_decimal (c ∷ d) ≡ true → (48 ≤ c) × (c ≤ 57)
first_digit c d e = digit_is c (and_true (is_digit c) (list_all is_digit d) (decimal_digits (c ∷ d) e).0).0

positive_back : (f : Form) (most n : ℕ) (d cs v : List ℕ) → IsPositive f most n d (35 ∷ cs) v → number_of f cs ≡ Some v
positive_back f most n d cs v h =
    let same : cs ≡ d = let k = h.text in cc in
    ap (λ q. number_of f q) same ∙ go d h.number
  where
    go : (d : List ℕ) → IsNumber 0 most d n → number_of f d ≡ Some v
    go [] k = let l = (decimal_digits [] k.decimal).1 in absurd (omega arith)
    go (c ∷ d) k =
        let l = first_digit c d k.decimal in
        rw (eq_no c 45 (λ q. absurd (omega arith)), h.numbered, number_back 0 most n (c ∷ d) k) (ap (λ q. Some q) (sym h.content))

negative_back : (f : Form) (most n : ℕ) (d cs v : List ℕ) → IsNegative f most n d (35 ∷ cs) v → number_of f cs ≡ Some v
negative_back f most n d cs v h =
    let same : cs ≡ 45 ∷ d = let k = h.text in cc in
    ap (λ q. number_of f q) same ∙ rw (h.numbered, number_back 1 most n d h.number) (ap (λ q. Some q) (sym h.content))

-- ---- a value

empty_sound : (f : Form) (v : List ℕ) → empty_of f ≡ Some v → IsEmpty f (45 ∷ []) v
empty_sound f v e = go f.fixed refl e
  where
    go : (b : Bool) → f.fixed ≡ b → cond b None (Some []) ≡ Some v → IsEmpty f (45 ∷ []) v
    go true is h = cc
    go false is h = record { variable = is; text = refl; content = (let k = h in cc) }

pub nil_is : (cs : List ℕ) → is_nil cs ≡ true → cs ≡ []
nil_is [] e = refl
nil_is (c ∷ cs) e = cc

pub value_sound : (f : Form) (w v : List ℕ) → value_of f w ≡ Some v → IsValue f w v
unfolding value_of
value_sound f [] v e = cc
value_sound f (c ∷ cs) v e = first (c == 39) refl e
  where
    third : (b : Bool) → (c == 45) && is_nil cs ≡ b → cond b (empty_of f) (hex_of f (c ∷ cs)) ≡ Some v → IsValue f (c ∷ cs) v
    third true is h =
        let w = and_true _ _ is in
        let P : List ℕ → Type 0 = λ q. IsValue f q v in
        subst P (sym (ap (λ q. q ∷ cs) (eq_true c 45 w.0) ∙ ap (λ q. 45 ∷ q) (nil_is cs w.1))) (empty (empty_sound f v h))
    third false is h = hex (hex_sound f (c ∷ cs) v (omega arith) h)

    second : (b : Bool) → (c == 35) ≡ b → cond b (number_of f cs) (cond ((c == 45) && is_nil cs) (empty_of f) (hex_of f (c ∷ cs))) ≡ Some v → IsValue f (c ∷ cs) v
    second true is h = let P : ℕ → Type 0 = λ q. IsValue f (q ∷ cs) v in subst P (sym (eq_true c 35 is)) (number_of_sound f cs v h)
    second false is h = third ((c == 45) && is_nil cs) refl h

    first : (b : Bool) → (c == 39) ≡ b → cond b (quoted_of f cs) (cond (c == 35) (number_of f cs) (cond ((c == 45) && is_nil cs) (empty_of f) (hex_of f (c ∷ cs)))) ≡ Some v → IsValue f (c ∷ cs) v
    first true is h = let q = quoted_sound f cs v h in let P : ℕ → Type 0 = λ k. IsValue f (k ∷ cs) v in subst P (sym (eq_true c 39 is)) (quoted q.0 q.1)
    first false is h = second (c == 35) refl h

-- a hexadecimal text has digits alone
hex_digit_is : (d : ℕ) → d < 16 → (48 ≤ hex_digit d) × (hex_digit d ≤ 70)
hex_digit_is d lt = (grind (arith, nat_tests), grind (arith, nat_tests))

abbrev pub IsPlain : ℕ → Type 0
IsPlain b = (48 ≤ b) × (b ≤ 70)

pub hex_plain : (v : List ℕ) → AllByRecursion (λ x. x < 256) v → AllByRecursion IsPlain (hex_text v)
hex_plain [] h = tt
hex_plain (x ∷ v) h = let l : x < 256 = h.0 in (hex_digit_is (x / 16) (omega arith), (hex_digit_is (x % 16) (omega arith), hex_plain v h.1))

hex_value : (f : Form) (w v : List ℕ) → IsHex f w v → value_of f w ≡ Some v
unfolding value_of
hex_value f [] v h = let n = ap length h.text in absurd (short v h.some n)
  where
    short : (v : List ℕ) → 0 < length v → 0 ≡ length (hex_text v) → ⊥
    short [] l n = omega arith
    short (x ∷ v) l n = omega arith
hex_value f (c ∷ cs) v h =
    let P : List ℕ → Type 0 = λ q. AllByRecursion IsPlain q in
    let k = (subst P (sym h.text) (hex_plain v h.bytes)).0 in
    let a = k.0 in let b = k.1 in
    rw (eq_no c 39 (λ q. absurd (omega arith)), eq_no c 35 (λ q. absurd (omega arith)), eq_no c 45 (λ q. absurd (omega arith))) (hex_back f (c ∷ cs) v h)

pub value_back : (f : Form) (w v : List ℕ) → IsValue f w v → value_of f w ≡ Some v
unfolding value_of
value_back f w v (hex h) = hex_value f w v h
value_back f [] v (quoted t h) = let k = h.text in cc
value_back f (c ∷ cs) v (quoted t h) =
    let is : c ≡ 39 = let k = h.text in cc in
    let P : ℕ → Type 0 = λ q. IsQuoted f t (q ∷ cs) v in
    rw (eq_yes c 39 is) (quoted_back f t cs v (subst P is h))
value_back f [] v (positive most n d h) = let k = h.text in cc
value_back f (c ∷ cs) v (positive most n d h) =
    let is : c ≡ 35 = let k = h.text in cc in
    let P : ℕ → Type 0 = λ q. IsPositive f most n d (q ∷ cs) v in
    rw (eq_no c 39 (λ q. absurd (omega arith)), eq_yes c 35 is) (positive_back f most n d cs v (subst P is h))
value_back f [] v (negative most n d h) = let k = h.text in cc
value_back f (c ∷ cs) v (negative most n d h) =
    let is : c ≡ 35 = let k = h.text in cc in
    let P : ℕ → Type 0 = λ q. IsNegative f most n d (q ∷ cs) v in
    rw (eq_no c 39 (λ q. absurd (omega arith)), eq_yes c 35 is) (negative_back f most n d cs v (subst P is h))
value_back f [] v (empty h) = let k = h.text in cc
value_back f (c ∷ cs) v (empty h) =
    let is : c ≡ 45 = let k = h.text in cc in
    let nil : cs ≡ [] = let k = h.text in cc in
    rw (eq_no c 39 (λ q. absurd (omega arith)), eq_no c 35 (λ q. absurd (omega arith)), eq_yes c 45 is, nil, h.variable) (ap (λ q. Some q) (sym h.content))
