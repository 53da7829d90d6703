-- Where a value ends in a line.
use Rattle.std.proofs.Common.{◌≡◌, ℕ, ◌+◌, ◌<◌, ◌≤◌, ◌==◌, not, List, [], ◌∷◌, ◌++◌, length, take, drop, Option, Some, None, Bool, true, false, cond, refl, ap, sym, ◌∙◌, arith, subst, length-append, append_assoc}
use Rattle.std.specs.List.{AllByRecursion, list_all, prefix_len}
use Rattle.std.proofs.lemmas.Bool.Decides.{nat_tests}
use Rattle.std.proofs.lemmas.List.{take-append-drop}
use Rattle.std.proofs.Math.Seq.{take-append_seam, drop-append_seam}
use Rattle.myi_deftext.specs.Text.{is_digit, is_decimal}
use Rattle.myi_script.specs.declared.form.Form.{Form}
use Rattle.myi_script.specs.Values.{hex_text, IsPrintable, IsValue, hex, quoted, positive, negative, empty}
use Rattle.myi_script.specs.Reading.{goes_on, value_len, next_value}
use Rattle.myi_script.proofs.ValueLemmas.{and_true, eq_true, eq_yes, eq_no, IsPlain, hex_plain, decimal_digits, digit_is}

-- what may stand after a word: nothing, or a byte that ends it
abbrev pub MayFollow : (ℕ → Bool) → List ℕ → Type 0
MayFollow test [] = Unit {0}
MayFollow test (c ∷ cs) = test c ≡ false

pub run_len : (test : ℕ → Bool) (w more : List ℕ) → AllByRecursion (λ b. test b ≡ true) w → MayFollow test more → prefix_len test (w ++ more) ≡ length w
run_len test [] [] h m = refl
run_len test [] (c ∷ cs) h m = rw m refl
run_len test (b ∷ w) more h m = rw (h.0, run_len test w more h.1 m) (omega arith)

abbrev pub not_space : ℕ → Bool
not_space b = not (b == 32)

abbrev pub not_quote : ℕ → Bool
not_quote b = not (b == 39)

quote_len : (t more : List ℕ) → AllByRecursion IsPrintable t → prefix_len not_quote (t ++ 39 ∷ more) ≡ length t
quote_len [] more h = refl
quote_len (b ∷ t) more h = rw (eq_no b 39 h.0.2, quote_len t more h.1) (omega arith)

high_goes_on : (b : ℕ) → 45 ≤ b → goes_on b ≡ true
high_goes_on b le = grind (arith, nat_tests)

digit_not_space : (b : ℕ) → 48 ≤ b → not_space b ≡ true
digit_not_space b le = grind (arith, nat_tests)

-- a word whose first byte is no quote
pub word_len : (c : ℕ) (cs more : List ℕ) → (c ≡ 39 → ⊥) → AllByRecursion (λ b. goes_on b ≡ true) (c ∷ cs) → MayFollow goes_on more → value_len ((c ∷ cs) ++ more) ≡ length (c ∷ cs)
word_len c cs more ne h m = rw (eq_no c 39 ne) (run_len goes_on (c ∷ cs) more h m)

plain_goes_on : (w : List ℕ) → AllByRecursion IsPlain w → AllByRecursion (λ b. goes_on b ≡ true) w
plain_goes_on [] h = tt
plain_goes_on (b ∷ w) h = (high_goes_on b (let l = h.0.0 in omega arith), plain_goes_on w h.1)

digits_plain : (d : List ℕ) → list_all is_digit d ≡ true → AllByRecursion IsPlain d
digits_plain [] e = tt
digits_plain (c ∷ d) e = let w = and_true _ _ e in let k = digit_is c w.0 in let l = k.0 in let m = k.1 in ((omega arith, omega arith), digits_plain d w.1)

decimal_plain : (d : List ℕ) → is_decimal d ≡ true → AllByRecursion IsPlain d
decimal_plain d e = digits_plain d (decimal_digits d e).0

-- a number ends where a space stands
pub decimal_len : (d more : List ℕ) → is_decimal d ≡ true → MayFollow not_space more → prefix_len not_space (d ++ more) ≡ length d
decimal_len d more e m = run_len not_space d more (go d (decimal_plain d e)) m
  where
    go : (w : List ℕ) → AllByRecursion IsPlain w → AllByRecursion (λ b. not_space b ≡ true) w
    go [] h = tt
    go (b ∷ w) h = (digit_not_space b h.0.0, go w h.1)

hex_len : (w v more : List ℕ) → 0 < length v → w ≡ hex_text v → AllByRecursion (λ x. x < 256) v → MayFollow goes_on more → value_len (w ++ more) ≡ length w
hex_len w v more some e bytes m =
    let P : List ℕ → Type 0 = λ q. AllByRecursion IsPlain q in
    let plain = subst P (sym e) (hex_plain v bytes) in
    go w plain (long v some (ap length e))
  where
    long : (v : List ℕ) → 0 < length v → length w ≡ length (hex_text v) → 0 < length w
    long [] l n = absurd (omega arith)
    long (x ∷ v) l n = omega arith

    go : (w : List ℕ) → AllByRecursion IsPlain w → 0 < length w → value_len (w ++ more) ≡ length w
    go [] h l = absurd (omega arith)
    go (c ∷ cs) h l = word_len c cs more (λ q. let k = h.0.0 in absurd (omega arith)) (plain_goes_on (c ∷ cs) h) m

pub value_ends : (f : Form) (w v more : List ℕ) → IsValue f w v → MayFollow goes_on more → value_len (w ++ more) ≡ length w
value_ends f w v more (hex h) m = hex_len w v more h.some h.text h.bytes m
value_ends f w v more (quoted t h) m =
    ap (λ q. value_len (q ++ more)) h.text
    ∙ ap (λ q. 2 + prefix_len not_quote q) (append_assoc t (39 ∷ []) more)
    ∙ ap (λ q. 2 + q) (quote_len t more h.printable)
    ∙ (let n = ap length h.text in omega (arith, length-append t (39 ∷ [])))
value_ends f w v more (positive most n d h) m =
    ap (λ q. value_len (q ++ more)) h.text ∙ word_len 35 d more (λ q. absurd (omega arith)) (refl, plain_goes_on d (decimal_plain d h.number.decimal)) m ∙ sym (ap length h.text)
value_ends f w v more (negative most n d h) m =
    ap (λ q. value_len (q ++ more)) h.text ∙ word_len 35 (45 ∷ d) more (λ q. absurd (omega arith)) (refl, (refl, plain_goes_on d (decimal_plain d h.number.decimal))) m ∙ sym (ap length h.text)
value_ends f w v more (empty h) m =
    ap (λ q. value_len (q ++ more)) h.text ∙ word_len 45 [] more (λ q. absurd (omega arith)) (refl, tt) m ∙ sym (ap length h.text)

-- a value has a first byte, which is no star
pub value_first : (f : Form) (w v : List ℕ) → IsValue f w v → (c : ℕ) × (cs : List ℕ) × (w ≡ c ∷ cs) × (c ≡ 42 → ⊥)
value_first f w v (hex h) = go v h.some h.bytes h.text
  where
    go : (v : List ℕ) → 0 < length v → AllByRecursion (λ x. x < 256) v → w ≡ hex_text v → (c : ℕ) × (cs : List ℕ) × (w ≡ c ∷ cs) × (c ≡ 42 → ⊥)
    go [] l b e = absurd (omega arith)
    go (x ∷ v) l b e = let k = (hex_plain (x ∷ v) b).0 in let low = k.0 in (_, _, e, λ q. absurd (omega arith))
value_first f w v (quoted t h) = (39, t ++ 39 ∷ [], h.text, λ q. absurd (omega arith))
value_first f w v (positive most n d h) = (35, d, h.text, λ q. absurd (omega arith))
value_first f w v (negative most n d h) = (35, 45 ∷ d, h.text, λ q. absurd (omega arith))
value_first f w v (empty h) = (45, [], h.text, λ q. absurd (omega arith))

-- ---- the next value

pair_of : {A B : Type 0} → Option (A × B) → A × B → A × B
pair_of None d = d
pair_of (Some p) d = p

pub next_sound : (mark : ℕ) (text w more : List ℕ) → next_value mark text ≡ Some (w, more) → text ≡ mark ∷ (w ++ more)
unfolding next_value pair_of
next_sound mark [] w more e = cc
next_sound mark (c ∷ cs) w more e = go (c == mark) refl e
  where
    both : List ℕ × List ℕ
    both = (take (value_len cs) cs, drop (value_len cs) cs)

    go : (b : Bool) → (c == mark) ≡ b → cond b (Some both) None ≡ Some (w, more) → c ∷ cs ≡ mark ∷ (w ++ more)
    go true is h =
        let front : take (value_len cs) cs ≡ w = ap (λ o. (pair_of o (w, more)).0) h in
        let back : drop (value_len cs) cs ≡ more = ap (λ o. (pair_of o (w, more)).1) h in
        ap (λ q. q ∷ cs) (eq_true c mark is) ∙ ap (λ q. mark ∷ q) (sym (take-append-drop (value_len cs) cs) ∙ ap (λ q. q ++ drop (value_len cs) cs) front ∙ ap (λ q. w ++ q) back)
    go false is h = cc

pub next_back : (mark : ℕ) (w more : List ℕ) → value_len (w ++ more) ≡ length w → next_value mark (mark ∷ (w ++ more)) ≡ Some (w, more)
unfolding next_value
next_back mark w more n =
    let a : take (value_len (w ++ more)) (w ++ more) ≡ w = ap (λ q. take q (w ++ more)) n ∙ take-append_seam w more in
    let b : drop (value_len (w ++ more)) (w ++ more) ≡ more = ap (λ q. drop q (w ++ more)) n ∙ drop-append_seam w more in
    rw (eq_yes mark mark refl, a, b) refl
