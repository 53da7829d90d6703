-- The statement of a line, among lines whose numbers rise.
use Rattle.std.proofs.Common.{◌≡◌, ℕ, zero, suc, ◌+◌, ◌<◌, ◌≤◌, Bool, true, false, eqb, cond, List, [], ◌∷◌, length, get_or, Option, Some, None, refl, sym, ap, ◌∙◌, arith}
use Rattle.std.specs.Prelude.{IfSome, option_map, nat_lt}
use Rattle.std.specs.List.{AllByRecursion, find}
use Rattle.std.specs.List.Sorted.{IsNonDecreasingBy, IsPartitionPoint, IsPartitionedBy}
use Rattle.std.proofs.lemmas.Bool.{ltb-true, ne_eqb, eqb-false}
use Rattle.std.proofs.lemmas.List.Sorted.{IsPartitionedBy-ltb}
use Rattle.myi_script.specs.declared.types.Act.{Act}
use Rattle.myi_script.specs.declared.types.Line.{Line}
use Rattle.myi_history.specs.Lines.{act_of, LinesGrow}

-- what all statements meet, that of a line meets
pub act_meets : (P : Act → Type 0) (ls : List Line) (n : ℕ) → AllByRecursion (λ (l : Line). P l.act) ls → IfSome (act_of ls n) P
act_meets P [] n all = tt
act_meets P (l ∷ ls) n all = here (eqb l.line n) refl (act_meets P ls n all.1) where
  here : (b : Bool) → eqb l.line n ≡ b → IfSome (act_of ls n) P → IfSome (act_of (l ∷ ls) n) P
  here true is more = rw is all.0
  here false is more = rw is more

low_at : (low : ℕ) (ls : List Line) (i : ℕ) (d : Line) → LinesGrow low ls → i < length ls → low ≤ (get_or ls i d).line
low_at low [] i d grow lt = absurd (omega (arith, lt))
low_at low (l ∷ ls) zero d grow lt = grow.0
low_at low (l ∷ ls) (suc i) d grow lt = let more = low_at (l.line + 1) ls i d grow.1 (omega (arith, lt)) in let first = grow.0 in omega (arith, more, first)

rising : (low : ℕ) (ls : List Line) → LinesGrow low ls → IsNonDecreasingBy (λ (l : Line). l.line) ls
rising low [] grow i j d le lt = absurd (omega (arith, lt))
rising low (l ∷ ls) grow zero zero d le lt = omega arith
rising low (l ∷ ls) grow zero (suc j) d le lt = let more = low_at (l.line + 1) ls j d grow.1 (omega (arith, lt)) in omega (arith, more)
rising low (l ∷ ls) grow (suc i) zero d le lt = absurd (omega (arith, le))
rising low (l ∷ ls) grow (suc i) (suc j) d le lt = rising (l.line + 1) ls grow.1 i j d (omega (arith, le)) (omega (arith, lt))

pub is_parted : (n low : ℕ) (ls : List Line) → LinesGrow low ls → IsPartitionedBy (λ (l : Line). nat_lt l.line n) ls
is_parted n low ls grow = IsPartitionedBy-ltb (λ (l : Line). l.line) ls n (rising low ls grow)

none_above : (n low : ℕ) (ls : List Line) → LinesGrow low ls → n < low → find (λ (l : Line). eqb l.line n) ls ≡ None
none_above n low [] grow lt = refl
none_above n low (l ∷ ls) grow lt =
    let first = grow.0 in
    let apart : eqb l.line n ≡ false = ne_eqb l.line n (λ e. omega (arith, e, first, lt)) in
    rw apart (none_above n (l.line + 1) ls grow.1 (omega (arith, first, lt)))

-- the statement of a line, where it has that number
abbrev at_line : Line → ℕ → Option Act
at_line l n = cond (eqb l.line n) (Some l.act) None

pub act_at : (n low : ℕ) (ls : List Line) (i : ℕ) (d : Line) → LinesGrow low ls → IsPartitionPoint (λ (l : Line). nat_lt l.line n ≡ true) (λ (l : Line). nat_lt l.line n ≡ false) ls i → i < length ls
    → act_of ls n ≡ cond (eqb (get_or ls i d).line n) (Some (get_or ls i d).act) None
act_at n low [] i d grow point lt = absurd (omega (arith, lt))
act_at n low (l ∷ ls) zero d grow point lt = here (eqb l.line n) refl where
  above : eqb l.line n ≡ false → n < l.line + 1
  above apart = high (nat_lt n (l.line + 1)) refl where
    high : (b : Bool) → nat_lt n (l.line + 1) ≡ b → n < l.line + 1
    high true is = ltb-true n (l.line + 1) is
    high false is = absurd (bad (nat_lt l.line n) refl) where
      bad : (b : Bool) → nat_lt l.line n ≡ b → ⊥
      bad true is2 = let k = point.1 0 d (omega arith) lt in cc
      bad false is2 = grind (arith, is, is2)

  here : (b : Bool) → eqb l.line n ≡ b → act_of (l ∷ ls) n ≡ cond (eqb l.line n) (Some l.act) None
  here true is = rw is refl
  here false is = rw is (ap (option_map (λ (m : Line). m.act)) (none_above n (l.line + 1) ls grow.1 (above is)))
act_at n low (l ∷ ls) (suc i) d grow point lt =
    let before : l.line < n = ltb-true l.line n (point.0 0 d (omega arith) (omega arith)) in
    let apart : eqb l.line n ≡ false = ne_eqb l.line n (λ e. omega (arith, e, before)) in
    rw apart (act_at n (l.line + 1) ls i d grow.1 ((λ k e low high. point.0 (suc k) e (omega arith) (omega (arith, high))), (λ k e low high. point.1 (suc k) e (omega (arith, low)) (omega (arith, high)))) (omega (arith, lt)))

pub act_none : (n : ℕ) (ls : List Line) → IsPartitionPoint (λ (l : Line). nat_lt l.line n ≡ true) (λ (l : Line). nat_lt l.line n ≡ false) ls (length ls) → act_of ls n ≡ None
act_none n [] point = refl
act_none n (l ∷ ls) point =
    let before : l.line < n = ltb-true l.line n (point.0 0 l (omega arith) (omega arith)) in
    let apart : eqb l.line n ≡ false = ne_eqb l.line n (λ e. omega (arith, e, before)) in
    rw apart (act_none n ls ((λ k e low high. point.0 (suc k) e (omega arith) (omega (arith, high))), (λ k e low high. absurd (omega (arith, low, high)))))

same_eqb : (n : ℕ) → eqb n n ≡ true
same_eqb n = by_test (eqb n n) refl where
  by_test : (b : Bool) → eqb n n ≡ b → eqb n n ≡ true
  by_test true is = is
  by_test false is = absurd (eqb-false n n is refl)

pub act_found : (n low : ℕ) (ls : List Line) (i : ℕ) (r : Line) → LinesGrow low ls → IsPartitionPoint (λ (l : Line). nat_lt l.line n ≡ true) (λ (l : Line). nat_lt l.line n ≡ false) ls i → i < length ls → r ≡ get_or ls i r → r.line ≡ n
    → ◌≡◌ {A = Option Act} (Some r.act) (act_of ls n)
act_found n low ls i r grow point lt is same =
    let at = act_at n low ls i r grow point lt in
    let one : at_line r n ≡ Some r.act = ap (λ k. cond (eqb k n) (Some r.act) None) same ∙ ap (λ b. cond b (Some r.act) None) (same_eqb n) in
    sym (at ∙ ap (λ l. at_line l n) (sym is) ∙ one)

pub act_missed : (n low : ℕ) (ls : List Line) (i : ℕ) (r : Line) → LinesGrow low ls → IsPartitionPoint (λ (l : Line). nat_lt l.line n ≡ true) (λ (l : Line). nat_lt l.line n ≡ false) ls i → i < length ls → r ≡ get_or ls i r → (r.line ≡ n → ⊥)
    → ◌≡◌ {A = Option Act} None (act_of ls n)
act_missed n low ls i r grow point lt is other =
    let at = act_at n low ls i r grow point lt in
    sym (at ∙ ap (λ l. at_line l n) (sym is) ∙ ap (λ b. cond b (Some r.act) None) (ne_eqb r.line n other))
