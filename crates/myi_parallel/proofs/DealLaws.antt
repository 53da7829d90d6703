-- Items that are dealt out in turn.
use Rattle.std.proofs.Common.{◌≡◌, ◌≢◌, ℕ, zero, suc, ◌+◌, ◌-◌, ◌<◌, ◌≤◌, ◌⊎◌, inl, inr, List, [], ◌∷◌, ◌++◌, refl, sym, ap, ◌∙◌, arith}
use Rattle.std.specs.Prelude.{if◌then◌else◌}
use Rattle.std.proofs.lemmas.Bool.{cases_lt, le-leb, lt-leb, eq-eqb, ne_eqb}
use Rattle.myi_parallel.specs.Dealing.{dealt, others_before, next_turn}

-- how many others come before the worker's next one, behind these items
abbrev pub then_before : {X : Type 0} → ℕ → ℕ → List X → ℕ
then_before workers others [] = others
then_before workers zero (x ∷ xs) = then_before workers (workers - 1) xs
then_before workers (suc others) (x ∷ xs) = then_before workers others xs

abbrev pub one_later : ℕ → ℕ → ℕ
one_later workers zero = workers - 1
one_later workers (suc others) = others

abbrev pub if_here : {X : Type 0} → ℕ → X → List X
if_here zero x = x ∷ []
if_here (suc others) x = []

pub dealt_more : {X : Type 0} (workers others : ℕ) (xs : List X) (x : X) → dealt workers others (xs ++ x ∷ []) ≡ dealt workers others xs ++ if_here (then_before workers others xs) x
dealt_more workers zero [] x = refl
dealt_more workers (suc others) [] x = refl
dealt_more workers zero (y ∷ xs) x = ap (λ l. y ∷ l) (dealt_more workers (workers - 1) xs x)
dealt_more workers (suc others) (y ∷ xs) x = dealt_more workers others xs x

pub before_more : {X : Type 0} (workers others : ℕ) (xs : List X) (x : X) → then_before workers others (xs ++ x ∷ []) ≡ one_later workers (then_before workers others xs)
before_more workers zero [] x = refl
before_more workers (suc others) [] x = refl
before_more workers zero (y ∷ xs) x = before_more workers (workers - 1) xs x
before_more workers (suc others) (y ∷ xs) x = before_more workers others xs x

-- ---- whose turn it is

pub others_at : (workers turn worker : ℕ) → turn ≤ worker → others_before workers turn worker ≡ worker - turn
others_at workers turn worker le = ap (λ b. if b then worker - turn else worker + workers - turn) (le-leb turn worker le)

pub others_past : (workers turn worker : ℕ) → worker < turn → others_before workers turn worker ≡ worker + workers - turn
others_past workers turn worker lt = ap (λ b. if b then worker - turn else worker + workers - turn) (lt-leb turn worker lt)

pub next_last : (workers turn : ℕ) → turn + 1 ≡ workers → next_turn workers turn ≡ 0
next_last workers turn is = ap (λ b. if b then 0 else turn + 1) (eq-eqb (turn + 1) workers is)

pub next_more : (workers turn : ℕ) → turn + 1 < workers → next_turn workers turn ≡ turn + 1
next_more workers turn lt = ap (λ b. if b then 0 else turn + 1) (ne_eqb (turn + 1) workers (λ is. absurd (omega (arith, is, lt))))

pub one_later_zero : (workers n : ℕ) → n ≡ 0 → one_later workers n ≡ workers - 1
one_later_zero workers zero is = refl
one_later_zero workers (suc n) is = absurd (omega arith)

pub one_later_more : (workers n : ℕ) → 0 < n → one_later workers n ≡ n - 1
one_later_more workers zero more = absurd (omega arith)
one_later_more workers (suc n) more = omega arith

pub here_zero : {X : Type 0} (n : ℕ) (x : X) → n ≡ 0 → if_here n x ≡ x ∷ []
here_zero zero x is = refl
here_zero (suc n) x is = absurd (omega arith)

pub here_more : {X : Type 0} (n : ℕ) (x : X) → 0 < n → if_here n x ≡ []
here_more zero x more = absurd (omega arith)
here_more (suc n) x more = refl

pub dealt_zero : {X : Type 0} (workers n : ℕ) (x : X) (xs : List X) → n ≡ 0 → dealt workers n (x ∷ xs) ≡ x ∷ dealt workers (workers - 1) xs
dealt_zero workers zero x xs is = refl
dealt_zero workers (suc n) x xs is = absurd (omega arith)

pub dealt_tail : {X : Type 0} (workers n : ℕ) (x : X) (xs : List X) → 0 < n → dealt workers n (x ∷ xs) ≡ dealt workers (one_later workers n) xs
dealt_tail workers zero x xs more = absurd (omega arith)
dealt_tail workers (suc n) x xs more = refl

pub same_or : (a b : ℕ) → (a ≡ b) ⊎ (a ≢ b)
same_or a b = by (cases_lt a b) (cases_lt b a)
  where
    by : (a < b) ⊎ (b ≤ a) → (b < a) ⊎ (a ≤ b) → (a ≡ b) ⊎ (a ≢ b)
    by (inl lt) other = inr (λ e. absurd (omega (arith, lt, e)))
    by (inr le) (inl lt) = inr (λ e. absurd (omega (arith, lt, e)))
    by (inr le) (inr ge) = inl (omega (arith, le, ge))

pub others_here : (workers turn : ℕ) → others_before workers turn turn ≡ 0
others_here workers turn = others_at workers turn turn (omega arith) ∙ omega arith

pub others_else : (workers turn worker : ℕ) → turn < workers → worker ≢ turn → 0 < others_before workers turn worker
others_else workers turn worker inside differs = by (cases_lt worker turn)
  where
    by : (worker < turn) ⊎ (turn ≤ worker) → 0 < others_before workers turn worker
    by (inl lt) = omega (arith, others_past workers turn worker lt, inside)
    by (inr le) = past (cases_lt turn worker)
      where
        past : (turn < worker) ⊎ (worker ≤ turn) → 0 < others_before workers turn worker
        past (inl lt) = omega (arith, others_at workers turn worker le, lt)
        past (inr ge) = absurd (differs (omega (arith, le, ge)))

-- how many come before a worker, once the one whose turn it is had its turn
pub next_before : (workers turn worker : ℕ) → turn < workers → worker < workers → one_later workers (others_before workers turn worker) ≡ others_before workers (next_turn workers turn) worker
next_before workers turn worker inside within = by (cases_lt (turn + 1) workers) (cases_lt worker turn) (cases_lt turn worker)
  where
    last_is : workers ≤ turn + 1 → turn + 1 ≡ workers
    last_is le = omega (arith, le, inside)

    by : (turn + 1 < workers) ⊎ (workers ≤ turn + 1) → (worker < turn) ⊎ (turn ≤ worker) → (turn < worker) ⊎ (worker ≤ turn) → one_later workers (others_before workers turn worker) ≡ others_before workers (next_turn workers turn) worker
    by (inl more) (inl lt) third =
        let was = others_past workers turn worker lt in
        one_later_more workers (others_before workers turn worker) (omega (arith, was, inside)) ∙ (omega (arith, was, others_past workers (turn + 1) worker (omega (arith, lt)), lt, inside) ∙ ap (λ t. others_before workers t worker) (sym (next_more workers turn more)))
    by (inl more) (inr le) (inl gt) =
        let was = others_at workers turn worker le in
        one_later_more workers (others_before workers turn worker) (omega (arith, was, gt)) ∙ (omega (arith, was, others_at workers (turn + 1) worker (omega (arith, gt)), gt) ∙ ap (λ t. others_before workers t worker) (sym (next_more workers turn more)))
    by (inl more) (inr le) (inr ge) =
        let was = others_at workers turn worker le in
        one_later_zero workers (others_before workers turn worker) (omega (arith, was, le, ge)) ∙ (omega (arith, others_past workers (turn + 1) worker (omega (arith, ge)), le, ge, inside) ∙ ap (λ t. others_before workers t worker) (sym (next_more workers turn more)))
    by (inr end) (inl lt) third =
        let was = others_past workers turn worker lt in
        one_later_more workers (others_before workers turn worker) (omega (arith, was, inside)) ∙ (omega (arith, was, others_at workers 0 worker (omega arith), lt, end, inside) ∙ ap (λ t. others_before workers t worker) (sym (next_last workers turn (last_is end))))
    by (inr end) (inr le) (inl gt) = absurd (omega (arith, end, gt, within))
    by (inr end) (inr le) (inr ge) =
        let was = others_at workers turn worker le in
        one_later_zero workers (others_before workers turn worker) (omega (arith, was, le, ge)) ∙ (omega (arith, others_at workers 0 worker (omega arith), le, ge, end, inside) ∙ ap (λ t. others_before workers t worker) (sym (next_last workers turn (last_is end))))

pub next_inside : (workers turn : ℕ) → turn < workers → next_turn workers turn < workers
next_inside workers turn inside = by (cases_lt (turn + 1) workers)
  where
    by : (turn + 1 < workers) ⊎ (workers ≤ turn + 1) → next_turn workers turn < workers
    by (inl more) = omega (arith, next_more workers turn more, more)
    by (inr end) = omega (arith, next_last workers turn (omega (arith, end, inside)), inside)
