-- The sessions that steps are placed into are those of the script.
use Rattle.std.proofs.Common.{◌≡◌, ℕ, zero, suc, ◌<◌, ◌≤◌, ◌+◌, ◌==◌, ◌||◌, List, [], ◌∷◌, ◌++◌, map, fold, None, Bool, true, false, cond, nat_lt, refl, ap, sym, inl, inr, ◌∙◌, arith, length, get_or, take, drop, add-one, append_assoc, subst}
use Rattle.std.specs.Prelude.{◌⊎◌}
use Rattle.std.proofs.lemmas.Bool.Decides.{nat_tests, eqb_tells}
use Rattle.std.proofs.lemmas.List.{append-nil, get_or_default}
use Rattle.std.proofs.lemmas.List.Sums.{fold-append}
use Rattle.std.proofs.lemmas.List.Edits.{map_over_more}
use Rattle.std.proofs.Math.ListN.{set}
use Rattle.std.proofs.Math.Seq.{drop-cons}
use Rattle.std.specs.List.{AllByRecursion, list_any}
use Rattle.myi_locks.specs.declared.steps.Step.{Step}
use Rattle.myi_locks.specs.Sessions.{Session}
use Rattle.myi_locks.specs.Script.{with_end, own, numbers, with_number, opening}
use Rattle.myi_locks.specs.Placing.{placed, all_placed, ended, begun, with_step}

-- one more element of a loop that changes each
pub map_step : (f : Session → Session) (xs ys : List Session) (i : ℕ) (d y : Session) → i < length xs → ys ≡ map f (take i xs) ++ drop i xs → d ≡ get_or ys i d → y ≡ f (get_or ys i d)
    → set ys i y ≡ map f (take (i + 1) xs) ++ drop (i + 1) xs
map_step f xs ys i d y lt so is made = ap (λ q. set ys i q) (made ∙ ap f (sym is)) ∙ map_over_more f xs ys i d lt so is

-- a session with the steps of its own
abbrev pub with_own : List Step → ℕ → Session
with_own xs n = record { number = n; left = own n xs; held = None }

-- the numbers of sessions rise
abbrev pub Rise : List ℕ → Type 0
Rise [] = Unit {0}
Rise (n ∷ ns) = AllByRecursion (λ m. n < m) ns × Rise ns

eq_no : (a b : ℕ) → (a ≡ b → ⊥) → (a == b) ≡ false
eq_no a b ne = grind (arith, nat_tests)

eq_yes : (a b : ℕ) → a ≡ b → (a == b) ≡ true
eq_yes a b e = grind (arith, nat_tests)

lt_cases : (a b : ℕ) → (a < b) ⊎ (b ≤ a)
lt_cases a b = grind (arith, nat_tests)

lt_no : (a b : ℕ) → b ≤ a → nat_lt a b ≡ false
lt_no a b h = grind (arith, nat_tests)

lt_yes : (a b : ℕ) → a < b → nat_lt a b ≡ true
lt_yes a b h = grind (arith, nat_tests)

pub own-more : (n : ℕ) (xs ys : List Step) → own n (xs ++ ys) ≡ own n xs ++ own n ys
own-more n [] ys = refl
own-more n (x ∷ xs) ys = split (x.session == n) (own-more n xs ys)
  where
    split : (b : Bool) → own n (xs ++ ys) ≡ own n xs ++ own n ys → cond b (x ∷ own n (xs ++ ys)) (own n (xs ++ ys)) ≡ cond b (x ∷ own n xs) (own n xs) ++ own n ys
    split true ih = ap (λ q. x ∷ q) ih
    split false ih = ih

own-other : (n : ℕ) (xs : List Step) (x : Step) → (x.session ≡ n → ⊥) → own n (xs ++ x ∷ []) ≡ own n xs
own-other n xs x ne = own-more n xs (x ∷ []) ∙ rw (eq_no x.session n ne) (append-nil (own n xs))

own-same : (n : ℕ) (xs : List Step) (x : Step) → x.session ≡ n → own n (xs ++ x ∷ []) ≡ own n xs ++ x ∷ []
own-same n xs x e = own-more n xs (x ∷ []) ∙ rw (eq_yes x.session n e) refl

-- sessions of other numbers keep their steps
others_same : (ns : List ℕ) (xs : List Step) (x : Step) → AllByRecursion (λ m. x.session < m) ns → map (with_own xs) ns ≡ map (with_own (xs ++ x ∷ [])) ns
others_same [] xs x h = refl
others_same (n ∷ ns) xs x h = ap2 (sym (own-other n xs x (λ e. let l : x.session < n = h.0 in absurd (omega arith)))) (others_same ns xs x h.1)
  where
    ap2 : {a b : List Step} {p q : List Session} → a ≡ b → p ≡ q → record { number = n; left = a; held = None } ∷ p ≡ record { number = n; left = b; held = None } ∷ q
    ap2 e f = cc

rise_more : (n k : ℕ) (ns : List ℕ) → n < k → AllByRecursion (λ m. n < m) ns → AllByRecursion (λ m. n < m) (with_number k ns)
rise_more n k [] lt h = (lt, tt)
rise_more n k (m ∷ ms) lt h = go (k == m) (nat_lt k m) (rise_more n k ms lt h.1)
  where
    go : (a b : Bool) → AllByRecursion (λ m. n < m) (with_number k ms) → AllByRecursion (λ m. n < m) (cond a (m ∷ ms) (cond b (k ∷ m ∷ ms) (m ∷ with_number k ms)))
    go true b ih = h
    go false true ih = (lt, h)
    go false false ih = (h.0, ih)

above : (k m : ℕ) (ms : List ℕ) → k < m → AllByRecursion (λ q. m < q) ms → AllByRecursion (λ q. k < q) ms
above k m [] lt h = tt
above k m (q ∷ qs) lt h = (let l : m < q = h.0 in omega arith, above k m qs lt h.1)

pub rise_with : (k : ℕ) (ns : List ℕ) → Rise ns → Rise (with_number k ns)
rise_with k [] h = (tt, tt)
rise_with k (m ∷ ms) h = elim (eqb_tells k m) [ inl p ↦ rw (eq_yes k m p.1) h | inr p ↦ less p.1 (rise_with k ms h.1) ]
  where
    less : (k ≡ m → ⊥) → Rise (with_number k ms) → Rise (with_number k (m ∷ ms))
    less ne ih = rw (eq_no k m ne) (elim (lt_cases k m) [ inl l ↦ rw (lt_yes k m l) ((l, above k m ms l h.0), h) | inr l ↦ rw (lt_no k m l) (rise_more m k ms (omega arith) h.0, ih) ])

-- no session of these numbers has that number
pub none_here : (k : ℕ) (ns : List ℕ) → AllByRecursion (λ m. k < m) ns → list_any (λ m. m == k) ns ≡ false
none_here k [] h = refl
none_here k (m ∷ ms) h = rw (eq_no m k (λ e. let l : k < m = h.0 in absurd (omega arith))) (none_here k ms h.1)

place_one : (ns : List ℕ) (xs : List Step) (x : Step) → Rise ns → (list_any (λ m. m == x.session) ns ≡ false → own x.session xs ≡ [])
    → placed x (map (with_own xs) ns) ≡ map (with_own (xs ++ x ∷ [])) (with_number x.session ns)
place_one [] xs x h none = ap (λ q. record { number = x.session; left = q; held = None } ∷ []) (sym (own-same x.session xs x refl ∙ ap (λ q. q ++ x ∷ []) (none refl)))
place_one (m ∷ ms) xs x h none = elim (lt_cases m x.session) [ inl l ↦ below l (λ e. place_one ms xs x h.1 e) | inr l ↦ elim (eqb_tells m x.session) [ inl p ↦ same p.1 | inr p ↦ new (omega arith) ] ]
  where
    below : m < x.session → ((list_any (λ q. q == x.session) ms ≡ false → own x.session xs ≡ []) → placed x (map (with_own xs) ms) ≡ map (with_own (xs ++ x ∷ [])) (with_number x.session ms)) → placed x (map (with_own xs) (m ∷ ms)) ≡ map (with_own (xs ++ x ∷ [])) (with_number x.session (m ∷ ms))
    below l ih = rw (lt_yes m x.session l, eq_no x.session m (λ e. absurd (omega arith)), lt_no x.session m (omega arith), own-other m xs x (λ e. absurd (omega arith)))
        (ap (λ q. with_own xs m ∷ q) (ih (λ e. none (rw (eq_no m x.session (λ e2. absurd (omega arith))) e))))

    same : m ≡ x.session → placed x (map (with_own xs) (m ∷ ms)) ≡ map (with_own (xs ++ x ∷ [])) (with_number x.session (m ∷ ms))
    same e = rw (lt_no m x.session (omega arith), eq_yes m x.session e, eq_yes x.session m (sym e), own-same m xs x (sym e))
        (ap (λ q. with_step x (with_own xs m) ∷ q) (others_same ms xs x (let P : ℕ → Type 0 = λ k. AllByRecursion (λ q. k < q) ms in subst P e h.0)))

    new : x.session < m → placed x (map (with_own xs) (m ∷ ms)) ≡ map (with_own (xs ++ x ∷ [])) (with_number x.session (m ∷ ms))
    new l = rw (lt_no m x.session (omega arith), eq_no m x.session (λ e. absurd (omega arith)), eq_no x.session m (λ e. absurd (omega arith)), lt_yes x.session m l)
        (let first = own-same x.session xs x refl ∙ ap (λ q. q ++ x ∷ []) (none (none_here x.session (m ∷ ms) (l, above x.session m ms l h.0))) in
        let rest = others_same (m ∷ ms) xs x (l, above x.session m ms l h.0) in
        rw first (ap (λ q. begun x ∷ q) rest))

pub numbers-more : (xs : List Step) (x : Step) → numbers (xs ++ x ∷ []) ≡ with_number x.session (numbers xs)
numbers-more xs x = fold-append (λ ns y. with_number y.session ns) [] xs (x ∷ [])

again : (a b : Bool) → a || b ≡ a || (a || b)
again true b = refl
again false b = refl

turn : (a b c : Bool) → a || (b || c) ≡ b || (a || c)
turn true true c = refl
turn true false c = refl
turn false b c = refl

-- a number that is put in is there, and the others stay
with_same : (k n : ℕ) (ns : List ℕ) → list_any (λ m. m == n) (with_number k ns) ≡ (k == n) || list_any (λ m. m == n) ns
with_same k n [] = refl
with_same k n (m ∷ ms) = go (nat_lt k m) (eqb_tells k m) (with_same k n ms)
  where
    go : (b : Bool) → (((k == m) ≡ true) × (k ≡ m)) ⊎ (((k == m) ≡ false) × (k ≡ m → ⊥)) → list_any (λ m. m == n) (with_number k ms) ≡ (k == n) || list_any (λ m. m == n) ms
        → list_any (λ m. m == n) (cond (k == m) (m ∷ ms) (cond b (k ∷ m ∷ ms) (m ∷ with_number k ms))) ≡ (k == n) || ((m == n) || list_any (λ m. m == n) ms)
    go b (inl p) ih = rw (p.0, p.1) (again (m == n) (list_any (λ m. m == n) ms))
    go true (inr p) ih = rw p.0 refl
    go false (inr p) ih = rw (p.0, ih) (turn (m == n) (k == n) (list_any (λ m. m == n) ms))

or_false : (a b : Bool) → (a || b) ≡ false → (a ≡ false) × (b ≡ false)
or_false true b e = cc
or_false false b e = (refl, e)

none_more : (xs : List Step) (x : Step) → ((n : ℕ) → list_any (λ m. m == n) (numbers xs) ≡ false → own n xs ≡ []) → (n : ℕ) → list_any (λ m. m == n) (with_number x.session (numbers xs)) ≡ false → own n (xs ++ x ∷ []) ≡ []
none_more xs x none n e =
    let both = or_false (x.session == n) (list_any (λ m. m == n) (numbers xs)) (sym (with_same x.session n (numbers xs)) ∙ e) in
    own-more n xs (x ∷ []) ∙ rw (none n both.1, both.0) refl

-- what is placed so far, and the rest
pub gathers : (front xs : List Step) → Rise (numbers front) → ((n : ℕ) → list_any (λ m. m == n) (numbers front) ≡ false → own n front ≡ [])
    → fold (λ ss x. placed x ss) (map (with_own front) (numbers front)) xs ≡ map (with_own (front ++ xs)) (numbers (front ++ xs))
gathers front [] h none = rw append-nil refl
gathers front (x ∷ xs) h none =
    ap (λ q. fold (λ ss x. placed x ss) q xs) (place_one (numbers front) front x h (none x.session) ∙ ap (λ q. map (with_own (front ++ x ∷ [])) q) (sym (numbers-more front x)))
    ∙ gathers (front ++ x ∷ []) xs (rw numbers-more (rise_with x.session (numbers front) h)) (λ n e. none_more front x none n (rw numbers-more at e))
    ∙ ap (λ q. map (with_own q) (numbers q)) (append_assoc front (x ∷ []) xs)

pub opened : (setting : ℕ) (xs : List Step) → map ended (all_placed xs) ≡ (opening setting xs).sessions
opened setting xs = ap (λ q. map ended q) (gathers [] xs tt (λ n e. refl)) ∙ map_map (numbers xs)
  where
    map_map : (ns : List ℕ) → map ended (map (with_own xs) ns) ≡ map (λ n. record { number = n; left = with_end n (own n xs); held = None }) ns
    map_map [] = refl
    map_map (n ∷ ns) = ap (λ q. record { number = n; left = with_end n (own n xs); held = None } ∷ q) (map_map ns)

-- a step placed where its session is
set_split : (ss : List Session) (at : ℕ) (y : Session) → at < length ss → set ss at y ≡ take at ss ++ y ∷ drop (at + 1) ss
set_split [] at y lt = absurd (omega arith)
set_split (s ∷ ss) zero y lt = refl
set_split (s ∷ ss) (suc at) y lt = rw add-one (ap (λ q. s ∷ q) (set_split ss at y (omega arith) ∙ rw add-one refl))

placed_at : (x : Step) (s : Session) (ss : List Session) → s.number ≡ x.session → placed x (s ∷ ss) ≡ with_step x s ∷ ss
placed_at x s ss e = rw (lt_no s.number x.session (omega arith), eq_yes s.number x.session e) refl

drop_here : (ss : List Session) (at : ℕ) (d : Session) → at < length ss → d ≡ get_or ss at d → drop at ss ≡ d ∷ drop (at + 1) ss
drop_here ss at d lt is = rw (add-one, drop-cons ss at d lt, ← is) refl

pub placed_here : (x : Step) (ss : List Session) (at : ℕ) (d e y : Session) → at < length ss → take at ss ++ placed x (drop at ss) ≡ placed x ss → d ≡ get_or ss at d → e ≡ get_or ss at e → e.number ≡ x.session
    → y ≡ with_step x d → set ss at y ≡ placed x ss
placed_here x ss at d e y lt so is is2 same made =
    let de : d ≡ e = is ∙ get_or_default ss at d e lt ∙ sym is2 in
    set_split ss at y lt
    ∙ ap (λ q. take at ss ++ q ∷ drop (at + 1) ss) made
    ∙ ap (λ q. take at ss ++ q) (sym (ap (λ q. placed x q) (drop_here ss at d lt is) ∙ placed_at x d (drop (at + 1) ss) (ap (λ (q : Session). q.number) de ∙ same)))
    ∙ so
