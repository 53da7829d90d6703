-- How often steps say something on a line: in the steps of a script, in those that its sessions have left, and in those of a round.
use Rattle.std.proofs.Common.{◌≡◌, ℕ, ◌+◌, ◌-◌, ◌<◌, ◌≤◌, ◌==◌, ◌&&◌, not, List, [], ◌∷◌, ◌++◌, map, filter, fold, drop, length, slice_get, Option, Some, None, Bool, true, false, cond, refl, ap, sym, arith, subst, inl, inr}
use Rattle.std.specs.Prelude.{◌⊎◌, option_map}
use Rattle.std.specs.List.{AllByRecursion, flat_map, find, filter_map, cons_option, list_any, prefix_len, sum_by, take_while}
use Rattle.std.proofs.lemmas.Bool.Decides.{eqb_tells}
use Rattle.std.proofs.lemmas.List.Sums.{sum_by-cons, sum_by-append, sum_by-take-le}
use Rattle.myi_locks.specs.declared.steps.StepKind.{StepKind}
use Rattle.myi_locks.specs.declared.steps.StepKind.TheVariants.{Release, Take, Rows, Insert, Change, Unlock, Stats, End}
use Rattle.myi_locks.specs.declared.steps.Step.{Step}
use Rattle.myi_locks.specs.declared.steps.Run.{Run}
use Rattle.myi_locks.specs.declared.steps.Round.{Round}
use Rattle.myi_locks.specs.declared.steps.Round.TheVariants.{Finished}
use Rattle.myi_locks.specs.Steps.{is_insert, is_read, takes_read, comes_before}
use Rattle.myi_locks.specs.Sessions.{Session, head, earlier, first, is_next, passes, holds_any}
use Rattle.myi_locks.specs.Rounds.{LockState, next_round, case_at_once, case_write_held, case_write, case_write_waits, case_takes_read, case_together, alone, or_else, is_write, reads, run_of, session_at, inserter, together}
use Rattle.myi_locks.specs.Done.{steps_of, run_steps, after, after_any, stepped, advanced}
use Rattle.myi_locks.specs.Script.{own, numbers, with_end, added_end, is_end, session_from, opening, IsScript}
use Rattle.myi_locks.specs.Laws.{Rising}
use Rattle.myi_locks.proofs.CallerLemmas.{opens}
use Rattle.myi_history.proofs.LineOrderLemmas.{In, one_if}

-- whether a step of this kind and line says something
abbrev pub says : StepKind → ℕ → Bool
says Release n = false
says End n = not (n == 0)
says kind n = true

-- one where a step says something on line n
abbrev pub said_on : ℕ → Step → ℕ
said_on n x = cond (says x.kind x.line) (one_if x.line n) 0

abbrev pub spoken : ℕ → List Step → ℕ
spoken n xs = sum_by (said_on n) xs

abbrev pub left_spoken : ℕ → List Session → ℕ
left_spoken n ss = sum_by (λ s. spoken n s.left) ss

pub spoken_cons : (n : ℕ) (x : Step) (xs : List Step) → spoken n (x ∷ xs) ≡ said_on n x + spoken n xs
spoken_cons n x xs = sum_by-cons (said_on n) x xs

pub spoken_more : (n : ℕ) (xs ys : List Step) → spoken n (xs ++ ys) ≡ spoken n xs + spoken n ys
spoken_more n xs ys = sum_by-append (said_on n) xs ys

left_cons : (n : ℕ) (s : Session) (ss : List Session) → left_spoken n (s ∷ ss) ≡ spoken n s.left + left_spoken n ss
left_cons n s ss = sum_by-cons (λ (q : Session). spoken n q.left) s ss

-- ---- rounds only take steps away

spoken_drop : (n : ℕ) (xs : List Step) → spoken n (drop 1 xs) ≤ spoken n xs
spoken_drop n [] = omega arith
spoken_drop n (x ∷ xs) = let a = spoken_cons n x xs in omega arith

after_less : (n : ℕ) (x : Step) (s : Session) → spoken n (after_any x s).left ≤ spoken n s.left
after_less n x s = go (s.number == x.session)
  where
    go : (b : Bool) → spoken n (cond b (after x s) s).left ≤ spoken n s.left
    go true = spoken_drop n s.left
    go false = omega arith

stepped_less : (n : ℕ) (x : Step) (ss : List Session) → left_spoken n (stepped ss x) ≤ left_spoken n ss
stepped_less n x [] = omega arith
stepped_less n x (s ∷ ss) = let a = left_cons n (after_any x s) (stepped ss x) in let b = left_cons n s ss in let c = after_less n x s in let d = stepped_less n x ss in omega arith

all_less : (n : ℕ) (xs : List Step) (ss : List Session) → left_spoken n (fold stepped ss xs) ≤ left_spoken n ss
all_less n [] ss = omega arith
all_less n (x ∷ xs) ss = let a = all_less n xs (stepped ss x) in let b = stepped_less n x ss in omega arith

pub advanced_less : (n : ℕ) (r : LockState) (round : Round) → left_spoken n (advanced r round).sessions ≤ left_spoken n r.sessions
advanced_less n r round = all_less n (steps_of round) r.sessions

-- ---- a round says no more than is left

-- a step that goes alone is the next one of a session
head_less : (n : ℕ) (xs : List Step) (x : Step) → head xs ≡ Some x → said_on n x ≤ spoken n xs
head_less n [] x e = absurd (let k = e in cc)
head_less n (y ∷ ys) x e = let same : y ≡ x = (let k = e in cc) in subst (λ z. said_on n z ≤ spoken n (y ∷ ys)) same (let a = spoken_cons n y ys in omega arith)

-- each step of this is said within so much
abbrev pub Fits : ℕ → ℕ → Option Step → Type 0
Fits n total o = (x : Step) → o ≡ Some x → said_on n x ≤ total

heads_fit : (n total : ℕ) (ss : List Session) → left_spoken n ss ≤ total → AllByRecursion (λ (s : Session). Fits n total (head s.left)) ss
heads_fit n total [] le = tt
heads_fit n total (s ∷ ss) le =
    let a = left_cons n s ss in
    ((λ x e. let b = head_less n s.left x e in omega arith), heads_fit n total ss (omega arith))

earlier_fits : (n total : ℕ) (o : Option Step) (y : Step) → Fits n total o → said_on n y ≤ total → Fits n total (earlier o y)
earlier_fits n total None y f le = λ x e. let same : y ≡ x = (let k = e in cc) in subst (λ z. said_on n z ≤ total) same le
earlier_fits n total (Some a) y f le = go (comes_before y a)
  where
    go : (b : Bool) → Fits n total (cond b (Some y) (Some a))
    go true = λ x e. let same : y ≡ x = (let k = e in cc) in subst (λ z. said_on n z ≤ total) same le
    go false = f

fold_fits : (n total : ℕ) (o : Option Step) (ys : List Step) → Fits n total o → AllByRecursion (λ y. said_on n y ≤ total) ys → Fits n total (fold earlier o ys)
fold_fits n total o [] f h = f
fold_fits n total o (y ∷ ys) f h = fold_fits n total (earlier o y) ys (earlier_fits n total o y f h.0) h.1

nexts_fit : (n total : ℕ) (test : Session → Bool) (ss : List Session) → AllByRecursion (λ (s : Session). Fits n total (head s.left)) ss → AllByRecursion (λ y. said_on n y ≤ total) (filter_map (λ (s : Session). head s.left) (filter test ss))
nexts_fit n total test [] h = tt
nexts_fit n total test (s ∷ ss) h = go (test s) (nexts_fit n total test ss h.1)
  where
    next : (o : Option Step) → Fits n total o → AllByRecursion (λ y. said_on n y ≤ total) (filter_map (λ (s : Session). head s.left) (filter test ss)) → AllByRecursion (λ y. said_on n y ≤ total) (cons_option o (filter_map (λ (s : Session). head s.left) (filter test ss)))
    next None f ih = ih
    next (Some x) f ih = (f x refl, ih)

    go : (b : Bool) → AllByRecursion (λ y. said_on n y ≤ total) (filter_map (λ (s : Session). head s.left) (filter test ss)) → AllByRecursion (λ y. said_on n y ≤ total) (filter_map (λ (s : Session). head s.left) (cond b (s ∷ filter test ss) (filter test ss)))
    go true ih = next (head s.left) h.0 ih
    go false ih = ih

first_fits : (n : ℕ) (test : Session → Bool) (ss : List Session) → Fits n (left_spoken n ss) (first test ss)
first_fits n test ss = fold_fits n (left_spoken n ss) None _ (λ x e. absurd (let k = e in cc)) (nexts_fit n (left_spoken n ss) test ss (heads_fit n (left_spoken n ss) ss (omega arith)))

-- a run is a front of what its session has left
run_less : (n : ℕ) (test : StepKind → Bool) (s : Session) → spoken n (run_of test s).steps ≤ spoken n s.left
run_less n test s = sum_by-take-le (said_on n) s.left (prefix_len (λ (x : Step). test x.kind) s.left)

no_run : (p : Step → Bool) (x : Step) (xs : List Step) → p x ≡ false → take_while p (x ∷ xs) ≡ []
no_run p x xs e = rw e refl

not_both : (k : StepKind) → (is_insert k ≡ false) ⊎ (is_read k ≡ false)
not_both Insert = inr refl
not_both Rows = inl refl
not_both Release = inl refl
not_both (Take q) = inl refl
not_both Change = inl refl
not_both Unlock = inl refl
not_both Stats = inl refl
not_both End = inl refl

-- one session does not insert and read in a round
runs_less : (n : ℕ) (xs : List Step) → spoken n (take_while (λ x. is_insert x.kind) xs) + spoken n (take_while (λ x. is_read x.kind) xs) ≤ spoken n xs
runs_less n [] = omega arith
runs_less n (x ∷ xs) = elim (not_both x.kind) [
  | inl e ↦ (let a : spoken n (take_while (λ y. is_insert y.kind) (x ∷ xs)) ≡ 0 = ap (spoken n) (no_run (λ y. is_insert y.kind) x xs e) in
      let b : spoken n (take_while (λ y. is_read y.kind) (x ∷ xs)) ≤ spoken n (x ∷ xs) = sum_by-take-le (said_on n) (x ∷ xs) (prefix_len (λ y. is_read y.kind) (x ∷ xs)) in
      omega arith)
  | inr e ↦ (let a : spoken n (take_while (λ y. is_read y.kind) (x ∷ xs)) ≡ 0 = ap (spoken n) (no_run (λ y. is_read y.kind) x xs e) in
      let b : spoken n (take_while (λ y. is_insert y.kind) (x ∷ xs)) ≤ spoken n (x ∷ xs) = sum_by-take-le (said_on n) (x ∷ xs) (prefix_len (λ y. is_insert y.kind) (x ∷ xs)) in
      omega arith)
]

abbrev pub read_steps : (Session → Bool) → List Session → List Step
read_steps test ss = flat_map (λ (run : Run). run.steps) (reads test ss)

reads_less : (n : ℕ) (test : Session → Bool) (ss : List Session) → spoken n (read_steps test ss) ≤ left_spoken n ss
reads_less n test [] = omega arith
reads_less n test (u ∷ ss) = go (test u && is_next is_read u) (reads_less n test ss) (left_cons n u ss)
  where
    go : (b : Bool) → spoken n (read_steps test ss) ≤ left_spoken n ss → left_spoken n (u ∷ ss) ≡ spoken n u.left + left_spoken n ss
        → spoken n (flat_map (λ (run : Run). run.steps) (map (run_of is_read) (cond b (u ∷ filter (λ t. test t && is_next is_read t) ss) (filter (λ t. test t && is_next is_read t) ss)))) ≤ left_spoken n (u ∷ ss)
    go true ih sum = let a = spoken_more n (run_of is_read u).steps (read_steps test ss) in let b = run_less n is_read u in omega arith
    go false ih sum = omega arith

with_inserts : (n : ℕ) (test : Session → Bool) (ss : List Session) (s : Session) → In s ss → spoken n (run_of is_insert s).steps + spoken n (read_steps test ss) ≤ left_spoken n ss
with_inserts n test [] s i = absurd i
with_inserts n test (u ∷ ss) s i = go (test u && is_next is_read u) i (λ j. with_inserts n test ss s j) (left_cons n u ss)
  where
    go : (b : Bool) → (s ≡ u) ⊎ In s ss → (In s ss → spoken n (run_of is_insert s).steps + spoken n (read_steps test ss) ≤ left_spoken n ss) → left_spoken n (u ∷ ss) ≡ spoken n u.left + left_spoken n ss
        → spoken n (run_of is_insert s).steps + spoken n (flat_map (λ (run : Run). run.steps) (map (run_of is_read) (cond b (u ∷ filter (λ t. test t && is_next is_read t) ss) (filter (λ t. test t && is_next is_read t) ss)))) ≤ left_spoken n (u ∷ ss)
    go true (inl e) ih sum = rw e (let a = spoken_more n (run_of is_read u).steps (read_steps test ss) in let b = runs_less n u.left in let c = reads_less n test ss in omega arith)
    go false (inl e) ih sum = rw e (let b = run_less n is_insert u in let c = reads_less n test ss in omega arith)
    go true (inr i) ih sum = let a = spoken_more n (run_of is_read u).steps (read_steps test ss) in let b = run_less n is_read u in let c = ih i in omega arith
    go false (inr i) ih sum = let c = ih i in omega arith

found_in : (p : Session → Bool) (ss : List Session) (s : Session) → find p ss ≡ Some s → In s ss
found_in p [] s e = absurd (let k = e in cc)
found_in p (u ∷ ss) s e = go (p u) e (found_in p ss s)
  where
    go : (b : Bool) → cond b (Some u) (find p ss) ≡ Some s → (find p ss ≡ Some s → In s ss) → (s ≡ u) ⊎ In s ss
    go true e ih = inl (let k = e in cc)
    go false e ih = inr (ih e)

at_in : (o : Option Step) (ss : List Session) (s : Session) → session_at o ss ≡ Some s → In s ss
at_in None ss s e = absurd (let k = e in cc)
at_in (Some x) ss s e = found_in (λ q. q.number == x.session) ss s e

together_less : (n : ℕ) (test : Session → Bool) (ss : List Session) (o : Option Session) → ((s : Session) → o ≡ Some s → In s ss) → spoken n (run_steps (option_map (run_of is_insert) o) ++ read_steps test ss) ≤ left_spoken n ss
together_less n test ss None f = reads_less n test ss
together_less n test ss (Some s) f = let a = spoken_more n (run_of is_insert s).steps (read_steps test ss) in let b = with_inserts n test ss s (f s refl) in omega arith

-- the round that comes next
record SaysWithin (n total : ℕ) (round : Round) : Type 0 where
  pub le : spoken n (steps_of round) ≤ total

alone_less : (n total : ℕ) (o : Option Step) (more : Round) → Fits n total o → SaysWithin n total more → SaysWithin n total (alone o more)
alone_less n total None more f k = k
alone_less n total (Some x) more f k = record { le = (let a = spoken_cons n x [] in let b = f x refl in omega arith) }

waits_less : (n total : ℕ) (b : Bool) (round more : Round) → SaysWithin n total round → SaysWithin n total more → SaysWithin n total (or_else (cond b (Some round) None) more)
waits_less n total true round more k h = k
waits_less n total false round more k h = h

some_less : (n total : ℕ) (b : Bool) (more : Round) → SaysWithin n total more → SaysWithin n total (cond (not b) Finished more)
some_less n total true more h = h
some_less n total false more h = record { le = omega arith }

next_less : (n : ℕ) (r : LockState) (holes : Bool) → SaysWithin n (left_spoken n r.sessions) (next_round r holes)
unfolding next_round case_at_once case_write_held case_write case_write_waits case_takes_read case_together
next_less n r holes =
    let total = left_spoken n r.sessions in
    some_less n total _ _
    (alone_less n total _ _ (first_fits n _ r.sessions)
    (alone_less n total _ _ (first_fits n _ r.sessions)
    (alone_less n total _ _ (first_fits n _ r.sessions)
    (waits_less n total (list_any (is_write r holes) r.sessions) (together None (reads (λ s. holds_any s.held) r.sessions)) _ (record { le = reads_less n (λ s. holds_any s.held) r.sessions })
    (alone_less n total (first (is_next takes_read) r.sessions) (together (inserter r.sessions) (reads (λ s. true) r.sessions)) (first_fits n (is_next takes_read) r.sessions)
    (record { le = together_less n (λ s. true) r.sessions (session_at (first (is_next is_insert) r.sessions) r.sessions) (at_in (first (is_next is_insert) r.sessions) r.sessions) }))))))

pub round_less : (n : ℕ) (r : LockState) (holes : Bool) → spoken n (steps_of (next_round r holes)) ≤ left_spoken n r.sessions
round_less n r holes = (next_less n r holes).le

-- ---- before the first round

-- an End that is added says nothing
end_says_none : (n m : ℕ) (xs : List Step) → spoken n (with_end m xs) ≡ spoken n xs
end_says_none n m xs = go (passes is_end (slice_get xs (length xs - 1)))
  where
    go : (b : Bool) → spoken n (cond b xs (xs ++ added_end m ∷ [])) ≡ spoken n xs
    go true = refl
    go false = let a = spoken_more n xs (added_end m ∷ []) in let b = spoken_cons n (added_end m) [] in omega arith

-- the numbers of sessions rise
abbrev pub NumbersRise : List ℕ → Type 0
NumbersRise [] = Unit {0}
NumbersRise (m ∷ ms) = AllByRecursion (λ k. m < k) ms × NumbersRise ms

numbers_of : (xs : List Step) (ms : List ℕ) → Rising (map (session_from xs) ms) → NumbersRise ms
numbers_of xs [] h = tt
numbers_of xs (m ∷ ms) h = (each ms h.0, numbers_of xs ms h.1)
  where
    each : (ks : List ℕ) → AllByRecursion (λ (t : Session). m < t.number) (map (session_from xs) ks) → AllByRecursion (λ k. m < k) ks
    each [] k = tt
    each (q ∷ ks) k = (k.0, each ks k.1)

-- what the sessions of these numbers say of steps
abbrev pub shares : ℕ → List Step → List ℕ → ℕ
shares n xs ms = sum_by (λ m. spoken n (own m xs)) ms

shares_cons : (n : ℕ) (xs : List Step) (m : ℕ) (ms : List ℕ) → shares n xs (m ∷ ms) ≡ spoken n (own m xs) + shares n xs ms
shares_cons n xs m ms = sum_by-cons (λ k. spoken n (own k xs)) m ms

own_yes : (n m : ℕ) (x : Step) (xs : List Step) → x.session ≡ m → spoken n (own m (x ∷ xs)) ≡ said_on n x + spoken n (own m xs)
own_yes n m x xs e = elim (eqb_tells x.session m) [ inl p ↦ rw p.0 (spoken_cons n x (own m xs)) | inr p ↦ absurd (p.1 e) ]

own_no : (n m : ℕ) (x : Step) (xs : List Step) → (x.session ≡ m → ⊥) → spoken n (own m (x ∷ xs)) ≡ spoken n (own m xs)
own_no n m x xs ne = elim (eqb_tells x.session m) [ inl p ↦ absurd (ne p.1) | inr p ↦ rw p.0 refl ]

others_same : (n : ℕ) (x : Step) (xs : List Step) (ms : List ℕ) → AllByRecursion (λ m. x.session < m) ms → shares n (x ∷ xs) ms ≡ shares n xs ms
others_same n x xs [] h = refl
others_same n x xs (m ∷ ms) h =
    let a = shares_cons n (x ∷ xs) m ms in
    let b = shares_cons n xs m ms in
    let c = own_no n m x xs (λ e. let l : x.session < m = h.0 in absurd (omega arith)) in
    let d = others_same n x xs ms h.1 in
    omega arith

one_more : (n : ℕ) (x : Step) (xs : List Step) (ms : List ℕ) → NumbersRise ms → shares n (x ∷ xs) ms ≤ said_on n x + shares n xs ms
one_more n x xs [] h = omega arith
one_more n x xs (m ∷ ms) h =
    let a = shares_cons n (x ∷ xs) m ms in
    let b = shares_cons n xs m ms in
    elim (eqb_tells x.session m) [
      | inl p ↦ (let c = own_yes n m x xs p.1 in let d = others_same n x xs ms (subst (λ k. AllByRecursion (λ q. k < q) ms) (sym p.1) h.0) in omega arith)
      | inr p ↦ (let c = own_no n m x xs p.1 in let d = one_more n x xs ms h.1 in omega arith)
    ]

none_shared : (n : ℕ) (ms : List ℕ) → shares n [] ms ≡ 0
none_shared n [] = refl
none_shared n (m ∷ ms) = let a = shares_cons n [] m ms in let b = none_shared n ms in omega arith

shares_less : (n : ℕ) (xs : List Step) (ms : List ℕ) → NumbersRise ms → shares n xs ms ≤ spoken n xs
shares_less n [] ms h = let a = none_shared n ms in omega arith
shares_less n (x ∷ xs) ms h = let a = one_more n x xs ms h in let b = shares_less n xs ms h in let c = spoken_cons n x xs in omega arith

opened_is : (n : ℕ) (xs : List Step) (ms : List ℕ) → left_spoken n (map (session_from xs) ms) ≡ shares n xs ms
opened_is n xs [] = refl
opened_is n xs (m ∷ ms) =
    let a = left_cons n (session_from xs m) (map (session_from xs) ms) in
    let b = shares_cons n xs m ms in
    let c = end_says_none n m (own m xs) in
    let d = opened_is n xs ms in
    omega arith

pub opening_less : (n setting : ℕ) (xs : List Step) → IsScript xs → left_spoken n (opening setting xs).sessions ≤ spoken n xs
opening_less n setting xs ok =
    let a = opened_is n xs (numbers xs) in
    let b = shares_less n xs (numbers xs) (numbers_of xs (numbers xs) (opens setting xs ok).rising) in
    omega arith
