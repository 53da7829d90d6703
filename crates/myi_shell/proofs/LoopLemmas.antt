-- Loops over the steps of a run, and over the runs of a round.
use Rattle.std.proofs.Common.{◌≡◌, ℕ, zero, suc, ◌+◌, ◌<◌, ◌≤◌, Bool, true, List, [], ◌∷◌, ◌++◌, map, drop, length, get_or, Option, Result, Ok, Err, OnOk, refl, sym, ap, subst, ◌∙◌, arith, append_assoc}
use Rattle.std.proofs.lemmas.List.{append-nil, map-append, length-append}
use Rattle.std.specs.List.{flat_map}
use Rattle.myi_base.specs.Holding.{Holding}
use Rattle.myi_defs.specs.declared.types.Defs.{Defs}
use Rattle.myi_state.specs.State.{TableState}
use Rattle.myi_locks.specs.declared.steps.Step.{Step}
use Rattle.myi_locks.specs.declared.steps.Run.{Run}
use Rattle.myi_script.specs.declared.types.Line.{Line}
use Rattle.myi_script.specs.declared.types.Act.{Act}
use Rattle.myi_history.specs.Lines.{act_of}
use Rattle.myi_history.specs.Answers.{answer_on}
use Rattle.myi_shell.specs.declared.reading.Snapshot.{Snapshot}
use Rattle.myi_history.specs.History.{Taking, Statements, asks, changes, state_after, stepped_by, accepted_of}
use Rattle.myi_history.specs.RoundTexts.{LineText, text_of, texts_of}
use Rattle.myi_shell.specs.declared.target.Target.{Target}
use Rattle.myi_shell.specs.Targets.{Standing, moved, taking, script_on, defs_in, HoldsThen, IfHolds, StillHolds}
use Rattle.myi_shell.specs.Stepping.{RunState, seen_by, read_answer, read_by, writes_by, AreDone}
use Rattle.myi_shell.proofs.StepLemmas.{IsHalfDone, writes_first}

pub drop_more : {A : Type 0} (xs : List A) (i : ℕ) (d : A) → i < length xs → drop i xs ≡ get_or xs i d ∷ drop (i + 1) xs
drop_more [] i d lt = absurd (omega (arith, lt))
drop_more (y ∷ ys) zero d lt = refl
drop_more (y ∷ ys) (suc i) d lt =
    let e : suc (i + 1) ≡ suc i + 1 = omega arith in
    drop_more ys i d (omega (arith, lt)) ∙ ap (λ zs. get_or ys i d ∷ zs) (ap (λ n. drop n (y ∷ ys)) e)

pub drop_none : {A : Type 0} (xs : List A) (i : ℕ) → length xs ≤ i → drop i xs ≡ []
drop_none [] zero out = refl
drop_none [] (suc i) out = refl
drop_none (y ∷ ys) zero out = absurd (omega (arith, out))
drop_none (y ∷ ys) (suc i) out = drop_none ys i (omega (arith, out))

-- texts that are added one by one
pub text_more : {A : Type 0} (f : A → List LineText) (all : List A → List LineText) → ((x : A) (xs : List A) → all (x ∷ xs) ≡ f x ++ all xs)
    → (old half new : List LineText) (xs : List A) (i : ℕ) (d : A) → i < length xs → half ++ all (drop i xs) ≡ old ++ all xs → new ≡ half ++ f (get_or xs i d) → new ++ all (drop (i + 1) xs) ≡ old ++ all xs
text_more f all step old half new xs i d lt so_far adds =
    ap (λ t. t ++ all (drop (i + 1) xs)) adds ∙ append_assoc half (f (get_or xs i d)) (all (drop (i + 1) xs))
    ∙ ap (λ t. half ++ t) (sym (step (get_or xs i d) (drop (i + 1) xs)) ∙ ap all (sym (drop_more xs i d lt))) ∙ so_far

-- what reads say of a table
abbrev ReadBy : Defs → Statements → RunState → Standing → Step → List LineText
ReadBy d ls p s x = text_of (read_by d ls (seen_by p) s x) ∷ []

same_read : (old half : Target) (ls : Statements) (p q : RunState) (s : Standing) → q ≡ record p { texts = q.texts } → defs_in half ≡ defs_in old → (xs : List Step)
    → texts_of (map (read_by (defs_in half) ls (seen_by q) s) xs) ≡ texts_of (map (read_by (defs_in old) ls (seen_by p) s) xs)
same_read old half ls p q s only same xs =
    ap (λ d. texts_of (map (read_by d ls (seen_by q) s) xs)) same ∙ ap (λ z. texts_of (map (read_by (defs_in old) ls (seen_by z) s) xs)) only

-- one read more
read_more : (told mid : Option Holding) (old half : Target) (ls : Statements) (p q : RunState) (new : List LineText) (xs : List Step) (i : ℕ) (e : Step)
    → i < length xs → q ≡ record p { texts = q.texts } → defs_in half ≡ defs_in old → StillHolds told mid old half
    → IfHolds told old (λ m s. q.texts ++ texts_of (map (read_by (defs_in old) ls (seen_by p) s) (drop i xs)) ≡ p.texts ++ texts_of (map (read_by (defs_in old) ls (seen_by p) s) xs))
    → IfHolds mid half (λ m s. new ≡ q.texts ++ text_of (read_by (defs_in half) ls (seen_by q) s (get_or xs i e)) ∷ [])
    → IfHolds told old (λ m s. new ++ texts_of (map (read_by (defs_in old) ls (seen_by p) s) (drop (i + 1) xs)) ≡ p.texts ++ texts_of (map (read_by (defs_in old) ls (seen_by p) s) xs))
read_more told mid old half ls p q new xs i e lt only same still so_far said = λ m held s h.
    let k = still m held s h in
    text_more (ReadBy (defs_in old) ls p s) (λ ys. texts_of (map (read_by (defs_in old) ls (seen_by p) s) ys)) (λ y ys. refl) p.texts q.texts new xs i e lt (so_far m held s h)
    (said k.0 k.1 s k.2 ∙ ap (λ t. q.texts ++ t) (same_read old half ls p q s only same (get_or xs i e ∷ [])))

-- the steps of one run more
pub run_more : (told mid : Option Holding) (old half : Target) (ls : Statements) (p q : RunState) (new : List LineText) (runs : List Run) (i : ℕ) (e : Run)
    → i < length runs → q ≡ record p { texts = q.texts } → defs_in half ≡ defs_in old → StillHolds told mid old half
    → IfHolds told old (λ m s. q.texts ++ texts_of (map (read_by (defs_in old) ls (seen_by p) s) (flat_map (λ (r : Run). r.steps) (drop i runs))) ≡ p.texts ++ texts_of (map (read_by (defs_in old) ls (seen_by p) s) (flat_map (λ (r : Run). r.steps) runs)))
    → IfHolds mid half (λ m s. new ≡ q.texts ++ texts_of (map (read_by (defs_in half) ls (seen_by q) s) (get_or runs i e).steps))
    → IfHolds told old (λ m s. new ++ texts_of (map (read_by (defs_in old) ls (seen_by p) s) (flat_map (λ (r : Run). r.steps) (drop (i + 1) runs))) ≡ p.texts ++ texts_of (map (read_by (defs_in old) ls (seen_by p) s) (flat_map (λ (r : Run). r.steps) runs)))
run_more told mid old half ls p q new runs i e lt only same still so_far said = λ m held s h.
    let k = still m held s h in
    let f = read_by (defs_in old) ls (seen_by p) s in
    text_more (λ (r : Run). texts_of (map f r.steps)) (λ rs. texts_of (map f (flat_map (λ (r : Run). r.steps) rs)))
    (λ r rs. ap texts_of (map-append f r.steps (flat_map (λ (q : Run). q.steps) rs)) ∙ map-append text_of (map f r.steps) (map f (flat_map (λ (q : Run). q.steps) rs)))
    p.texts q.texts new runs i e lt (so_far m held s h)
    (said k.0 k.1 s k.2 ∙ ap (λ t. q.texts ++ t) (same_read old half ls p q s only same (get_or runs i e).steps))

-- nothing is left
pub texts_end : {A : Type 0} (all : List A → List LineText) (old new : List LineText) (xs : List A) (i : ℕ) → all [] ≡ [] → drop i xs ≡ [] → new ++ all (drop i xs) ≡ old ++ all xs → new ≡ old ++ all xs
texts_end all old new xs i none end so_far = sym (append-nil new) ∙ ap (λ t. new ++ t) (sym none ∙ ap all (sym end)) ∙ so_far

-- ---- steps that write

one_more : (d : Defs) (ls : Statements) (together : Bool) (p q new : RunState) (s : Standing) (xs now : List Step) (x : Step) (left : List Step) (mid next : Option Holding) (half table : Target)
    → now ≡ x ∷ left → q.locks ≡ p.locks
    → (w : IsHalfDone d ls together p s xs now mid half q)
    → AreDone d ls together q (moved s w.state) (x ∷ []) (writes_by d ls q.locks together w.state (x ∷ [])) next table new
    → IsHalfDone d ls together p s xs left next table new
one_more d ls together p q new s xs now x left mid next half table more locks w done =
    let asked = asks ls p.locks together in
    let then = stepped_by d w.state (asked x) in
    let one : changes d (asks ls q.locks together) w.state (x ∷ []) ≡ accepted_of d w.state (asked x) = append-nil (accepted_of d w.state (asks ls q.locks together x)) ∙ ap (λ r. accepted_of d w.state (asks ls r together x)) locks in
    let said : texts_of (writes_by d ls q.locks together w.state (x ∷ [])) ≡ texts_of (writes_by d ls p.locks together w.state (x ∷ [])) = ap (λ r. texts_of (writes_by d ls r together w.state (x ∷ []))) locks in
    record {
      state = then;
      holds = subst (λ r. HoldsThen next table (moved s (stepped_by d w.state (asks ls r together x)))) locks done.state;
      whole = ap (λ ys. state_after d asked w.state ys) (sym more) ∙ w.whole;
      number = counts w.state then left more one;
      texts = says w.state then left more said;
    }
  where
    counts : (t then : TableState) (left : List Step) → now ≡ x ∷ left → changes d (asks ls q.locks together) w.state (x ∷ []) ≡ accepted_of d w.state (asks ls p.locks together x)
        → new.number + length (changes d (asks ls p.locks together) (stepped_by d w.state (asks ls p.locks together x)) left) ≡ p.number + length (changes d (asks ls p.locks together) s.table xs)
    counts t then left more one =
        let asked = asks ls p.locks together in
        let rest = changes d asked (stepped_by d w.state (asked x)) left in
        let head = accepted_of d w.state (asked x) in
        let both : length (head ++ rest) ≡ length head + length rest = length-append head rest in
        let was = w.number in
        let is_more : q.number + length (changes d asked w.state now) ≡ q.number + (length head + length rest) = ap (λ ys. q.number + length (changes d asked w.state ys)) more ∙ ap (λ n. q.number + n) both in
        let now : new.number ≡ q.number + length head = done.number ∙ ap (λ cs. q.number + length cs) one in
        omega (arith, was, is_more, now)

    says : (t then : TableState) (left : List Step) → now ≡ x ∷ left → texts_of (writes_by d ls q.locks together w.state (x ∷ [])) ≡ texts_of (writes_by d ls p.locks together w.state (x ∷ []))
        → new.texts ++ texts_of (writes_by d ls p.locks together (stepped_by d w.state (asks ls p.locks together x)) left) ≡ p.texts ++ texts_of (writes_by d ls p.locks together s.table xs)
    says t then left more said =
        let rest = writes_by d ls p.locks together (stepped_by d w.state (asks ls p.locks together x)) left in
        let head = writes_by d ls p.locks together w.state (x ∷ []) in
        ap (λ ts. ts ++ texts_of rest) (done.texts ∙ ap (λ ts. q.texts ++ ts) said) ∙ append_assoc q.texts (texts_of head) (texts_of rest)
        ∙ ap (λ ts. q.texts ++ ts) (sym (map-append text_of head rest) ∙ ap texts_of (writes_first d ls p.locks together w.state x left) ∙ ap (λ ys. texts_of (writes_by d ls p.locks together w.state ys)) (sym more)) ∙ w.texts

-- one step more
pub half_more : (d : Defs) (ls : Statements) (together : Bool) (p q new : RunState) (s : Standing) (xs : List Step) (i : ℕ) (e : Step) (mid next : Option Holding) (half table : Target)
    → i < length xs → q.locks ≡ p.locks
    → (w : IsHalfDone d ls together p s xs (drop i xs) mid half q)
    → AreDone d ls together q (moved s w.state) (get_or xs i e ∷ []) (writes_by d ls q.locks together w.state (get_or xs i e ∷ [])) next table new
    → IsHalfDone d ls together p s xs (drop (i + 1) xs) next table new
half_more d ls together p q new s xs i e mid next half table lt locks w done = one_more d ls together p q new s xs (drop i xs) (get_or xs i e) (drop (i + 1) xs) mid next half table (drop_more xs i e lt) locks w done

pub half_begins : (d : Defs) (ls : Statements) (together : Bool) (p : RunState) (s : Standing) (xs : List Step) (told : Option Holding) (t : Target) → HoldsThen told t s → IsHalfDone d ls together p s xs xs told t p
half_begins d ls together p s xs told t h = record { state = s.table; holds = h; whole = refl; number = refl; texts = refl }

pub half_ends : (d : Defs) (ls : Statements) (together : Bool) (p new : RunState) (s : Standing) (xs left : List Step) (next : Option Holding) (t : Target) → left ≡ [] → IsHalfDone d ls together p s xs left next t new
    → AreDone d ls together p s xs (writes_by d ls p.locks together s.table xs) next t new
half_ends d ls together p new s xs left next t none w =
    let asked = asks ls p.locks together in
    let end : w.state ≡ state_after d asked s.table xs = ap (λ ys. state_after d asked w.state ys) (sym none) ∙ w.whole in
    let gone : new.number + length (changes d asked w.state left) ≡ new.number + 0 = ap (λ ys. new.number + length (changes d asked w.state ys)) none in
    let was = w.number in
    record {
      state = subst (λ q. HoldsThen next t (moved s q)) end w.holds;
      number = omega (arith, gone, was);
      texts = sym (append-nil new.texts) ∙ ap (λ ys. new.texts ++ texts_of (writes_by d ls p.locks together w.state ys)) (sym none) ∙ w.texts;
    }

-- ---- one read

pub read_as : {E : Type 0} (told : Option Holding) (t : Target) (ls : Statements) (views : ℕ → Snapshot) (old new : List LineText) (x : Step) (v : Snapshot) (a : Option Act) (result : Result (Unit {0}) E) → v ≡ views x.session → a ≡ act_of ls.lines x.line
    → OnOk result (IfHolds told t (λ m s. new ≡ old ++ text_of (answer_on x.line (read_answer ls.takes (defs_in t) v s a)) ∷ []))
    → OnOk result (IfHolds told t (λ m s. new ≡ old ++ text_of (read_by (defs_in t) ls views s x) ∷ []))
read_as told t ls views old new x v a (Ok done) view act said = λ m held s h.
    said m held s h ∙ ap (λ w. old ++ text_of (answer_on x.line (read_answer ls.takes (defs_in t) w s a)) ∷ []) view ∙ ap (λ b. old ++ text_of (answer_on x.line (read_answer ls.takes (defs_in t) (views x.session) s b)) ∷ []) act
read_as told t ls views old new x v a (Err f) view act said = tt

-- of each state that the table stood for, one step more
pub half_steps : (told mid next : Option Holding) (old half table : Target) (ls : Statements) (p q new : RunState) (xs : List Step) (i : ℕ) (e : Step) → i < length xs → q.locks ≡ p.locks → defs_in half ≡ defs_in old
    → IfHolds told old (λ m s. IsHalfDone (defs_in old) ls true p s xs (drop i xs) mid half q)
    → IfHolds mid half (λ m s. AreDone (defs_in half) ls true q s (get_or xs i e ∷ []) (writes_by (defs_in half) ls q.locks true s.table (get_or xs i e ∷ [])) next table new)
    → IfHolds told old (λ m s. IsHalfDone (defs_in old) ls true p s xs (drop (i + 1) xs) next table new)
half_steps told mid next old half table ls p q new xs i e lt locks defs so_far done = λ m held s h.
    let w = so_far m held s h in
    let k = w.holds in
    let one = subst (λ (d : Defs). AreDone d ls true q (moved s w.state) (get_or xs i e ∷ []) (writes_by d ls q.locks true w.state (get_or xs i e ∷ [])) next table new) defs (done k.0 k.1 (moved s w.state) k.2) in
    half_more (defs_in old) ls true p q new s xs i e mid next half table lt locks w one

-- ---- a target that goes on takes the rows of a script in the same table

pub script_same : (old half : Target) (lines : List Line) → taking half ≡ taking old → script_on half lines ≡ script_on old lines
script_same old half lines same = ap (λ (k : Taking). record { lines = lines; takes = k }) same

said_on : (mid : Option Holding) (old half : Target) → taking half ≡ taking old → (lines : List Line) (views : ℕ → Snapshot) (was new : List LineText) (x : Step)
    → IfHolds mid half (λ m s. new ≡ was ++ text_of (read_by (defs_in half) (script_on half lines) views s x) ∷ [])
    → IfHolds mid half (λ m s. new ≡ was ++ text_of (read_by (defs_in half) (script_on old lines) views s x) ∷ [])
said_on mid old half same lines views was new x said = subst (λ (ls : Statements). IfHolds mid half (λ m s. new ≡ was ++ text_of (read_by (defs_in half) ls views s x) ∷ [])) (script_same old half lines same) said

-- one read more, of a target that goes on
pub read_more_on : (told mid : Option Holding) (old half : Target) (lines : List Line) (p q : RunState) (new : List LineText) (xs : List Step) (i : ℕ) (e : Step)
    → i < length xs → q ≡ record p { texts = q.texts } → defs_in half ≡ defs_in old → taking half ≡ taking old → StillHolds told mid old half
    → IfHolds told old (λ m s. q.texts ++ texts_of (map (read_by (defs_in old) (script_on old lines) (seen_by p) s) (drop i xs)) ≡ p.texts ++ texts_of (map (read_by (defs_in old) (script_on old lines) (seen_by p) s) xs))
    → IfHolds mid half (λ m s. new ≡ q.texts ++ text_of (read_by (defs_in half) (script_on half lines) (seen_by q) s (get_or xs i e)) ∷ [])
    → IfHolds told old (λ m s. new ++ texts_of (map (read_by (defs_in old) (script_on old lines) (seen_by p) s) (drop (i + 1) xs)) ≡ p.texts ++ texts_of (map (read_by (defs_in old) (script_on old lines) (seen_by p) s) xs))
read_more_on told mid old half lines p q new xs i e lt only same takes still so_far said =
    read_more told mid old half (script_on old lines) p q new xs i e lt only same still so_far (said_on mid old half takes lines (seen_by q) q.texts new (get_or xs i e) said)

pub runs_said_on : (mid : Option Holding) (old half : Target) → taking half ≡ taking old → (lines : List Line) (views : ℕ → Snapshot) (was new : List LineText) (xs : List Step)
    → IfHolds mid half (λ m s. new ≡ was ++ texts_of (map (read_by (defs_in half) (script_on half lines) views s) xs))
    → IfHolds mid half (λ m s. new ≡ was ++ texts_of (map (read_by (defs_in half) (script_on old lines) views s) xs))
runs_said_on mid old half same lines views was new xs said = subst (λ (ls : Statements). IfHolds mid half (λ m s. new ≡ was ++ texts_of (map (read_by (defs_in half) ls views s) xs))) (script_same old half lines same) said

pub done_on : (mid next : Option Holding) (old half table : Target) → taking half ≡ taking old → (lines : List Line) (q new : RunState) (xs : List Step)
    → IfHolds mid half (λ m s. AreDone (defs_in half) (script_on half lines) true q s xs (writes_by (defs_in half) (script_on half lines) q.locks true s.table xs) next table new)
    → IfHolds mid half (λ m s. AreDone (defs_in half) (script_on old lines) true q s xs (writes_by (defs_in half) (script_on old lines) q.locks true s.table xs) next table new)
done_on mid next old half table same lines q new xs done =
    subst (λ (ls : Statements). IfHolds mid half (λ m s. AreDone (defs_in half) ls true q s xs (writes_by (defs_in half) ls q.locks true s.table xs) next table new)) (script_same old half lines same) done

pub run_done_on : {E : Type 0} (mid next : Option Holding) (old half table : Target) → taking half ≡ taking old → (lines : List Line) (q new : RunState) (xs : List Step) (result : Result (Unit {0}) E)
    → OnOk result (IfHolds mid half (λ m s. AreDone (defs_in half) (script_on half lines) true q s xs (writes_by (defs_in half) (script_on half lines) q.locks true s.table xs) next table new))
    → OnOk result (IfHolds mid half (λ m s. AreDone (defs_in half) (script_on old lines) true q s xs (writes_by (defs_in half) (script_on old lines) q.locks true s.table xs) next table new))
run_done_on mid next old half table same lines q new xs (Ok done) all = done_on mid next old half table same lines q new xs all
run_done_on mid next old half table same lines q new xs (Err f) all = tt
