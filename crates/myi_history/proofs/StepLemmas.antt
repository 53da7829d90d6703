-- The steps of a round are steps that were left, so they come from the script's lines, or are an End that was added.
use Rattle.std.proofs.Common.{◌≡◌, ℕ, ◌+◌, ◌-◌, ◌≤◌, ◌==◌, ◌&&◌, not, List, [], ◌∷◌, ◌++◌, map, filter, fold, drop, length, Option, Some, None, Bool, true, false, cond, refl, ◌∙◌, arith, inl, inr, subst}
use Rattle.std.specs.Prelude.{option_map, slice_get}
use Rattle.std.specs.List.{AllByRecursion, filter_map, cons_option, flat_map, take_while}
use Rattle.std.proofs.lemmas.List.Sums.{take_while-cons}
use Rattle.std.proofs.lemmas.Bool.Decides.{eqb_tells}
use Rattle.myi_defs.specs.declared.types.Defs.{Defs}
use Rattle.myi_pack.specs.Packed.{Values}
use Rattle.myi_pack.specs.Spelling.{fits}
use Rattle.myi_locks.specs.declared.steps.StepKind.{StepKind}
use Rattle.myi_locks.specs.declared.steps.Step.{Step}
use Rattle.myi_locks.specs.declared.steps.Run.{Run}
use Rattle.myi_locks.specs.declared.steps.Round.{Round}
use Rattle.myi_locks.specs.declared.steps.Round.TheVariants.{Finished, Alone}
use Rattle.myi_locks.specs.Steps.{is_insert, is_read, comes_before}
use Rattle.myi_locks.specs.Sessions.{Session, head, first, earlier, is_next, holds_any, passes}
use Rattle.myi_locks.specs.Rounds.{LockState, next_round, case_at_once, case_write_held, case_write, case_write_waits, case_takes_read, case_together, alone, or_else, run_of, reads, inserter, session_at, session_of, together}
use Rattle.myi_locks.specs.Done.{steps_of, advanced, stepped, after, run_steps}
use Rattle.myi_locks.specs.Script.{own, numbers, opening, with_end, added_end, session_from, is_end}
use Rattle.myi_script.specs.declared.types.Act.{Act}
use Rattle.myi_script.specs.declared.types.Act.TheVariants as act
use Rattle.myi_script.specs.declared.types.Line.{Line}
use Rattle.myi_history.specs.History.{Taking, in_table, in_member, in_none, is_list}
use Rattle.myi_history.specs.Lines.{kinds, steps_with, steps_of_line, script_steps, act_of, LinesGrow, BringsRow}

abbrev pub Each : (Step → Type 0) → List Step → Type 0
Each P xs = AllByRecursion P xs

-- so it is with each step that is left
abbrev pub EachLeft : (Step → Type 0) → List Session → Type 0
EachLeft P ss = AllByRecursion (λ (s : Session). Each P s.left) ss

abbrev pub IfStep : (Step → Type 0) → Option Step → Type 0
IfStep P None = Unit {0}
IfStep P (Some x) = P x

abbrev pub IfSession : (Step → Type 0) → Option Session → Type 0
IfSession P None = Unit {0}
IfSession P (Some s) = Each P s.left

pub each_join : (P : Step → Type 0) (xs ys : List Step) → Each P xs → Each P ys → Each P (xs ++ ys)
each_join P [] ys h k = k
each_join P (x ∷ xs) ys h k = (h.0, each_join P xs ys h.1 k)

pub each_so : (P Q : Step → Type 0) (xs : List Step) → ((x : Step) → P x → Q x) → Each P xs → Each Q xs
each_so P Q [] f h = tt
each_so P Q (x ∷ xs) f h = (f x h.0, each_so P Q xs f h.1)

-- ---- the first of next steps

head_has : (P : Step → Type 0) (xs : List Step) → Each P xs → IfStep P (head xs)
head_has P [] h = tt
head_has P (x ∷ xs) h = h.0

cons_has : (P : Step → Type 0) (o : Option Step) (xs : List Step) → IfStep P o → Each P xs → Each P (cons_option o xs)
cons_has P None xs h k = k
cons_has P (Some x) xs h k = (h, k)

abbrev nexts : (Session → Bool) → List Session → List Step
nexts test ss = filter_map (λ (s : Session). head s.left) (filter test ss)

nexts_have : (P : Step → Type 0) (test : Session → Bool) (ss : List Session) → EachLeft P ss → Each P (nexts test ss)
nexts_have P test [] h = tt
nexts_have P test (s ∷ ss) h = go (test s) (nexts_have P test ss h.1)
  where
    go : (b : Bool) → Each P (nexts test ss) → Each P (filter_map (λ (t : Session). head t.left) (cond b (s ∷ filter test ss) (filter test ss)))
    go true ih = cons_has P (head s.left) (nexts test ss) (head_has P s.left h.0) ih
    go false ih = ih

earlier_has : (P : Step → Type 0) (o : Option Step) (x : Step) → IfStep P o → P x → IfStep P (earlier o x)
earlier_has P None x h k = k
earlier_has P (Some y) x h k = go (comes_before x y)
  where
    go : (b : Bool) → IfStep P (cond b (Some x) (Some y))
    go true = k
    go false = h

fold_has : (P : Step → Type 0) (o : Option Step) (xs : List Step) → IfStep P o → Each P xs → IfStep P (fold earlier o xs)
fold_has P o [] h k = h
fold_has P o (x ∷ xs) h k = fold_has P (earlier o x) xs (earlier_has P o x h k.0) k.1

first_has : (P : Step → Type 0) (test : Session → Bool) (ss : List Session) → EachLeft P ss → IfStep P (first test ss)
first_has P test ss h = fold_has P None (nexts test ss) tt (nexts_have P test ss h)

-- ---- runs

front_has : (P : Step → Type 0) (test : StepKind → Bool) (xs : List Step) → Each P xs → Each P (take_while (λ (x : Step). test x.kind) xs)
front_has P test [] h = tt
front_has P test (x ∷ xs) h = rw (take_while-cons (λ (y : Step). test y.kind) x xs) (go (test x.kind) (front_has P test xs h.1))
  where
    go : (b : Bool) → Each P (take_while (λ (y : Step). test y.kind) xs) → Each P (cond b (x ∷ take_while (λ (y : Step). test y.kind) xs) [])
    go true ih = (h.0, ih)
    go false ih = tt

abbrev read_steps : (Session → Bool) → List Session → List Step
read_steps test ss = flat_map (λ (run : Run). run.steps) (reads test ss)

reads_have : (P : Step → Type 0) (test : Session → Bool) (ss : List Session) → EachLeft P ss → Each P (read_steps test ss)
reads_have P test [] h = tt
reads_have P test (s ∷ ss) h = go (test s && is_next is_read s) (reads_have P test ss h.1)
  where
    go : (b : Bool) → Each P (read_steps test ss)
        → Each P (flat_map (λ (run : Run). run.steps) (map (run_of is_read) (cond b (s ∷ filter (λ t. test t && is_next is_read t) ss) (filter (λ t. test t && is_next is_read t) ss))))
    go true ih = each_join P (run_of is_read s).steps (read_steps test ss) (front_has P is_read s.left h.0) ih
    go false ih = ih

session_has : (P : Step → Type 0) (n : ℕ) (ss : List Session) → EachLeft P ss → IfSession P (session_of n ss)
session_has P n [] h = tt
session_has P n (s ∷ ss) h = go (s.number == n) (session_has P n ss h.1)
  where
    go : (b : Bool) → IfSession P (session_of n ss) → IfSession P (cond b (Some s) (session_of n ss))
    go true ih = h.0
    go false ih = ih

at_has : (P : Step → Type 0) (o : Option Step) (ss : List Session) → EachLeft P ss → IfSession P (session_at o ss)
at_has P None ss h = tt
at_has P (Some x) ss h = session_has P x.session ss h

run_has : (P : Step → Type 0) (o : Option Session) → IfSession P o → Each P (run_steps (option_map (run_of is_insert) o))
run_has P None h = tt
run_has P (Some s) h = front_has P is_insert s.left h

-- ---- rounds

alone_case : (Q : Round → Type 0) (o : Option Step) (more : Round) → ((x : Step) → o ≡ Some x → Q (Alone x)) → Q more → Q (alone o more)
alone_case Q None more h k = k
alone_case Q (Some x) more h k = h x refl

waits_case : (Q : Round → Type 0) (b : Bool) (round more : Round) → Q round → Q more → Q (or_else (cond b (Some round) None) more)
waits_case Q true round more h k = h
waits_case Q false round more h k = k

left_case : (Q : Round → Type 0) (b : Bool) (more : Round) → Q Finished → Q more → Q (cond (not b) Finished more)
left_case Q true more h k = k
left_case Q false more h k = h

-- what the next round can be
by_round : (Q : Round → Type 0) (r : LockState) (holes : Bool) → Q Finished → ((test : Session → Bool) (x : Step) → first test r.sessions ≡ Some x → Q (Alone x))
    → Q (together None (reads (λ s. holds_any s.held) r.sessions)) → Q (together (inserter r.sessions) (reads (λ s. true) r.sessions)) → Q (next_round r holes)
unfolding next_round case_at_once case_write_held case_write case_write_waits case_takes_read case_together
by_round Q r holes none one held all =
    left_case Q _ _ none (alone_case Q _ _ (one _) (alone_case Q _ _ (one _) (alone_case Q _ _ (one _) (waits_case Q _ _ _ held (alone_case Q _ _ (one _) all)))))

-- what is so of each step that is left is so of each step of the next round
pub round_has : (P : Step → Type 0) (r : LockState) (holes : Bool) → EachLeft P r.sessions → Each P (steps_of (next_round r holes))
round_has P r holes h =
    by_round (λ round. Each P (steps_of round)) r holes tt (λ test x e. (let Q : Option Step → Type 0 = λ o. IfStep P o in subst Q e (first_has P test r.sessions h), tt))
    (reads_have P (λ s. holds_any s.held) r.sessions h)
    (each_join P (run_steps (inserter r.sessions)) (read_steps (λ s. true) r.sessions)
    (run_has P (session_at (first (is_next is_insert) r.sessions) r.sessions) (at_has P (first (is_next is_insert) r.sessions) r.sessions h))
    (reads_have P (λ s. true) r.sessions h))

-- ---- and it stays so

rest_has : (P : Step → Type 0) (xs : List Step) → Each P xs → Each P (drop 1 xs)
rest_has P [] h = tt
rest_has P (x ∷ xs) h = h.1

step_leaves : (P : Step → Type 0) (x : Step) (ss : List Session) → EachLeft P ss → EachLeft P (stepped ss x)
step_leaves P x [] h = tt
step_leaves P x (s ∷ ss) h = (go (s.number == x.session), step_leaves P x ss h.1)
  where
    go : (b : Bool) → Each P (cond b (after x s) s).left
    go true = rest_has P s.left h.0
    go false = h.0

steps_leave : (P : Step → Type 0) (xs : List Step) (ss : List Session) → EachLeft P ss → EachLeft P (fold stepped ss xs)
steps_leave P [] ss h = h
steps_leave P (x ∷ xs) ss h = steps_leave P xs (stepped ss x) (step_leaves P x ss h)

pub round_leaves : (P : Step → Type 0) (r : LockState) (round : Round) → EachLeft P r.sessions → EachLeft P (advanced r round).sessions
round_leaves P r round h = steps_leave P (steps_of round) r.sessions h

-- ---- the sessions of a script

own_has : (P : Step → Type 0) (n : ℕ) (xs : List Step) → Each P xs → Each P (own n xs)
own_has P n [] h = tt
own_has P n (x ∷ xs) h = go (x.session == n) (own_has P n xs h.1)
  where
    go : (b : Bool) → Each P (own n xs) → Each P (cond b (x ∷ own n xs) (own n xs))
    go true ih = (h.0, ih)
    go false ih = ih

end_has : (P : Step → Type 0) (n : ℕ) (xs : List Step) → Each P xs → P (added_end n) → Each P (with_end n xs)
end_has P n xs h k = go (passes is_end (slice_get xs (length xs - 1)))
  where
    go : (b : Bool) → Each P (cond b xs (xs ++ added_end n ∷ []))
    go true = h
    go false = each_join P xs (added_end n ∷ []) h (k, tt)

sessions_have : (P : Step → Type 0) (xs : List Step) (ns : List ℕ) → Each P xs → ((n : ℕ) → P (added_end n)) → EachLeft P (map (session_from xs) ns)
sessions_have P xs [] h k = tt
sessions_have P xs (n ∷ ns) h k = (end_has P n (own n xs) (own_has P n xs h) (k n), sessions_have P xs ns h k)

pub opening_has : (P : Step → Type 0) (setting : ℕ) (xs : List Step) → Each P xs → ((n : ℕ) → P (added_end n)) → EachLeft P (opening setting xs).sessions
opening_has P setting xs h k = sessions_have P xs (numbers xs) h k

-- ---- lines

-- where the step is an insert, there is one table, and its line is one, of a row that has the form that the definitions ask for
abbrev pub IsOfLine : Defs → Taking → List Line → Step → Type 0
IsOfLine d t ls x = is_insert x.kind ≡ true → (row : Values) × (act_of ls x.line ≡ Some (act.Insert row)) × (fits d row ≡ true) × (t ≡ in_table)

abbrev IsFrom : Defs → Taking → List Line → ℕ → Step → Type 0
IsFrom d t ls low x = (low ≤ x.line) × IsOfLine d t ls x

of_act : (d : Defs) (t : Taking) (ls : List Line) (low s n : ℕ) (a : Act) → act_of ls n ≡ Some a → BringsRow d a → low ≤ n → Each (IsFrom d t ls low) (steps_with s n (kinds (is_list t) a))
of_act d in_table ls low s n (act.Insert row) e brings le = ((le, λ q. (row, e, brings, refl)), tt)
of_act d (in_member k) ls low s n (act.Insert row) e brings le = ((le, λ q. absurd (cc)), tt)
of_act d in_none ls low s n (act.Insert row) e brings le = ((le, λ q. absurd (cc)), tt)
of_act d t ls low s n (act.Update at row) e brings le = ((le, λ q. absurd (cc)), tt)
of_act d t ls low s n (act.Delete at) e brings le = ((le, λ q. absurd (cc)), tt)
of_act d t ls low s n act.Scan e brings le = ((le, λ q. absurd (cc)), tt)
of_act d t ls low s n (act.Over range) e brings le = ((le, λ q. absurd (cc)), tt)
of_act d t ls low s n (act.Lock lock) e brings le = ((le, λ q. absurd (cc)), ((le, λ q. absurd (cc)), tt))
of_act d t ls low s n act.Unlock e brings le = ((le, λ q. absurd (cc)), tt)
of_act d t ls low s n act.Stats e brings le = ((le, λ q. absurd (cc)), tt)
of_act d t ls low s n act.End e brings le = ((le, λ q. absurd (cc)), tt)

first_act : (l : Line) (ls : List Line) → act_of (l ∷ ls) l.line ≡ Some l.act
first_act l ls = rw itself refl
  where
    itself : (l.line == l.line) ≡ true
    itself = elim (eqb_tells l.line l.line) [ inl p ↦ p.0 | inr p ↦ absurd (p.1 refl) ]

later_act : (l : Line) (ls : List Line) (n : ℕ) → l.line + 1 ≤ n → act_of (l ∷ ls) n ≡ act_of ls n
later_act l ls n le = rw other refl
  where
    other : (l.line == n) ≡ false
    other = elim (eqb_tells l.line n) [ inl p ↦ absurd (let e : l.line ≡ n = p.1 in omega arith) | inr p ↦ p.0 ]

from_lines : (d : Defs) (t : Taking) (low : ℕ) (ls : List Line) → LinesGrow low ls → AllByRecursion (λ (l : Line). BringsRow d l.act) ls → Each (IsFrom d t ls low) (script_steps (is_list t) ls)
from_lines d t low [] grow brings = tt
from_lines d t low (l ∷ ls) grow brings =
    each_join (IsFrom d t (l ∷ ls) low) (steps_of_line (is_list t) l) (script_steps (is_list t) ls)
    (of_act d t (l ∷ ls) low l.session l.line l.act (first_act l ls) brings.0 grow.0)
    (each_so (IsFrom d t ls (l.line + 1)) (IsFrom d t (l ∷ ls) low) (script_steps (is_list t) ls) later (from_lines d t (l.line + 1) ls grow.1 brings.1))
  where
    later : (x : Step) → IsFrom d t ls (l.line + 1) x → IsFrom d t (l ∷ ls) low x
    later x h = (
      (let a : low ≤ l.line = grow.0 in let b : l.line + 1 ≤ x.line = h.0 in omega arith),
      λ q. (let w = h.1 q in (w.0, later_act l ls x.line h.0 ∙ w.1, w.2, w.3)),
    )

pub are_of_lines : (d : Defs) (t : Taking) (ls : List Line) → LinesGrow 1 ls → AllByRecursion (λ (l : Line). BringsRow d l.act) ls → Each (IsOfLine d t ls) (script_steps (is_list t) ls)
are_of_lines d t ls grow brings = each_so (IsFrom d t ls 1) (IsOfLine d t ls) (script_steps (is_list t) ls) (λ x h. h.1) (from_lines d t 1 ls grow brings)
