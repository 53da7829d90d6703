-- The inserts of a round of kind Together, and the table between them.
use Rattle.std.proofs.Common.{◌≡◌, ℕ, zero, suc, ◌+◌, ◌-◌, ◌≤◌, not, ◌&&◌, Bool, true, false, List, [], ◌∷◌, ◌++◌, length, Option, Some, None, refl, ap, sym, ◌∙◌, arith, subst, append_assoc}
use Rattle.std.specs.Prelude.{take}
use Rattle.std.specs.List.{AllByRecursion, flat_map}
use Rattle.myi_defs.specs.declared.types.Defs.{Defs}
use Rattle.myi_state.specs.State.{TableState}
use Rattle.myi_state.specs.Changes.{Change, replay}
use Rattle.myi_locks.specs.declared.steps.LockKind.{LockKind}
use Rattle.myi_locks.specs.declared.steps.StepKind.{StepKind}
use Rattle.myi_locks.specs.declared.steps.StepKind.TheVariants as kind
use Rattle.myi_locks.specs.declared.steps.Step.{Step}
use Rattle.myi_locks.specs.declared.steps.Run.{Run}
use Rattle.myi_locks.specs.declared.steps.Runs.{Runs}
use Rattle.myi_locks.specs.declared.steps.Round.{Round}
use Rattle.myi_locks.specs.declared.steps.Round.TheVariants.{Together}
use Rattle.myi_locks.specs.Steps.{is_insert}
use Rattle.myi_locks.specs.Sessions.{holds_any, holds_read, holds_local}
use Rattle.myi_locks.specs.Rounds.{LockState, next_round, has_steps, may_be_concurrent}
use Rattle.myi_locks.specs.Done.{held, run_steps, steps_of, is_together}
use Rattle.myi_locks.specs.Laws.{IsRunOf, IsInserter, HasOwnRuns, RunsAsItMay, InsertsAreConcurrent, goes_together}
use Rattle.myi_locks.proofs.CallerLemmas.{own_runs, concurrent_inserts}
use Rattle.myi_script.specs.declared.types.Line.{Line}
use Rattle.myi_history.specs.Lines.{MayRun}
use Rattle.myi_history.specs.History.{Taking, Opening, ScriptRound, reads_only, has_hole, changes_in, history_in, history, number_behind, rounds_of}
use Rattle.myi_history.specs.Text.{Numbers, state_at}
use Rattle.myi_history.specs.SideBySide.{InsertsRow}
use Rattle.myi_history.specs.Running.{locks_after, table_after, number_after, next_after, HasRun}
use Rattle.myi_history.proofs.ReplayLemmas.{replay_append}
use Rattle.myi_history.proofs.RunLemmas.{next_stands, history_is}
use Rattle.myi_history.proofs.StepLemmas.{Each, IsOfLine, round_has}
use Rattle.myi_history.proofs.SeenLemmas.{AreScripts, scripts_locks}

-- ---- inserts

any_none : (h : Option LockKind) → holds_any h ≡ false → holds_read h ≡ false
any_none None e = refl
any_none (Some lock) e = cc

local_none : (h : Option LockKind) → holds_any h ≡ false → holds_local h ≡ false
local_none None e = refl
local_none (Some lock) e = cc

not_held : (b c : Bool) → true ≡ b && not c → c ≡ false
not_held b false e = refl
not_held true true e = cc
not_held false true e = cc

is_kind : (k : StepKind) → is_insert k ≡ true → k ≡ kind.Insert
is_kind kind.Insert e = refl
is_kind kind.Rows e = cc
is_kind kind.Release e = cc
is_kind (kind.Take lock) e = cc
is_kind kind.Change e = cc
is_kind kind.Unlock e = cc
is_kind kind.Stats e = cc
is_kind kind.End e = cc

front_each : (P : Step → Type 0) (xs ys : List Step) → AllByRecursion P (xs ++ ys) → AllByRecursion P xs
front_each P [] ys h = tt
front_each P (x ∷ xs) ys h = (h.0, front_each P xs ys h.1)

insert_row : (d : Defs) (t : Taking) (ls : List Line) (r : LockState) (hole : Bool) (x : Step) → is_insert x.kind ≡ true → RunsAsItMay r hole true x → IsOfLine d t ls x → InsertsRow ls r x
insert_row d t ls r hole x insert may line =
    let none : holds_any (held r x.session) ≡ false = not_held (may_be_concurrent r hole x.session) (holds_any (held r x.session)) (may insert) in
    let w = line insert in
    record {
      kind = is_kind x.kind insert;
      free = rw (any_none (held r x.session) none) (local_none (held r x.session) none);
      row = w.0;
      inserts = w.1;
    }

insert_rows : (d : Defs) (t : Taking) (ls : List Line) (r : LockState) (hole : Bool) (session : ℕ) (xs : List Step) → AllByRecursion (λ (x : Step). (is_insert x.kind ≡ true) × (x.session ≡ session)) xs → AllByRecursion (RunsAsItMay r hole true) xs → AllByRecursion (IsOfLine d t ls) xs
    → AllByRecursion (InsertsRow ls r) xs
insert_rows d t ls r hole session [] are may lines = tt
insert_rows d t ls r hole session (x ∷ xs) are may lines = (insert_row d t ls r hole x are.0.0 may.0 lines.0, insert_rows d t ls r hole session xs are.1 may.1 lines.1)

inserter_rows : (d : Defs) (t : Taking) (ls : List Line) (r : LockState) (hole : Bool) (inserter : Option Run) → IsInserter inserter → AllByRecursion (RunsAsItMay r hole true) (run_steps inserter) → AllByRecursion (IsOfLine d t ls) (run_steps inserter)
    → AllByRecursion (InsertsRow ls r) (run_steps inserter)
inserter_rows d t ls r hole None are may lines = tt
inserter_rows d t ls r hole (Some run) are may lines = insert_rows d t ls r hole run.session run.steps are may lines

pub rows_inserted : (o : Opening) (front : List ScriptRound) (c : List Numbers) (inserter : Option Run) (readers : Runs) → MayRun o.defs o.script.lines → HasRun o front c → (next_after o front).round ≡ Together inserter readers
    → AllByRecursion (InsertsRow o.script.lines (locks_after o front)) (run_steps inserter)
rows_inserted o front c inserter readers may has is =
    let r = locks_after o front in
    let hole = has_hole o.script.takes (table_after o front) in
    let others : List Step = flat_map (λ (run : Run). run.steps) readers.runs in
    let locks : AreScripts o.defs o.script r = scripts_locks o may front has.first.0 has.first.1 in
    let runs : HasOwnRuns (Together inserter readers) = subst HasOwnRuns is (own_runs r hole locks.lawful) in
    let beside : InsertsAreConcurrent r hole (Together inserter readers) = subst (InsertsAreConcurrent r hole) is (concurrent_inserts r hole locks.lawful) in
    let lines : Each (IsOfLine o.defs o.script.takes o.script.lines) (steps_of (Together inserter readers)) =
    subst (λ (q : Round). Each (IsOfLine o.defs o.script.takes o.script.lines) (steps_of q)) is (round_has (IsOfLine o.defs o.script.takes o.script.lines) r hole locks.lines) in
    inserter_rows o.defs o.script.takes o.script.lines r hole inserter runs.0 (front_each (RunsAsItMay r hole true) (run_steps inserter) others beside) (front_each (IsOfLine o.defs o.script.takes o.script.lines) (run_steps inserter) others lines)

-- ---- the table between the changes of a round

take_first : {X : Type 0} (xs ys : List X) (k : ℕ) → k ≤ length xs → take k (xs ++ ys) ≡ take k xs
take_first xs ys zero le = refl
take_first [] ys (suc k) le = absurd (omega (arith, le))
take_first (x ∷ xs) ys (suc k) le = ap (λ r. x ∷ r) (take_first xs ys k (omega (arith, le)))

take_past : {X : Type 0} (xs ys : List X) (k : ℕ) → take (length xs + k) (xs ++ ys) ≡ xs ++ take k ys
take_past [] ys k = let same : 0 + k ≡ k = omega arith in ap (λ n. take n ys) same
take_past (x ∷ xs) ys k = let same : suc (length xs) + k ≡ suc (length xs + k) = omega arith in ap (λ n. take n (x ∷ (xs ++ ys))) same ∙ ap (λ r. x ∷ r) (take_past xs ys k)

pub table_between : (o : Opening) (front : List ScriptRound) (c : List Numbers) (n : ℕ) → MayRun o.defs o.script.lines → HasRun o front c → has_steps (locks_after o front) ≡ true → number_after o front ≤ n → n ≤ number_behind o (next_after o front)
    → state_at o (history o) n ≡ replay o.defs (table_after o front) (take (n - number_after o front) (changes_in o (next_after o front)))
table_between o front c n may has left low high =
    let p = next_after o front in
    let more = next_stands o front has.first.0 may has.first.1 left in
    let before = history_in o front in
    let own = changes_in o p in
    let behind = history_in o more.0 in
    let k = n - number_after o front in
    let is : number_after o front + k ≡ n = omega (arith, low) in
    let le : k ≤ length own = omega (arith, high, low) in
    let all : history o ≡ before ++ (own ++ behind) = history_is o front has.first.0 has.first.1 ∙ ap (λ ps. before ++ history_in o ps) more.1 in
    let first : take n (history o) ≡ before ++ take k own =
    ap (λ m. take m (history o)) (sym is) ∙ ap (take (number_after o front + k)) all ∙ take_past before (own ++ behind) k ∙ ap (λ r. before ++ r) (take_first own behind k le) in
    ap (λ cs. replay o.defs o.base cs) first ∙ replay_append o.defs o.base before (take k own)
