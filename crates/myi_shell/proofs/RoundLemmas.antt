-- What the steps of a round say, by the table as it is, is what the history says of them.
use Rattle.std.proofs.Common.{◌≡◌, ℕ, Bool, true, false, List, [], ◌∷◌, ◌++◌, filter, Option, Some, None, refl, sym, ap, ◌∙◌}
use Rattle.std.specs.Prelude.{nat_lt}
use Rattle.myi_defs.specs.Sound.{IsSound}
use Rattle.myi_keycache.specs.declared.setup.Counters.{Counters}
use Rattle.myi_state.specs.State.{TableState}
use Rattle.myi_state.specs.Sound.{IsState}
use Rattle.myi_state.specs.Changes.{Change}
use Rattle.myi_pair.specs.KeyList.{PlacedRow}
use Rattle.myi_locks.specs.declared.steps.Step.{Step}
use Rattle.myi_locks.specs.Steps.{is_read}
use Rattle.myi_locks.specs.Rounds.{LockState}
use Rattle.myi_locks.specs.Done.{is_together}
use Rattle.myi_history.specs.Lines.{act_of, MayRun}
use Rattle.myi_defs.specs.declared.types.Defs.{Defs}
use Rattle.myi_script.specs.declared.types.Act.{Act}
use Rattle.myi_history.specs.Reads.{found, merged_found}
use Rattle.myi_history.specs.Answers.{rows, merged, answer_on}
use Rattle.myi_history.specs.History.{Taking, in_table, in_member, in_none, is_list, Beside, in_list, Opening, ScriptRound, history, reads_only, asked_in, stepped_by}
use Rattle.myi_history.specs.Text.{Numbers, finds, rows_at, reads_said, others_said, said_by}
use Rattle.myi_history.specs.Bounds.{SessionNumber}
use Rattle.myi_history.specs.OneThread.{number_now, numbers_now}
use Rattle.myi_history.specs.Running.{HasRun, taken_in, locks_after, table_after, number_after, next_after, seen_number, seen_state}
use Rattle.myi_history.proofs.CallerLemmas.{finds_before, read_now, seen_rows, seen_same}
use Rattle.myi_shell.specs.declared.reading.Snapshot.{Snapshot}
use Rattle.myi_shell.specs.declared.script_run.Taken.{Taken}
use Rattle.myi_shell.specs.Targets.{Standing}
use Rattle.myi_shell.specs.Running.{standing_in}
use Rattle.myi_shell.specs.Stepping.{RunState, end_in, seen_by, read_answer, read_by, reads_by, others_by}

-- ---- steps that read nothing

pub others_same : (o : Opening) (p : ScriptRound) (s : TableState) (c : Counters) (xs : List Step) → others_said o p s c xs ≡ others_by o.defs o.script p.locks (is_together p.round) c s xs
others_same o p s c [] = refl
others_same o p s c (x ∷ xs) = ap (λ rest. said_by o p s c x ++ rest) (others_same o p (stepped_by o.defs s (asked_in o.script p x)) c xs)

-- ---- reads

-- each read says by its view what the history says by its number
abbrev pub ReadsAlike : Opening → List Change → ScriptRound → List SessionNumber → (ℕ → Snapshot) → Standing → Type 0
ReadsAlike o h p taken views s = (x : Step) → rows_at o h x.line (number_now p taken x) ≡ read_answer o.script.takes o.defs (views x.session) s (act_of o.script.lines x.line)

pub reads_same : (o : Opening) (h : List Change) (p : ScriptRound) (taken : List SessionNumber) (views : ℕ → Snapshot) (s : Standing) (xs : List Step) → ReadsAlike o h p taken views s
    → reads_said o h xs (numbers_now p taken xs) ≡ reads_by o.defs o.script views s xs
reads_same o h p taken views s [] alike = refl
reads_same o h p taken views s (x ∷ xs) alike = by_kind (is_read x.kind) refl (reads_same o h p taken views s xs alike) where
  by_kind : (b : Bool) → is_read x.kind ≡ b → reads_said o h xs (numbers_now p taken xs) ≡ reads_by o.defs o.script views s xs → reads_said o h (x ∷ xs) (numbers_now p taken (x ∷ xs)) ≡ reads_by o.defs o.script views s (x ∷ xs)
  by_kind true is rest = rw is (ap (λ a. answer_on x.line a ∷ reads_said o h xs (numbers_now p taken xs)) (alike x) ∙ ap (λ more. read_by o.defs o.script views s x ∷ more) rest)
  by_kind false is rest = rw is rest

-- what a session reads by its view, where it holds READ or READ LOCAL
alike_locked : (o : Opening) (front : List ScriptRound) (c : List Numbers) (k : Taking) (n : ℕ) (a : Option Act) (v : Snapshot) → o.script.takes ≡ k → MayRun o.defs o.script.lines → IsSound o.defs → IsState o.defs o.base → HasRun o front c → reads_only (locks_after o front) n ≡ true
    → v ≡ record { number = seen_number o front n; below = Some (end_in o.script.takes (seen_state o front n)) }
    → finds k o.beside o.defs (seen_state o front n) a (seen_number o front n) ≡ read_answer k o.defs v (standing_in o (table_after o front)) a
alike_locked o front c in_table n a v is may sound base run locked view =
    let d = o.defs in
    let now = table_after o front in
    let then = seen_state o front n in
    let seen : found d then a ≡ filter (λ (r : PlacedRow). nat_lt r.0 then.space.end) (found d now a) =
    finds_before d now then a then.space.end (sym (seen_rows o front c n may sound base run locked)) in
    ap (λ rs. rows rs (seen_number o front n)) seen ∙ sym (ap (λ (w : Snapshot). read_answer in_table d w (standing_in o now) a) (view ∙ ap (λ (t : Taking). record { number = seen_number o front n; below = Some (end_in t then) }) is))
alike_locked o front c (in_member k) n a v is may sound base run locked view =
    let same = seen_same o front c n may sound base run locked (ap is_list is) in
    ap (λ (s : TableState). merged (merged_found o.defs (in_list o.beside s) a) (seen_number o front n)) same ∙ sym (ap (λ (w : Snapshot). read_answer (in_member k) o.defs w (standing_in o (table_after o front)) a) view)
alike_locked o front c in_none n a v is may sound base run locked view =
    let same = seen_same o front c n may sound base run locked (ap is_list is) in
    ap (λ (s : TableState). merged (merged_found o.defs (in_list o.beside s) a) (seen_number o front n)) same ∙ sym (ap (λ (w : Snapshot). read_answer in_none o.defs w (standing_in o (table_after o front)) a) view)

-- and where it does not
alike_free : (k : Taking) (b : Beside) (d : Defs) (s : TableState) (n : ℕ) (a : Option Act) (v : Snapshot) → v ≡ record { number = n; below = None } → finds k b d s a n ≡ read_answer k d v (record { table = s; beside = b }) a
alike_free in_table b d s n a v view = sym (ap (λ (w : Snapshot). read_answer in_table d w (record { table = s; beside = b }) a) view)
alike_free (in_member k) b d s n a v view = sym (ap (λ (w : Snapshot). read_answer (in_member k) d w (record { table = s; beside = b }) a) view)
alike_free in_none b d s n a v view = sym (ap (λ (w : Snapshot). read_answer in_none d w (record { table = s; beside = b }) a) view)

-- what a session reads by its view
pub alike : (o : Opening) (front : List ScriptRound) (c : List Numbers) (p : RunState) → MayRun o.defs o.script.lines → IsSound o.defs → IsState o.defs o.base → HasRun o front c
    → p.locks ≡ locks_after o front → p.number ≡ number_after o front
    → ((n : ℕ) → p.taken n ≡ record { number = seen_number o front n; length = end_in o.script.takes (seen_state o front n) })
    → ReadsAlike o (history o) (next_after o front) (taken_in front) (seen_by p) (standing_in o (table_after o front))
alike o front c p may sound base run locks number taken x = by_lock (reads_only (locks_after o front) x.session) refl where
  held : reads_only p.locks x.session ≡ reads_only (locks_after o front) x.session
  held = ap (λ (r : LockState). reads_only r x.session) locks

  by_lock : (b : Bool) → reads_only (locks_after o front) x.session ≡ b → rows_at o (history o) x.line (number_now (next_after o front) (taken_in front) x) ≡ read_answer o.script.takes o.defs (seen_by p x.session) (standing_in o (table_after o front)) (act_of o.script.lines x.line)
  by_lock true is =
      let n = x.session in
      let view : seen_by p n ≡ record { number = seen_number o front n; below = Some (end_in o.script.takes (seen_state o front n)) } =
      rw (held ∙ is) (ap (λ (t : Taken). record { number = t.number; below = Some t.length }) (taken n)) in
      rw is (alike_locked o front c o.script.takes n (act_of o.script.lines x.line) (seen_by p n) refl may sound base run is view)
  by_lock false is =
      let n = x.session in
      let a = act_of o.script.lines x.line in
      let view : seen_by p n ≡ record { number = number_after o front; below = None } =
      rw (held ∙ is) (ap (λ m. record { number = m; below = None }) number) in
      rw is (ap (λ (t : TableState). finds o.script.takes o.beside o.defs t a (number_after o front)) (read_now o front c run) ∙ alike_free o.script.takes o.beside o.defs (table_after o front) (number_after o front) a (seen_by p n) view)
