-- A round whose runs went side by side, as a round of the script: its numbers are within their bounds, and it says what the history says by
-- them.
use Rattle.std.proofs.Common.{◌≡◌, ℕ, ◌+◌, ◌-◌, ◌≤◌, Bool, true, false, List, [], ◌∷◌, ◌++◌, take, length, Option, Some, refl, sym, ap, subst, ◌∙◌, arith}
use Rattle.std.specs.Prelude.{MatchBool, IsPermutation}
use Rattle.std.specs.List.{AllByRecursion, flat_map}
use Rattle.std.proofs.lemmas.List.{append-nil, length-append}
use Rattle.myi_base.specs.Holding.{Holding}
use Rattle.myi_defs.specs.declared.types.Defs.{Defs}
use Rattle.myi_defs.specs.Sound.{IsSound}
use Rattle.myi_keycache.specs.declared.setup.Counters.{Counters}
use Rattle.myi_state.specs.State.{TableState}
use Rattle.myi_state.specs.Changes.{Change, replay}
use Rattle.myi_state.specs.Sound.{IsState}
use Rattle.myi_locks.specs.declared.steps.Step.{Step}
use Rattle.myi_locks.specs.declared.steps.Run.{Run}
use Rattle.myi_locks.specs.declared.steps.Runs.{Runs}
use Rattle.myi_locks.specs.declared.steps.Round.{Round}
use Rattle.myi_locks.specs.declared.steps.Round.TheVariants.{Together}
use Rattle.myi_locks.specs.Steps.{is_read, is_insert}
use Rattle.myi_locks.specs.Rounds.{LockState, has_steps}
use Rattle.myi_locks.specs.Done.{run_steps, steps_of, is_together}
use Rattle.myi_locks.specs.Laws.{IsRunOf}
use Rattle.myi_script.specs.declared.types.Line.{Line}
use Rattle.myi_history.specs.Answers.{LineAnswer}
use Rattle.myi_history.specs.Appending.{AreAppends}
use Rattle.myi_history.specs.Lines.{MayRun}
use Rattle.myi_history.specs.History.{in_table, Statements, Opening, ScriptRound, reads_only, asks, asked_in, changes, state_after, changes_in, number_behind, history}
use Rattle.myi_history.specs.Text.{Numbers, state_at, reads_said, others_said}
use Rattle.myi_history.specs.Bounds.{SessionNumber, number_at}
use Rattle.myi_history.specs.RoundTexts.{texts_of}
use Rattle.myi_history.specs.SideBySide.{InsertsRow, RisesFrom, RunFits, RunsFit}
use Rattle.myi_history.specs.Running.{HasRun, IsNext, taken_in, locks_after, table_after, number_after, next_after, seen_number, seen_state}
use Rattle.myi_history.proofs.CallerLemmas.{side_by_side, rows_inserted, table_between, seen_within, seen_rows, run_state, run_appends}
use Rattle.myi_snapshots.specs.Appended.{rows_before}
use Rattle.myi_rounds.specs.Inserts.{asked_by, inserts_said}
use Rattle.myi_rounds.specs.Reads.{RiseWithin, AllAre, reads_by}
use Rattle.myi_rounds.proofs.CallerLemmas.{rising, of_take, all_said}
use Rattle.myi_shell.specs.declared.script_run.Taken.{Taken}
use Rattle.myi_shell.specs.declared.target.Target.{Target}
use Rattle.myi_shell.specs.Targets.{HoldsThen}
use Rattle.myi_shell.specs.Running.{standing_in}
use Rattle.myi_shell.specs.Stepping.{RunState, end_in, others_by}
use Rattle.myi_shell.specs.Beside.{seen_at, RunIsFit, RunsSay, GoBeside, BesideEachOther}
use Rattle.myi_shell.proofs.RoundLemmas.{others_same}
use Rattle.myi_shell.proofs.DoneLemmas.{AreReads, AreInserts, insert_reads_none, state_both, changes_both, others_both, reads_state, reads_change_none, reads_say_none, inserts_say}
use Rattle.myi_shell.proofs.BesideLemmas.{reads_both, reads_same, states_alike, changes_alike, writes_alike}

-- what is taken is so of each session
abbrev pub TakenAre : Opening → List ScriptRound → (ℕ → Taken) → Type 0
TakenAre o front taken = (n : ℕ) → taken n ≡ record { number = seen_number o front n; length = end_in o.script.takes (seen_state o front n) }

-- ---- what a round of a script has

inserts_none : (o : Opening) (h : List Change) (xs ys : List Step) (ns : List ℕ) → AreInserts xs → reads_said o h (xs ++ ys) ns ≡ reads_said o h ys ns
inserts_none o h [] ys ns are = refl
inserts_none o h (x ∷ xs) ys ns are = rw (insert_reads_none x.kind are.0) (inserts_none o h xs ys ns are.1)

are_inserts : (ls : List Line) (r : LockState) (xs : List Step) → AllByRecursion (InsertsRow ls r) xs → AreInserts xs
are_inserts ls r [] w = tt
are_inserts ls r (x ∷ xs) w = (rw w.0.kind refl, are_inserts ls r xs w.1)

both_reads : (session : ℕ) (xs ys : List Step) → AllByRecursion (λ (x : Step). (is_read x.kind ≡ true) × (x.session ≡ session)) xs → AreReads ys → AreReads (xs ++ ys)
both_reads session [] ys h k = k
both_reads session (x ∷ xs) ys h k = (h.0.0, both_reads session xs ys h.1 k)

runs_read : (runs : List Run) → AllByRecursion (IsRunOf is_read) runs → AreReads (flat_map (λ (run : Run). run.steps) runs)
runs_read [] own = tt
runs_read (run ∷ runs) own = both_reads run.session run.steps (flat_map (λ (q : Run). q.steps) runs) own.0 (runs_read runs own.1)

-- the changes of a round are those of its inserts
round_changes : (d : Defs) (ls : Statements) (r : LockState) (s : TableState) (inserter : Option Run) (readers : Runs) → ls.takes ≡ in_table → AllByRecursion (InsertsRow ls.lines r) (run_steps inserter) → AllByRecursion (IsRunOf is_read) readers.runs
    → changes d (asks ls r true) s (steps_of (Together inserter readers)) ≡ changes d (asked_by ls.lines) s (run_steps inserter)
round_changes d ls r s inserter readers takes rows own =
    let xs = run_steps inserter in
    let ys : List Step = flat_map (λ (run : Run). run.steps) readers.runs in
    let a = asks ls r true in
    changes_both d a s xs ys ∙ ap (λ cs. changes d a s xs ++ cs) (reads_change_none d ls r true (state_after d a s xs) ys (runs_read readers.runs own)) ∙ append-nil (changes d a s xs) ∙ changes_alike d ls r s xs takes rows

-- and its state
round_state : (d : Defs) (ls : Statements) (r : LockState) (s : TableState) (inserter : Option Run) (readers : Runs) → ls.takes ≡ in_table → AllByRecursion (InsertsRow ls.lines r) (run_steps inserter) → AllByRecursion (IsRunOf is_read) readers.runs
    → state_after d (asks ls r true) s (steps_of (Together inserter readers)) ≡ state_after d (asked_by ls.lines) s (run_steps inserter)
round_state d ls r s inserter readers takes rows own =
    let xs = run_steps inserter in
    let ys : List Step = flat_map (λ (run : Run). run.steps) readers.runs in
    let a = asks ls r true in
    state_both d a s xs ys ∙ reads_state d ls r true (state_after d a s xs) ys (runs_read readers.runs own) ∙ states_alike d ls r s xs takes rows

-- and what its steps say that read nothing
round_others : (o : Opening) (q : ScriptRound) (k : Counters) (s : TableState) (inserter : Option Run) (readers : Runs) → q.round ≡ Together inserter readers → o.script.takes ≡ in_table → AllByRecursion (InsertsRow o.script.lines q.locks) (run_steps inserter) → AllByRecursion (IsRunOf is_read) readers.runs
    → others_said o q s k (steps_of (Together inserter readers)) ≡ inserts_said o.defs (asked_by o.script.lines) s (run_steps inserter)
round_others o q k s inserter readers is takes rows own =
    let d = o.defs in
    let ls = o.script in
    let xs = run_steps inserter in
    let ys : List Step = flat_map (λ (run : Run). run.steps) readers.runs in
    let a = asks ls q.locks true in
    others_same o q s k (xs ++ ys) ∙ ap (λ (z : Round). others_by d ls q.locks (is_together z) k s (xs ++ ys)) is
    ∙ others_both d ls q.locks true k s xs ys ∙ ap (λ said. others_by d ls q.locks true k s xs ++ said) (reads_say_none d ls q.locks true k (state_after d a s xs) ys (runs_read readers.runs own))
    ∙ append-nil (others_by d ls q.locks true k s xs) ∙ inserts_say d ls q.locks true k s xs (are_inserts ls.lines q.locks xs rows) ∙ writes_alike d ls q.locks s xs takes rows

-- ---- numbers

same_length : (runs : List Run) (d : Defs) (ls : List Line) (p : RunState) (seen : ℕ → ℕ → TableState) (behind : ℕ) (ns : List ℕ) (said : List LineAnswer) → RunsSay d ls p seen behind runs ns said → length ns ≡ length (flat_map (λ (run : Run). run.steps) runs)
same_length [] d ls p seen behind ns said h = ap length h.0
same_length (run ∷ runs) d ls p seen behind ns said h =
    let more = same_length runs d ls p seen behind h.1 h.2 h.6 in
    let own = h.5.each in
    let here = ap length h.3 ∙ length-append h.0 h.1 in
    let there = length-append run.steps (flat_map (λ (q : Run). q.steps) runs) in
    omega (arith, more, own, here, there)

runs_fit : (o : Opening) (front : List ScriptRound) (runs : List Run) (d : Defs) (ls : List Line) (p : RunState) (seen : ℕ → ℕ → TableState) (behind : ℕ) (ns : List ℕ) (said : List LineAnswer) → p.locks ≡ locks_after o front → p.number ≡ number_after o front → TakenAre o front p.taken
    → RunsSay d ls p seen behind runs ns said → RunsFit (next_after o front) behind (taken_in front) runs ns
runs_fit o front [] d ls p seen behind ns said locks number taken h = h.0
runs_fit o front (run ∷ runs) d ls p seen behind ns said locks number taken h =
    (h.0, h.1, h.3, one (reads_only p.locks run.session) refl h.5, runs_fit o front runs d ls p seen behind h.1 h.2 locks number taken h.6)
  where
    q : ScriptRound
    q = next_after o front

    held : reads_only p.locks run.session ≡ reads_only q.locks run.session
    held = ap (λ (r : LockState). reads_only r run.session) locks

    one : (b : Bool) → reads_only p.locks run.session ≡ b → RunIsFit p behind run h.0 → RunFits q behind (taken_in front) run h.0
    one true locked fit =
        let same : AllAre (p.taken run.session).number h.0 = subst (λ (b : Bool). MatchBool b (AllAre (p.taken run.session).number h.0) (RiseWithin p.number behind h.0)) locked fit.bounds in
        of_take q behind (taken_in front) run h.0 (sym held ∙ locked) fit.each (subst (λ n. AllAre n h.0) (ap (λ (t : Taken). t.number) (taken run.session)) same)
    one false free fit =
        let rise : RiseWithin p.number behind h.0 = subst (λ (b : Bool). MatchBool b (AllAre (p.taken run.session).number h.0) (RiseWithin p.number behind h.0)) free fit.bounds in
        rising q behind (taken_in front) run h.0 (sym held ∙ free) fit.each (subst (λ n. RiseWithin n behind h.0) number rise)

-- ---- what the reads say

-- what a session sees by a number is what the history has
abbrev SeesSame : Opening → RunState → (ℕ → ℕ → TableState) → ℕ → Type 0
SeesSame o p seen behind =
    (run : Run) (ns : List ℕ) → RunIsFit p behind run ns → AllByRecursion (λ n. state_at o (history o) n ≡ seen run.session n) ns

rises_above : (low : ℕ) (ns : List ℕ) → RisesFrom low ns → AllByRecursion (λ n. low ≤ n) ns
rises_above low [] h = tt
rises_above low (n ∷ ns) h = (h.0, more n ns (rises_above n ns h.1))
  where
    more : (m : ℕ) (ks : List ℕ) → AllByRecursion (λ k. n ≤ k) ks → AllByRecursion (λ k. low ≤ k) ks
    more m [] all = tt
    more m (k ∷ ks) all = (let a : low ≤ n = h.0 in let b : n ≤ k = all.0 in omega (arith, a, b), more m ks all.1)

pair_all : (P Q R : ℕ → Type 0) (ns : List ℕ) → ((n : ℕ) → P n → Q n → R n) → AllByRecursion P ns → AllByRecursion Q ns → AllByRecursion R ns
pair_all P Q R [] f h k = tt
pair_all P Q R (n ∷ ns) f h k = (f n h.0 k.0, pair_all P Q R ns f h.1 k.1)

one_all : (P R : ℕ → Type 0) (ns : List ℕ) → ((n : ℕ) → P n → R n) → AllByRecursion P ns → AllByRecursion R ns
one_all P R [] f h = tt
one_all P R (n ∷ ns) f h = (f n h.0, one_all P R ns f h.1)

sees_same : (o : Opening) (front : List ScriptRound) (c : List Numbers) (p : RunState) → MayRun o.defs o.script.lines → HasRun o front c → has_steps (locks_after o front) ≡ true → p.locks ≡ locks_after o front → p.number ≡ number_after o front → TakenAre o front p.taken
    → SeesSame o p (seen_at o.defs p (table_after o front) (λ n. seen_state o front n) (changes_in o (next_after o front))) (number_behind o (next_after o front))
sees_same o front c p may has left locks number taken run ns fit = by_lock (reads_only p.locks run.session) refl
  where
    behind : ℕ
    behind = number_behind o (next_after o front)

    seen : ℕ → TableState
    seen = seen_at o.defs p (table_after o front) (λ n. seen_state o front n) (changes_in o (next_after o front)) run.session

    by_lock : (b : Bool) → reads_only p.locks run.session ≡ b → AllByRecursion (λ n. state_at o (history o) n ≡ seen_at o.defs p (table_after o front) (λ k. seen_state o front k) (changes_in o (next_after o front)) run.session n) ns
    by_lock true locked =
        let same : AllAre (p.taken run.session).number ns = subst (λ (b : Bool). MatchBool b (AllAre (p.taken run.session).number ns) (RiseWithin p.number behind ns)) locked fit.bounds in
        one_all (λ n. n ≡ (p.taken run.session).number) _ ns (λ n e. rw locked (ap (λ k. state_at o (history o) k) (e ∙ ap (λ (t : Taken). t.number) (taken run.session)))) same
    by_lock false free =
        let rise : RiseWithin p.number behind ns = subst (λ (b : Bool). MatchBool b (AllAre (p.taken run.session).number ns) (RiseWithin p.number behind ns)) free fit.bounds in
        pair_all (λ n. p.number ≤ n) (λ n. n ≤ behind) _ ns
        (λ n low high. rw free (table_between o front c n may has left (subst (λ m. m ≤ n) number low) high ∙ ap (λ m. replay o.defs (table_after o front) (take (n - m) (changes_in o (next_after o front)))) (sym number)))
        (rises_above p.number ns rise.0) rise.1

runs_said : (o : Opening) (p : RunState) (seen : ℕ → ℕ → TableState) (behind : ℕ) (runs : List Run) (ns : List ℕ) (said : List LineAnswer) → SeesSame o p seen behind → RunsSay o.defs o.script.lines p seen behind runs ns said
    → reads_by o.defs o.script.lines (state_at o (history o)) (flat_map (λ (run : Run). run.steps) runs) ns ≡ said
runs_said o p seen behind [] ns said same h = sym h.1
runs_said o p seen behind (run ∷ runs) ns said same h =
    let d = o.defs in
    let ls = o.script.lines in
    let states = state_at o (history o) in
    let others : List Step = flat_map (λ (q : Run). q.steps) runs in
    ap (reads_by d ls states (run.steps ++ others)) h.3 ∙ reads_both d ls states run.steps others h.0 h.1 h.5.each
    ∙ ap (λ r. r ++ reads_by d ls states others h.1) (reads_same d ls states (seen run.session) run.steps h.0 (same run h.0 h.5))
    ∙ ap (λ r. reads_by d ls (seen run.session) run.steps h.0 ++ r) (runs_said o p seen behind runs h.1 h.2 same h.6) ∙ sym h.4

-- ---- the round

-- what the history says of the round by these numbers
abbrev pub answers_by : Opening → List ScriptRound → Numbers → List LineAnswer
answers_by o front ns =
    reads_said o (history o) (steps_of (next_after o front).round) ns.reads
    ++ others_said o (next_after o front) (table_after o front) ns.counters (steps_of (next_after o front).round)

-- how a script stands before the round
pub record StandsAt (o : Opening) (front : List ScriptRound) (c : List Numbers) (p : RunState) : Type 0 where
  pub may : MayRun o.defs o.script.lines
  pub sound : IsSound o.defs
  pub base : IsState o.defs o.base
  pub run : HasRun o front c
  pub left : has_steps (locks_after o front) ≡ true
  pub locks : p.locks ≡ locks_after o front
  pub number : p.number ≡ number_after o front
  pub taken : TakenAre o front p.taken

go_beside : (o : Opening) (front : List ScriptRound) (c : List Numbers) (p : RunState) (inserter : Option Run) (readers : Runs) → StandsAt o front c p → o.script.takes ≡ in_table → (next_after o front).round ≡ Together inserter readers → AllByRecursion (IsRunOf is_read) readers.runs
    → GoBeside o.defs o.script.lines p (table_after o front) (λ n. seen_state o front n) (run_steps inserter) readers.runs
go_beside o front c p inserter readers w takes is own =
    let rows = rows_inserted o front c inserter readers w.may w.run is in
    let held : (n : ℕ) → reads_only p.locks n ≡ true → reads_only (locks_after o front) n ≡ true = λ n locked. ap (λ (r : LockState). reads_only r n) (sym w.locks) ∙ locked in
    record {
      state = run_state o front c w.may w.sound w.base w.run;
      inserts = subst (λ (r : LockState). AllByRecursion (InsertsRow o.script.lines r) (run_steps inserter)) (sym w.locks) rows;
      runs = own;
      early = λ n locked.
          let within = seen_within o front c n w.may w.sound w.base w.run (held n locked) in
          let long : (p.taken n).length ≡ (seen_state o front n).space.end = ap (λ (t : Taken). t.length) (w.taken n) ∙ ap (λ k. end_in k (seen_state o front n)) takes in
          record {
            within = subst (λ k. k ≤ (table_after o front).space.end) (sym long) within.1;
            state = within.0;
            rows = sym (ap (λ k. rows_before k (table_after o front).rows) long ∙ seen_rows o front c n w.may w.sound w.base w.run (held n locked));
          };
      appends = λ n locked.
          subst (AreAppends o.defs) (ap (λ (z : Round). changes o.defs (asks o.script (locks_after o front) (is_together z)) (table_after o front) (steps_of z)) is ∙ round_changes o.defs o.script (locks_after o front) (table_after o front) inserter readers takes rows own)
          (run_appends o front c n w.may w.run (held n locked));
    }

-- What a round says and leaves whose runs went side by side, by numbers that are within their bounds.
pub record IsRoundOf (o : Opening) (front : List ScriptRound) (c : List Numbers) (k : Counters) (p : RunState) (next : Option Holding) (table : Target) (new : RunState) : Type 0 where
  pub numbers : Numbers
  pub counted : numbers.counters ≡ k
  pub fits : IsNext o front c numbers
  pub state : HoldsThen next table (standing_in o (state_after o.defs (asks o.script p.locks (is_together (next_after o front).round)) (table_after o front) (steps_of (next_after o front).round)))
  pub number : new.number ≡ p.number + length (changes o.defs (asks o.script p.locks (is_together (next_after o front).round)) (table_after o front) (steps_of (next_after o front).round))
  pub texts : IsPermutation (texts_of (answers_by o front numbers)) new.texts

pub beside_round : (o : Opening) (front : List ScriptRound) (c : List Numbers) (k : Counters) (p new : RunState) (next : Option Holding) (table : Target) (inserter : Option Run) (readers : Runs) → StandsAt o front c p → o.script.takes ≡ in_table → (next_after o front).round ≡ Together inserter readers → AllByRecursion (IsRunOf is_read) readers.runs
    → p.texts ≡ [] → BesideEachOther o.defs o.script.lines p (standing_in o (table_after o front)) (run_steps inserter) readers.runs next table new → IsRoundOf o front c k p next table new
beside_round o front c k p new next table inserter readers w takes is own empty done =
    let q = next_after o front in
    let s = table_after o front in
    let d = o.defs in
    let ls = o.script in
    let xs = run_steps inserter in
    let ys : List Step = flat_map (λ (run : Run). run.steps) readers.runs in
    let goes = go_beside o front c p inserter readers w takes is own in
    let r = done (λ n. seen_state o front n) goes in
    let rows : AllByRecursion (InsertsRow ls.lines q.locks) xs = subst (λ (z : LockState). AllByRecursion (InsertsRow ls.lines z) xs) w.locks goes.inserts in
    let changed : changes_in o q ≡ changes d (asked_by ls.lines) s xs = ap (λ (z : Round). changes d (asks ls q.locks (is_together z)) s (steps_of z)) is ∙ round_changes d ls q.locks s inserter readers takes rows own in
    let mine : changes d (asks ls p.locks (is_together q.round)) s (steps_of q.round) ≡ changes d (asked_by ls.lines) s xs = ap (λ (z : LockState). changes d (asks ls z (is_together q.round)) s (steps_of q.round)) w.locks ∙ changed in
    let state : state_after d (asks ls p.locks (is_together q.round)) s (steps_of q.round) ≡ state_after d (asked_by ls.lines) s xs =
    ap (λ (z : LockState). state_after d (asks ls z (is_together q.round)) s (steps_of q.round)) w.locks ∙ ap (λ (z : Round). state_after d (asks ls q.locks (is_together z)) s (steps_of z)) is ∙ round_state d ls q.locks s inserter readers takes rows own in
    let behind : new.number ≡ number_behind o q = r.number ∙ ap (λ n. n + length (changes d (asked_by ls.lines) s xs)) w.number ∙ ap (λ cs. number_after o front + length cs) (sym changed) in
    let reads : RunsSay d ls.lines p (seen_at d p s (λ n. seen_state o front n) (changes_in o q)) (number_behind o q) readers.runs r.numbers r.said =
    subst (λ h. RunsSay d ls.lines p (seen_at d p s (λ n. seen_state o front n) h) (number_behind o q) readers.runs r.numbers r.said) (sym changed)
    (subst (λ n. RunsSay d ls.lines p (seen_at d p s (λ n. seen_state o front n) (changes d (asked_by ls.lines) s xs)) n readers.runs r.numbers r.said) behind r.reads) in
    let ns : Numbers = record { reads = r.numbers; counters = k } in
    let seen : ℕ → ℕ → TableState = seen_at d p s (λ n. seen_state o front n) (changes_in o q) in
    let fits = runs_fit o front readers.runs d ls.lines p seen (number_behind o q) r.numbers r.said w.locks w.number w.taken reads in
    let same = sees_same o front c p w.may w.run w.left w.locks w.number w.taken in
    let said : reads_said o (history o) (steps_of q.round) r.numbers ≡ r.said =
    ap (λ (z : Round). reads_said o (history o) (steps_of z) r.numbers) is ∙ inserts_none o (history o) xs ys r.numbers (are_inserts ls.lines q.locks xs rows)
    ∙ all_said o (history o) ys r.numbers takes (runs_read readers.runs own) (same_length readers.runs d ls.lines p seen (number_behind o q) r.numbers r.said reads)
    ∙ runs_said o p seen (number_behind o q) readers.runs r.numbers r.said same reads in
    let others : others_said o q s k (steps_of q.round) ≡ inserts_said d (asked_by ls.lines) s xs = ap (λ (z : Round). others_said o q s k (steps_of z)) is ∙ round_others o q k s inserter readers is takes rows own in
    let answers : answers_by o front ns ≡ r.said ++ inserts_said d (asked_by ls.lines) s xs = ap (λ a. a ++ others_said o q s k (steps_of q.round)) said ∙ ap (λ a. r.said ++ a) others in
    record {
      numbers = ns;
      counted = refl;
      fits = side_by_side o front c ns inserter readers w.may w.run is fits;
      state = subst (λ (t : TableState). HoldsThen next table (standing_in o t)) (sym state) r.state;
      number = r.number ∙ ap (λ cs. p.number + length cs) (sym mine);
      texts = subst (λ t. IsPermutation t new.texts) (ap texts_of (sym answers)) (subst (λ t. IsPermutation (t ++ texts_of (r.said ++ inserts_said d (asked_by ls.lines) s xs)) new.texts) empty r.texts);
    }
