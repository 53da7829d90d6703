-- A run of a script that has come so far: the rounds that are done, and their numbers. And what stands behind them: the locks, the
-- table, the number of changes, and what was printed.
use Rattle.std.specs.Prelude.{◌≡◌, ℕ, true, List, [], ◌∷◌, ◌++◌, fold, drop, length}
use Rattle.std.specs.List.{flat_map}
use Rattle.myi_keycache.specs.declared.setup.Counters.{Counters}
use Rattle.myi_state.specs.State.{TableState}
use Rattle.myi_state.specs.Changes.{replay}
use Rattle.myi_locks.specs.Rounds.{LockState}
use Rattle.myi_locks.specs.Done.{steps_of}
use Rattle.myi_history.specs.History.{Opening, ScriptRound, round_from, first_locks, locks_behind, rounds_of, history_in, history}
use Rattle.myi_history.specs.Answers.{said_text}
use Rattle.myi_history.specs.Text.{Numbers, no_numbers, first_numbers, said_in, state_at}
use Rattle.myi_history.specs.Bounds.{SessionNumber, number_at, taken_by, is_stats, CountersRise, PastNumbers, nothing_past, past_behind, RoundFits, FitFrom}
use Rattle.myi_history.specs.OneThread.{numbers_now, counted_by}

-- ---- numbers

-- the numbers of changes at the sessions' Takes of READ or READ LOCAL in these rounds, the last one first
abbrev pub taken_in : List ScriptRound → List SessionNumber
taken_in ps = fold (λ taken p. taken_by p.before p.round ++ taken) [] ps

-- what was counted last in these rounds, and before them where none of them counted
abbrev pub counted_in : Counters → List ScriptRound → List Numbers → Counters
counted_in last [] c = last
counted_in last (p ∷ ps) c = counted_in (counted_by last p (first_numbers c)) ps (drop 1 c)

-- ---- what stands behind rounds

abbrev pub locks_after : Opening → List ScriptRound → LockState
locks_after o front = locks_behind (first_locks o) front

abbrev pub table_after : Opening → List ScriptRound → TableState
table_after o front = replay o.defs o.base (history_in o front)

-- how many changes were accepted
abbrev pub number_after : Opening → List ScriptRound → ℕ
number_after o front = length (history_in o front)

-- the round that comes next
abbrev pub next_after : Opening → List ScriptRound → ScriptRound
next_after o front = round_from o.script.takes (locks_after o front) (table_after o front) (number_after o front)

-- what they print
abbrev pub run_text : Opening → List ScriptRound → List Numbers → List ℕ
run_text o front c = flat_map said_text (said_in o (history o) front c)

-- how many changes stood when the session took READ or READ LOCAL last, and the table that it reads while it holds the lock
abbrev pub seen_number : Opening → List ScriptRound → ℕ → ℕ
seen_number o front n = number_at n (taken_in front)

abbrev pub seen_state : Opening → List ScriptRound → ℕ → TableState
seen_state o front n = state_at o (history o) (seen_number o front n)

-- what is past behind rounds that have these numbers
abbrev pub past_from : Opening → PastNumbers → List ScriptRound → List Numbers → PastNumbers
past_from o past [] c = past
past_from o past (p ∷ ps) c = past_from o (past_behind o past p (first_numbers c)) ps (drop 1 c)

abbrev pub past_after : Opening → List ScriptRound → List Numbers → PastNumbers
past_after o front c = past_from o nothing_past front c

-- ---- runs

-- These rounds of a script are done, with these numbers: they are its first rounds, and the numbers are within their bounds.
pub record HasRun (o : Opening) (front : List ScriptRound) (c : List Numbers) : Type 0 where
  pub first : (back : List ScriptRound) × (rounds_of o ≡ front ++ back)
  pub within : FitFrom o nothing_past front c

-- the numbers of the next round are within their bounds, by those of the rounds before it
abbrev pub IsNext : Opening → List ScriptRound → List Numbers → Numbers → Type 0
IsNext o front c ns = RoundFits o (past_after o front c) (next_after o front) ns

-- They are those of a round that one thread does, where its reads go before its inserts; and what is counted rises from the `stats`
-- before.
pub record IsNextInTurn (o : Opening) (front : List ScriptRound) (c : List Numbers) (ns : Numbers) : Type 0 where
  pub reads : ns.reads ≡ numbers_now (next_after o front) (taken_in front) (steps_of (next_after o front).round)
  pub counted : is_stats (steps_of (next_after o front).round) ≡ true → CountersRise (counted_in no_numbers.counters front c) ns.counters
