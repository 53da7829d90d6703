-- Which numbers a script's reads may be given. A session that took READ or READ LOCAL reads at the number of changes that stood
-- then. Another read has at least the changes before its round and those that the session made or saw, and at most those of
-- the round's end.
use Rattle.std.specs.Prelude.{◌≡◌, ℕ, ◌+◌, ◌≤◌, Bool, true, false, ◌==◌, List, [], ◌∷◌, ◌++◌, map, drop, length, Option, if◌then◌else◌, MatchBool, slice_index}
use Rattle.std.specs.List.{AllByRecursion}
use Rattle.myi_keycache.specs.declared.setup.Counters.{Counters}
use Rattle.myi_defs.specs.declared.types.Defs.{Defs}
use Rattle.myi_state.specs.State.{TableState}
use Rattle.myi_state.specs.Changes.{Change}
use Rattle.myi_locks.specs.declared.steps.StepKind.{StepKind}
use Rattle.myi_locks.specs.declared.steps.StepKind.TheVariants as kind
use Rattle.myi_locks.specs.declared.steps.Step.{Step}
use Rattle.myi_locks.specs.declared.steps.Round.{Round}
use Rattle.myi_locks.specs.declared.steps.Round.TheVariants.{Finished, Alone, Together}
use Rattle.myi_locks.specs.Steps.{is_read, takes_read}
use Rattle.myi_locks.specs.Done.{steps_of}
use Rattle.myi_history.specs.History.{Opening, ScriptRound, asked_in, reads_only, accepted_of, stepped_by, number_behind, rounds_of}
use Rattle.myi_history.specs.Text.{Numbers, no_numbers}

-- a session and a number
abbrev pub SessionNumber : Type 0
SessionNumber = ℕ × ℕ

-- what stands before a round: the numbers of the sessions' reads and own changes; the number of changes at each session's Take of
-- READ or READ LOCAL, the last one first; and what was counted last
pub record PastNumbers : Type 0 where
  pub numbers : List SessionNumber
  pub taken : List SessionNumber
  pub counters : Counters

abbrev pub nothing_past : PastNumbers
nothing_past = record { numbers = []; taken = []; counters = no_numbers.counters }

-- the first number of that session
abbrev pub number_at : ℕ → List SessionNumber → ℕ
number_at n [] = 0
number_at n (t ∷ ts) = if t.0 == n then t.1 else number_at n ts

-- ---- reads

-- a number between the changes before a round and those behind it, and at least each number that the session has seen
pub record IsBetween (before behind session : ℕ) (numbers : List SessionNumber) (n : ℕ) : Type 0 where
  pub low : before ≤ n
  pub high : n ≤ behind
  pub own : AllByRecursion (λ m. m.0 ≡ session → m.1 ≤ n) numbers

-- a read's number, in a round up to whose end there are so many changes
abbrev pub ReadFits : ScriptRound → ℕ → PastNumbers → Step → ℕ → Type 0
ReadFits p behind past x n =
    MatchBool (reads_only p.locks x.session) (n ≡ number_at x.session past.taken)
    (IsBetween p.before behind x.session past.numbers n)

abbrev pub noted : PastNumbers → ℕ → ℕ → PastNumbers
noted past session n =
    record { numbers = (session, n) ∷ past.numbers; taken = past.taken; counters = past.counters }

-- the reads of a round, each with its number
abbrev pub ReadsFit : ScriptRound → ℕ → PastNumbers → List Step → List ℕ → Type 0
ReadsFit p behind past [] ns = ns ≡ []
ReadsFit p behind past (x ∷ xs) ns =
    MatchBool (is_read x.kind)
    ((n : ℕ) × (rest : List ℕ) × (ns ≡ n ∷ rest) × ReadFits p behind past x n × ReadsFit p behind (noted past x.session n) xs rest)
    (ReadsFit p behind past xs ns)

-- what is past behind them
abbrev pub past_reads : PastNumbers → List Step → List ℕ → PastNumbers
past_reads past [] ns = past
past_reads past (x ∷ xs) ns =
    if is_read x.kind then past_reads (noted past x.session (slice_index ns 0)) xs (drop 1 ns)
    else past_reads past xs ns

-- ---- changes, locks and counters

-- the numbers of the sessions' own changes, where n changes stand before these steps
abbrev pub own_numbers : Defs → (Step → Option Change) → TableState → ℕ → List Step → List SessionNumber
own_numbers d asked s n [] = []
own_numbers d asked s n (x ∷ xs) =
    map (λ c. (x.session, n + 1)) (accepted_of d s (asked x))
    ++ own_numbers d asked (stepped_by d s (asked x)) (n + length (accepted_of d s (asked x))) xs

-- a Take of READ or READ LOCAL goes alone; it notes the number of changes that stand then
abbrev pub taken_by : ℕ → Round → List SessionNumber
taken_by n (Alone x) = if takes_read x.kind then (x.session, n) ∷ [] else []
taken_by n Finished = []
taken_by n (Together inserter readers) = []

-- counters never fall, and reads are at most requests
pub record CountersRise (old new : Counters) : Type 0 where
  pub read_requests : old.read_requests ≤ new.read_requests
  pub reads : old.reads ≤ new.reads
  pub write_requests : old.write_requests ≤ new.write_requests
  pub writes : old.writes ≤ new.writes
  pub fewer : new.reads ≤ new.read_requests

abbrev pub is_stats_kind : StepKind → Bool
is_stats_kind kind.Stats = true
is_stats_kind other = false

-- these steps are that of a `stats`, which goes alone
abbrev pub is_stats : List Step → Bool
is_stats (x ∷ []) = is_stats_kind x.kind
is_stats xs = false

-- ---- rounds

abbrev pub RoundFits : Opening → PastNumbers → ScriptRound → Numbers → Type 0
RoundFits o past p ns =
    ReadsFit p (number_behind o p) past (steps_of p.round) ns.reads
    × (is_stats (steps_of p.round) ≡ true → CountersRise past.counters ns.counters)

abbrev pub own_in : Opening → ScriptRound → List SessionNumber
own_in o p = own_numbers o.defs (asked_in o.script p) p.state p.before (steps_of p.round)

abbrev pub past_behind : Opening → PastNumbers → ScriptRound → Numbers → PastNumbers
past_behind o past p ns =
    record {
      numbers = own_in o p ++ (past_reads past (steps_of p.round) ns.reads).numbers;
      taken = taken_by p.before p.round ++ past.taken;
      counters = if is_stats (steps_of p.round) then ns.counters else past.counters;
    }

-- one entry for each round
abbrev pub FitFrom : Opening → PastNumbers → List ScriptRound → List Numbers → Type 0
FitFrom o past [] c = c ≡ []
FitFrom o past (p ∷ ps) [] = ⊥
FitFrom o past (p ∷ ps) (ns ∷ c) = RoundFits o past p ns × FitFrom o (past_behind o past p ns) ps c

-- the free numbers of a script are within their bounds
abbrev pub AreWithin : Opening → List Numbers → Type 0
AreWithin o c = FitFrom o nothing_past (rounds_of o) c
