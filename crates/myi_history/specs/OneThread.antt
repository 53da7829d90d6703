-- The numbers of a run on one thread, where the reads of a round go before its inserts.
use Rattle.std.specs.Prelude.{◌≡◌, ℕ, true, false, ◌⊎◌, List, [], ◌∷◌, ◌++◌, map, length, if◌then◌else◌}
use Rattle.std.specs.List.{AllByRecursion}
use Rattle.myi_keycache.specs.declared.setup.Counters.{Counters}
use Rattle.myi_state.specs.Changes.{replay}
use Rattle.myi_locks.specs.declared.steps.Step.{Step}
use Rattle.myi_locks.specs.Steps.{is_read}
use Rattle.myi_locks.specs.Rounds.{next_round, has_steps}
use Rattle.myi_locks.specs.Done.{steps_of}
use Rattle.myi_history.specs.History.{Opening, ScriptRound, reads_only, has_hole, changes_in, history_in, first_locks, rounds_of, locks_behind}
use Rattle.myi_history.specs.Text.{Numbers, no_numbers}
use Rattle.myi_history.specs.Bounds.{SessionNumber, number_at, taken_by, is_stats, CountersRise}

-- the number of a read
abbrev pub number_now : ScriptRound → List SessionNumber → Step → ℕ
number_now p taken x = if reads_only p.locks x.session then number_at x.session taken else p.before

abbrev pub numbers_now : ScriptRound → List SessionNumber → List Step → List ℕ
numbers_now p taken [] = []
numbers_now p taken (x ∷ xs) =
    if is_read x.kind then number_now p taken x ∷ numbers_now p taken xs else numbers_now p taken xs

-- the numbers of a round
abbrev pub round_numbers : ScriptRound → List SessionNumber → Counters → Numbers
round_numbers p taken c = record { reads = numbers_now p taken (steps_of p.round); counters = c }

-- those of rounds, where each `stats` counts nothing
abbrev pub in_turn : List SessionNumber → List ScriptRound → List Numbers
in_turn taken [] = []
in_turn taken (p ∷ ps) =
    round_numbers p taken no_numbers.counters ∷ in_turn (taken_by p.before p.round ++ taken) ps

-- the reads have the numbers of a run on one thread; what is counted is left open
abbrev pub HaveReadsInTurn : Opening → List Numbers → Type 0
HaveReadsInTurn o c = map (λ (n : Numbers). n.reads) c ≡ map (λ (n : Numbers). n.reads) (in_turn [] (rounds_of o))

-- what a round counted, where its step is a `stats`, and else what was counted before it
abbrev pub counted_by : Counters → ScriptRound → Numbers → Counters
counted_by last p ns = if is_stats (steps_of p.round) then ns.counters else last

-- from one `stats` to the next the counters never fall, and from what was counted last
abbrev pub StatsRise : Counters → List ScriptRound → List Numbers → Type 0
StatsRise last [] c = Unit {0}
StatsRise last (p ∷ ps) [] = Unit {0}
StatsRise last (p ∷ ps) (ns ∷ c) =
    (is_stats (steps_of p.round) ≡ true → CountersRise last ns.counters) × StatsRise (counted_by last p ns) ps c

-- ---- what the laws say

-- The locks before a round are those behind the rounds before it, and a step is left; the table is the replay of the history so
-- far; and the round is the next one of these locks with that table's holes.
pub record FollowsHistory (o : Opening) (front : List ScriptRound) (p : ScriptRound) : Type 0 where
  pub locks : p.locks ≡ locks_behind (first_locks o) front
  pub left : has_steps p.locks ≡ true
  pub state : p.state ≡ replay o.defs o.base (history_in o front)
  pub before : p.before ≡ length (history_in o front)
  pub round : p.round ≡ next_round p.locks (has_hole o.script.takes (replay o.defs o.base (history_in o front)))

-- in this round no change is accepted, or nothing is read
abbrev pub IsForced : Opening → ScriptRound → Type 0
IsForced o p = (changes_in o p ≡ []) ⊎ AllByRecursion (λ x. is_read x.kind ≡ false) (steps_of p.round)
