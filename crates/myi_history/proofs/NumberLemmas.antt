-- The numbers of a run on one thread are within their bounds.
use Rattle.std.proofs.Common.{◌≡◌, ℕ, zero, suc, ◌+◌, ◌≤◌, ◌==◌, List, [], ◌∷◌, ◌++◌, map, length, Option, Bool, true, false, cond, refl, sym, arith, subst, length-append}
use Rattle.std.specs.Prelude.{MatchBool, slice_index, drop}
use Rattle.std.specs.List.{AllByRecursion}
use Rattle.myi_keycache.specs.declared.setup.Counters.{Counters}
use Rattle.myi_defs.specs.declared.types.Defs.{Defs}
use Rattle.myi_state.specs.State.{TableState}
use Rattle.myi_state.specs.Changes.{Change}
use Rattle.myi_locks.specs.declared.steps.Step.{Step}
use Rattle.myi_locks.specs.declared.steps.Round.{Round}
use Rattle.myi_locks.specs.declared.steps.Round.TheVariants.{Finished, Alone, Together}
use Rattle.myi_locks.specs.Steps.{is_read, takes_read}
use Rattle.myi_locks.specs.Rounds.{LockState, next_round, has_steps}
use Rattle.myi_locks.specs.Done.{steps_of, advanced}
use Rattle.myi_locks.specs.Laws.{steps_left}
use Rattle.myi_history.specs.History.{Opening, ScriptRound, asked_in, reads_only, accepted_of, stepped_by, changes, round_from, state_behind, number_behind, rounds, first_locks, rounds_of, has_hole}
use Rattle.myi_history.specs.Text.{Numbers, no_numbers}
use Rattle.myi_history.specs.Bounds.{SessionNumber, PastNumbers, number_at, ReadFits, ReadsFit, IsBetween, noted, past_reads, own_numbers, own_in, taken_by, is_stats, past_behind, FitFrom, AreWithin, nothing_past}
use Rattle.myi_history.specs.OneThread.{number_now, numbers_now, in_turn, HaveReadsInTurn, StatsRise}
use Rattle.myi_history.proofs.ReplayLemmas.{later_rounds}

abbrev pub none_counted : Counters
none_counted = no_numbers.counters

-- each number is at most n
abbrev pub Low : ℕ → List SessionNumber → Type 0
Low n ms = AllByRecursion (λ m. m.1 ≤ n) ms

pub low_more : (n k : ℕ) (ms : List SessionNumber) → n ≤ k → Low n ms → Low k ms
low_more n k [] le h = tt
low_more n k (m ∷ ms) le h = (let a : m.1 ≤ n = h.0 in omega arith, low_more n k ms le h.1)

pub low_join : (n : ℕ) (ms ks : List SessionNumber) → Low n ms → Low n ks → Low n (ms ++ ks)
low_join n [] ks h k = k
low_join n (m ∷ ms) ks h k = (h.0, low_join n ms ks h.1 k)

pub low_own : (n s : ℕ) (ms : List SessionNumber) → Low n ms → AllByRecursion (λ m. m.0 ≡ s → m.1 ≤ n) ms
low_own n s [] h = tt
low_own n s (m ∷ ms) h = (λ e. h.0, low_own n s ms h.1)

pub low_at : (n s : ℕ) (ms : List SessionNumber) → Low n ms → number_at s ms ≤ n
low_at n s [] h = omega arith
low_at n s (m ∷ ms) h = go (m.0 == s) (low_at n s ms h.1)
  where
    go : (b : Bool) → number_at s ms ≤ n → cond b m.1 (number_at s ms) ≤ n
    go true ih = h.0
    go false ih = ih

low_now : (p : ScriptRound) (taken : List SessionNumber) (x : Step) → Low p.before taken → number_now p taken x ≤ p.before
low_now p taken x h = go (reads_only p.locks x.session)
  where
    go : (b : Bool) → cond b (number_at x.session taken) p.before ≤ p.before
    go true = low_at p.before x.session taken h
    go false = omega arith

fits_now : (p : ScriptRound) (after : ℕ) (past : PastNumbers) (x : Step) → p.before ≤ after → Low p.before past.numbers → ReadFits p after past x (number_now p past.taken x)
fits_now p after past x le low = go (reads_only p.locks x.session)
  where
    go : (b : Bool) → MatchBool b (cond b (number_at x.session past.taken) p.before ≡ number_at x.session past.taken) (IsBetween p.before after x.session past.numbers (cond b (number_at x.session past.taken) p.before))
    go true = refl
    go false = record { low = omega arith; high = le; own = low_own p.before x.session past.numbers low }

pub fit_in_turn : (p : ScriptRound) (after : ℕ) (past : PastNumbers) (xs : List Step) → p.before ≤ after → Low p.before past.numbers → Low p.before past.taken → ReadsFit p after past xs (numbers_now p past.taken xs)
fit_in_turn p after past [] le low tak = refl
fit_in_turn p after past (x ∷ xs) le low tak =
    go (is_read x.kind) (fit_in_turn p after (noted past x.session (number_now p past.taken x)) xs le (low_now p past.taken x tak, low) tak) (fit_in_turn p after past xs le low tak)
  where
    go : (b : Bool) → ReadsFit p after (noted past x.session (number_now p past.taken x)) xs (numbers_now p past.taken xs) → ReadsFit p after past xs (numbers_now p past.taken xs)
        → MatchBool b ((n : ℕ) × (rest : List ℕ) × (cond b (number_now p past.taken x ∷ numbers_now p past.taken xs) (numbers_now p past.taken xs) ≡ n ∷ rest) × ReadFits p after past x n × ReadsFit p after (noted past x.session n) xs rest)
        (ReadsFit p after past xs (cond b (number_now p past.taken x ∷ numbers_now p past.taken xs) (numbers_now p past.taken xs)))
    go true with without = (number_now p past.taken x, numbers_now p past.taken xs, refl, fits_now p after past x le low, with)
    go false with without = without

low_reads : (p : ScriptRound) (past : PastNumbers) (xs : List Step) → Low p.before past.numbers → Low p.before past.taken → Low p.before (past_reads past xs (numbers_now p past.taken xs)).numbers
low_reads p past [] low tak = low
low_reads p past (x ∷ xs) low tak =
    go (is_read x.kind) (low_reads p (noted past x.session (number_now p past.taken x)) xs (low_now p past.taken x tak, low) tak) (low_reads p past xs low tak)
  where
    go : (b : Bool) → Low p.before (past_reads (noted past x.session (number_now p past.taken x)) xs (numbers_now p past.taken xs)).numbers → Low p.before (past_reads past xs (numbers_now p past.taken xs)).numbers
        → (let ns : List ℕ = cond b (number_now p past.taken x ∷ numbers_now p past.taken xs) (numbers_now p past.taken xs) in
        Low p.before (cond b (past_reads (noted past x.session (slice_index ns 0)) xs (drop 1 ns)) (past_reads past xs ns)).numbers)
    go true with without = with
    go false with without = without

pub low_changes : (d : Defs) (asked : Step → Option Change) (s : TableState) (n : ℕ) (xs : List Step) → Low (n + length (changes d asked s xs)) (own_numbers d asked s n xs)
low_changes d asked s n [] = tt
low_changes d asked s n (x ∷ xs) =
    let k = length (accepted_of d s (asked x)) in
    let total : n + length (changes d asked s (x ∷ xs)) ≡ n + k + length (changes d asked (stepped_by d s (asked x)) xs) = let l = length-append (accepted_of d s (asked x)) (changes d asked (stepped_by d s (asked x)) xs) in omega arith in
    let P : ℕ → Type 0 = λ q. Low q (own_numbers d asked s n (x ∷ xs)) in
    subst P (sym total) (low_join (n + k + length (changes d asked (stepped_by d s (asked x)) xs)) (map (λ c. (x.session, n + 1)) (accepted_of d s (asked x))) _ (own_low (n + k + length (changes d asked (stepped_by d s (asked x)) xs)) (accepted_of d s (asked x)) (omega arith)) (low_changes d asked (stepped_by d s (asked x)) (n + k) xs))
  where
    each : (m : ℕ) (ds : List Change) → n + 1 ≤ m → Low m (map (λ c. (x.session, n + 1)) ds)
    each m [] l = tt
    each m (c ∷ ds) l = (l, each m ds l)

    own_low : (m : ℕ) (cs : List Change) → n + length cs ≤ m → Low m (map (λ c. (x.session, n + 1)) cs)
    own_low m [] le = tt
    own_low m (c ∷ cs) le = (omega arith, each m cs (omega arith))

pub low_taken : (n k : ℕ) (round : Round) → n ≤ k → Low k (taken_by n round)
low_taken n k Finished le = tt
low_taken n k (Together i rs) le = tt
low_taken n k (Alone x) le = go (takes_read x.kind)
  where
    go : (b : Bool) → Low k (cond b ((x.session, n) ∷ []) [])
    go true = (le, tt)
    go false = tt

-- the numbers before a round are at most the changes before it
pub record AreLow (n : ℕ) (past : PastNumbers) : Type 0 where
  pub numbers : Low n past.numbers
  pub taken : Low n past.taken

-- the reads of the round have the numbers of a run on one thread
abbrev pub InTurn : ScriptRound → PastNumbers → Numbers → Type 0
InTurn p past ns = ns.reads ≡ numbers_now p past.taken (steps_of p.round)

pub reads_fit : (o : Opening) (p : ScriptRound) (past : PastNumbers) (ns : Numbers) → InTurn p past ns → AreLow p.before past → ReadsFit p (number_behind o p) past (steps_of p.round) ns.reads
reads_fit o p past ns same q =
    let P : List ℕ → Type 0 = λ k. ReadsFit p (number_behind o p) past (steps_of p.round) k in
    subst P (sym same) (fit_in_turn p (number_behind o p) past (steps_of p.round) (omega arith) q.numbers q.taken)

low_behind : (o : Opening) (p : ScriptRound) (past : PastNumbers) (ns : Numbers) → InTurn p past ns → AreLow p.before past → AreLow (number_behind o p) (past_behind o past p ns)
low_behind o p past ns same q =
    let P : List ℕ → Type 0 = λ k. Low p.before (past_reads past (steps_of p.round) k).numbers in
    record {
      numbers = low_join (number_behind o p) (own_in o p) _ (low_changes o.defs (asked_in o.script p) p.state p.before (steps_of p.round)) (low_more p.before (number_behind o p) _ (omega arith) (subst P (sym same) (low_reads p past (steps_of p.round) q.numbers q.taken)));
      taken = low_join (number_behind o p) (taken_by p.before p.round) past.taken (low_taken p.before (number_behind o p) p.round (omega arith)) (low_more p.before (number_behind o p) past.taken (omega arith) q.taken);
    }

abbrev pub reads_of : List Numbers → List (List ℕ)
reads_of c = map (λ (n : Numbers). n.reads) c

none_mapped : (c : List Numbers) → reads_of c ≡ [] → c ≡ []
none_mapped [] e = refl
none_mapped (ns ∷ c) e = cc

-- so it is with the later rounds, behind whatever fits before them
abbrev pub LaterFit : Opening → ℕ → List ScriptRound → Type 0
LaterFit o n ps = (past : PastNumbers) (c : List Numbers) → AreLow n past → reads_of c ≡ reads_of (in_turn past.taken ps) → StatsRise past.counters ps c → FitFrom o past ps c

first_fits : (o : Opening) (p : ScriptRound) (ps : List ScriptRound) (past : PastNumbers) (c : List Numbers) → AreLow p.before past → reads_of c ≡ reads_of (in_turn past.taken (p ∷ ps)) → StatsRise past.counters (p ∷ ps) c
    → LaterFit o (number_behind o p) ps → FitFrom o past (p ∷ ps) c
first_fits o p ps past [] q same rise later = cc
first_fits o p ps past (ns ∷ c) q same rise later =
    let here : InTurn p past ns = let e = same in cc in
    let rest : reads_of c ≡ reads_of (in_turn (taken_by p.before p.round ++ past.taken) ps) = let e = same in cc in
    ((reads_fit o p past ns here q, rise.0), later (past_behind o past p ns) c (low_behind o p past ns here q) rest rise.1)

within : (o : Opening) (fuel : ℕ) (r : LockState) (s : TableState) (n : ℕ) → LaterFit o n (rounds o fuel r s n)
within o zero r s n past c q same rise = none_mapped c same
within o (suc fuel) r s n past c q same rise =
    go (has_steps r) (within o fuel (advanced r (next_round r (has_hole o.script.takes s))) (state_behind o (round_from o.script.takes r s n)) (number_behind o (round_from o.script.takes r s n))) past c q same rise
  where
    go : (b : Bool) → LaterFit o (number_behind o (round_from o.script.takes r s n)) (later_rounds o fuel r s n) → LaterFit o n (cond b (round_from o.script.takes r s n ∷ later_rounds o fuel r s n) [])
    go true later past c q same rise = first_fits o (round_from o.script.takes r s n) (later_rounds o fuel r s n) past c q same rise later
    go false later past c q same rise = none_mapped c same

pub counted_fit : (o : Opening) (c : List Numbers) → HaveReadsInTurn o c → StatsRise none_counted (rounds_of o) c → AreWithin o c
unfolding rounds_of
counted_fit o c same rise = within o (steps_left (first_locks o).sessions) (first_locks o) o.base 0 nothing_past c (record { numbers = tt; taken = tt }) same rise

-- ---- where nothing is counted

zeros_rise : (taken : List SessionNumber) (ps : List ScriptRound) → StatsRise none_counted ps (in_turn taken ps)
zeros_rise taken [] = tt
zeros_rise taken (p ∷ ps) = (
  λ e. record { read_requests = omega arith; reads = omega arith; write_requests = omega arith; writes = omega arith; fewer = omega arith },
  (let P : Counters → Type 0 = λ k. StatsRise k ps (in_turn (taken_by p.before p.round ++ taken) ps) in
      subst P (sym (counts (is_stats (steps_of p.round)))) (zeros_rise (taken_by p.before p.round ++ taken) ps)),
)
  where
    counts : (b : Bool) → cond b none_counted none_counted ≡ none_counted
    counts true = refl
    counts false = refl

pub in_turn_fits : (o : Opening) → AreWithin o (in_turn [] (rounds_of o))
in_turn_fits o = counted_fit o (in_turn [] (rounds_of o)) refl (zeros_rise [] (rounds_of o))
