-- Where a round accepts no change, or reads nothing, the numbers of its reads are forced.
use Rattle.std.proofs.Common.{◌≡◌, ℕ, zero, suc, ◌≤◌, List, [], ◌∷◌, ◌++◌, map, length, Bool, true, false, cond, refl, ap, sym, ◌∙◌, arith, inl, inr, subst, drop}
use Rattle.std.specs.Prelude.{MatchBool, slice_index}
use Rattle.std.specs.List.{AllByRecursion}
use Rattle.myi_keycache.specs.declared.setup.Counters.{Counters}
use Rattle.myi_defs.specs.declared.types.Defs.{Defs}
use Rattle.myi_state.specs.State.{TableState}
use Rattle.myi_locks.specs.declared.steps.Step.{Step}
use Rattle.myi_locks.specs.declared.steps.StepKind.{StepKind}
use Rattle.myi_locks.specs.declared.steps.StepKind.TheVariants as kind
use Rattle.myi_locks.specs.Steps.{is_read, writes_rows}
use Rattle.myi_locks.specs.Rounds.{LockState, next_round, has_steps}
use Rattle.myi_locks.specs.Done.{steps_of, advanced, is_together}
use Rattle.myi_locks.specs.Laws.{steps_left}
use Rattle.myi_locks.proofs.CallerLemmas.{one_kind, still_one}
use Rattle.myi_history.specs.History.{Statements, Opening, ScriptRound, asks, reads_only, changes, round_from, state_behind, number_behind, rounds, first_locks, rounds_of, has_hole}
use Rattle.myi_history.specs.Text.{Numbers}
use Rattle.myi_history.specs.Bounds.{SessionNumber, PastNumbers, number_at, ReadFits, ReadsFit, IsBetween, noted, past_reads, own_in, RoundFits, past_behind, FitFrom, AreWithin, nothing_past}
use Rattle.myi_history.specs.OneThread.{IsForced}
use Rattle.myi_history.proofs.ReplayLemmas.{later_rounds}

one_number : (p : ScriptRound) (after : ℕ) (past : PastNumbers) (x : Step) (n m : ℕ) → after ≡ p.before → ReadFits p after past x n → ReadFits p after past x m → n ≡ m
one_number p after past x n m e = go (reads_only p.locks x.session)
  where
    go : (b : Bool) → MatchBool b (n ≡ number_at x.session past.taken) (IsBetween p.before after x.session past.numbers n) → MatchBool b (m ≡ number_at x.session past.taken) (IsBetween p.before after x.session past.numbers m) → n ≡ m
    go true f g = f ∙ sym g
    go false f g = let a = f.low in let b = f.high in let c = g.low in let d = g.high in omega arith

abbrev pub OneFits : ScriptRound → ℕ → PastNumbers → Step → List Step → List ℕ → Type 0
OneFits p after past x xs ns = (n : ℕ) × (rest : List ℕ) × (ns ≡ n ∷ rest) × ReadFits p after past x n × ReadsFit p after (noted past x.session n) xs rest

-- the counters do not matter to reads
abbrev pub past_of : List SessionNumber → List SessionNumber → Counters → PastNumbers
past_of a b c = record { numbers = a; taken = b; counters = c }

other_counters : (p : ScriptRound) (after : ℕ) (a b : List SessionNumber) (c d : Counters) (xs : List Step) (ns : List ℕ) → ReadsFit p after (past_of a b c) xs ns → ReadsFit p after (past_of a b d) xs ns
other_counters p after a b c d [] ns f = f
other_counters p after a b c d (x ∷ xs) ns f = go (is_read x.kind) f (λ n rest g. other_counters p after ((x.session, n) ∷ a) b c d xs rest g) (λ g. other_counters p after a b c d xs ns g)
  where
    go : (t : Bool) → MatchBool t (OneFits p after (past_of a b c) x xs ns) (ReadsFit p after (past_of a b c) xs ns)
        → ((n : ℕ) (rest : List ℕ) → ReadsFit p after (past_of ((x.session, n) ∷ a) b c) xs rest → ReadsFit p after (past_of ((x.session, n) ∷ a) b d) xs rest)
        → (ReadsFit p after (past_of a b c) xs ns → ReadsFit p after (past_of a b d) xs ns)
        → MatchBool t (OneFits p after (past_of a b d) x xs ns) (ReadsFit p after (past_of a b d) xs ns)
    go true h ih quiet = (h.0, h.1, h.2, h.3, ih h.0 h.1 h.4)
    go false h ih quiet = quiet h

same_numbers : (a b : List SessionNumber) (c d : Counters) (xs : List Step) (ns : List ℕ) → (past_reads (past_of a b c) xs ns).numbers ≡ (past_reads (past_of a b d) xs ns).numbers
same_numbers a b c d [] ns = refl
same_numbers a b c d (x ∷ xs) ns = go (is_read x.kind) (same_numbers ((x.session, slice_index ns 0) ∷ a) b c d xs (drop 1 ns)) (same_numbers a b c d xs ns)
  where
    go : (t : Bool) → (past_reads (past_of ((x.session, slice_index ns 0) ∷ a) b c) xs (drop 1 ns)).numbers ≡ (past_reads (past_of ((x.session, slice_index ns 0) ∷ a) b d) xs (drop 1 ns)).numbers
        → (past_reads (past_of a b c) xs ns).numbers ≡ (past_reads (past_of a b d) xs ns).numbers
        → (cond t (past_reads (noted (past_of a b c) x.session (slice_index ns 0)) xs (drop 1 ns)) (past_reads (past_of a b c) xs ns)).numbers
        ≡ (cond t (past_reads (noted (past_of a b d) x.session (slice_index ns 0)) xs (drop 1 ns)) (past_reads (past_of a b d) xs ns)).numbers
    go true e f = e
    go false e f = f

same_reads : (p : ScriptRound) (after : ℕ) (past : PastNumbers) (xs : List Step) (ns ms : List ℕ) → after ≡ p.before → ReadsFit p after past xs ns → ReadsFit p after past xs ms → ns ≡ ms
same_reads p after past [] ns ms e f g = f ∙ sym g
same_reads p after past (x ∷ xs) ns ms e f g = go (is_read x.kind) f g (λ s us vs h k. same_reads p after s xs us vs e h k)
  where
    go : (b : Bool) → MatchBool b (OneFits p after past x xs ns) (ReadsFit p after past xs ns) → MatchBool b (OneFits p after past x xs ms) (ReadsFit p after past xs ms)
        → ((s : PastNumbers) (us vs : List ℕ) → ReadsFit p after s xs us → ReadsFit p after s xs vs → us ≡ vs) → ns ≡ ms
    go false h k ih = ih past ns ms h k
    go true h k ih =
        let same : h.0 ≡ k.0 = one_number p after past x h.0 k.0 e h.3 k.3 in
        let P : ℕ → Type 0 = λ q. ReadsFit p after (noted past x.session q) xs k.1 in
        let rest : h.1 ≡ k.1 = ih (noted past x.session h.0) h.1 k.1 h.4 (subst P (sym same) k.4) in
        h.2 ∙ ap (λ q. q ∷ h.1) same ∙ ap (λ q. k.0 ∷ q) rest ∙ sym k.2

no_reads : (p : ScriptRound) (after : ℕ) (past : PastNumbers) (xs : List Step) (ns : List ℕ) → AllByRecursion (λ (x : Step). is_read x.kind ≡ false) xs → ReadsFit p after past xs ns → ns ≡ []
no_reads p after past [] ns e f = f
no_reads p after past (x ∷ xs) ns e f =
    let P : Bool → Type 0 = λ b. MatchBool b (OneFits p after past x xs ns) (ReadsFit p after past xs ns) in
    no_reads p after past xs ns e.1 (subst P e.0 f)

same_round : (o : Opening) (p : ScriptRound) (past : PastNumbers) (ns ms : List ℕ) → IsForced o p → ReadsFit p (number_behind o p) past (steps_of p.round) ns → ReadsFit p (number_behind o p) past (steps_of p.round) ms → ns ≡ ms
same_round o p past ns ms forced f g = elim forced [
  | inl none ↦ same_reads p (number_behind o p) past (steps_of p.round) ns ms (let n = ap length none in omega arith) f g
  | inr quiet ↦ no_reads p (number_behind o p) past (steps_of p.round) ns quiet f ∙ sym (no_reads p (number_behind o p) past (steps_of p.round) ms quiet g)
]

pub forced_once : (o : Opening) (past : PastNumbers) (p : ScriptRound) (c e : Numbers) → IsForced o p → RoundFits o past p c → RoundFits o past p e → c.reads ≡ e.reads
forced_once o past p c e forced f g = same_round o p past c.reads e.reads forced f.0 g.0

pub forced : (o : Opening) (ps : List ScriptRound) (past : PastNumbers) (k : Counters) (c d : List Numbers) → AllByRecursion (IsForced o) ps → FitFrom o past ps c → FitFrom o (past_of past.numbers past.taken k) ps d → map (λ (n : Numbers). n.reads) c ≡ map (λ (n : Numbers). n.reads) d
forced o [] past k c d h f g = ap (map (λ (n : Numbers). n.reads)) (f ∙ sym g)
forced o (p ∷ ps) past k [] d h f g = absurd f
forced o (p ∷ ps) past k (n ∷ c) [] h f g = absurd g
forced o (p ∷ ps) past k (n ∷ c) (m ∷ d) h f g =
    let same = same_round o p past n.reads m.reads h.0 f.0.0 (other_counters p (number_behind o p) past.numbers past.taken k past.counters (steps_of p.round) m.reads g.0.0) in
    let after : PastNumbers = past_behind o (past_of past.numbers past.taken k) p m in
    let numbers : after.numbers ≡ (past_behind o past p n).numbers =
    ap (λ q. own_in o p ++ q)
    (same_numbers past.numbers past.taken k past.counters (steps_of p.round) m.reads ∙ ap (λ q. (past_reads past (steps_of p.round) q).numbers) (sym same)) in
    let P : List SessionNumber → Type 0 = λ q. FitFrom o (past_of q after.taken after.counters) ps d in
    let rest = forced o ps (past_behind o past p n) after.counters c d h.1 f.1 (subst P numbers g.1) in
    ap (λ q. q ∷ map (λ (n : Numbers). n.reads) c) same ∙ ap (λ q. m.reads ∷ q) rest

-- reads ask nothing of the table
read_no_write : (k : StepKind) → is_read k ≡ true → writes_rows k ≡ false
read_no_write kind.Rows e = refl
read_no_write kind.Release e = refl
read_no_write (kind.Take q) e = refl
read_no_write kind.Insert e = cc
read_no_write kind.Change e = cc
read_no_write kind.Unlock e = refl
read_no_write kind.Stats e = refl
read_no_write kind.End e = refl

reads_change_nothing : (d : Defs) (ls : Statements) (r : LockState) (together : Bool) (s : TableState) (xs : List Step) → AllByRecursion (λ (x : Step). is_read x.kind ≡ true) xs → changes d (asks ls r together) s xs ≡ []
reads_change_nothing d ls r together s [] h = refl
reads_change_nothing d ls r together s (x ∷ xs) h = rw (read_no_write x.kind h.0) (reads_change_nothing d ls r together s xs h.1)

forced_round : (o : Opening) (r : LockState) (s : TableState) (n : ℕ) → length r.sessions ≤ 1 → IsForced o (round_from o.script.takes r s n)
forced_round o r s n few = elim (one_kind r (has_hole o.script.takes s) few) [
  | inl reads ↦ inl (reads_change_nothing o.defs o.script r (is_together (next_round r (has_hole o.script.takes s))) s (steps_of (next_round r (has_hole o.script.takes s))) reads)
  | inr none ↦ inr none
]

all_forced : (o : Opening) (fuel : ℕ) (r : LockState) (s : TableState) (n : ℕ) → length r.sessions ≤ 1 → AllByRecursion (IsForced o) (rounds o fuel r s n)
all_forced o zero r s n few = tt
all_forced o (suc fuel) r s n few =
    go (has_steps r) (all_forced o fuel (advanced r (next_round r (has_hole o.script.takes s))) (state_behind o (round_from o.script.takes r s n)) (number_behind o (round_from o.script.takes r s n)) (let l = still_one r (next_round r (has_hole o.script.takes s)) in omega arith))
  where
    go : (b : Bool) → AllByRecursion (IsForced o) (later_rounds o fuel r s n) → AllByRecursion (IsForced o) (cond b (round_from o.script.takes r s n ∷ later_rounds o fuel r s n) [])
    go true h = (forced_round o r s n few, h)
    go false h = tt

-- with one session each number is forced
pub one_session : (o : Opening) (c e : List Numbers) → length (first_locks o).sessions ≤ 1 → AreWithin o c → AreWithin o e → map (λ (n : Numbers). n.reads) c ≡ map (λ (n : Numbers). n.reads) e
unfolding rounds_of
one_session o c e few f g =
    forced o (rounds o (steps_left (first_locks o).sessions) (first_locks o) o.base 0) nothing_past nothing_past.counters c e (all_forced o (steps_left (first_locks o).sessions) (first_locks o) o.base 0 few) f g
