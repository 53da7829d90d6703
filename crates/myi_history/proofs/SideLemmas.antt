-- The numbers of runs that go side by side are within their bounds.
use Rattle.std.proofs.Common.{◌≡◌, ◌≢◌, ℕ, zero, suc, ◌+◌, ◌≤◌, ◌<◌, List, [], ◌∷◌, ◌++◌, length, Option, Some, None, Bool, true, false, cond, not, ◌||◌, refl, ap, sym, ◌∙◌, arith, subst, append_assoc}
use Rattle.std.specs.Prelude.{MatchBool, slice_index, drop}
use Rattle.std.specs.List.{AllByRecursion, flat_map}
use Rattle.myi_keycache.specs.declared.setup.Counters.{Counters}
use Rattle.myi_locks.specs.declared.steps.Run.{Run}
use Rattle.myi_locks.specs.declared.steps.Runs.{Runs}
use Rattle.myi_locks.specs.declared.steps.Step.{Step}
use Rattle.myi_locks.specs.declared.steps.StepKind.{StepKind}
use Rattle.myi_locks.specs.declared.steps.StepKind.TheVariants as kind
use Rattle.myi_locks.specs.declared.steps.Round.{Round}
use Rattle.myi_locks.specs.declared.steps.Round.TheVariants.{Together}
use Rattle.myi_locks.specs.Steps.{is_read, is_insert}
use Rattle.myi_locks.specs.Done.{run_steps, steps_of}
use Rattle.myi_locks.specs.Laws.{IsRunOf, IsInserter, AreRising, HasOwnRuns, ReadsOrInserts}
use Rattle.myi_locks.proofs.CallerLemmas.{own_runs, together_kinds}
use Rattle.myi_history.specs.Lines.{MayRun}
use Rattle.myi_history.specs.History.{Opening, ScriptRound, reads_only, number_behind, has_hole}
use Rattle.myi_history.specs.Text.{Numbers}
use Rattle.myi_history.specs.Bounds.{SessionNumber, PastNumbers, number_at, ReadFits, ReadsFit, IsBetween, noted, past_reads, is_stats, CountersRise}
use Rattle.myi_history.specs.SideBySide.{RisesFrom, RunFits, RunsFit}
use Rattle.myi_history.specs.Running.{taken_in, locks_after, table_after, next_after, past_after, HasRun, IsNext}
use Rattle.myi_history.proofs.NumberLemmas.{Low, AreLow, low_own}
use Rattle.myi_history.proofs.PastLemmas.{low_after, past_taken_after}
use Rattle.myi_history.proofs.SeenLemmas.{scripts_locks}

-- ---- steps one after the other

-- no number of that session is above this
abbrev pub OwnLow : ℕ → ℕ → List SessionNumber → Type 0
OwnLow low session ms = AllByRecursion (λ m. m.0 ≡ session → m.1 ≤ low) ms

abbrev pub AreReadsOf : ℕ → List Step → Type 0
AreReadsOf session xs = AllByRecursion (λ (x : Step). (is_read x.kind ≡ true) × (x.session ≡ session)) xs

fits_join : (p : ScriptRound) (behind : ℕ) (past : PastNumbers) (session : ℕ) (xs ys : List Step) (ns ms : List ℕ) → AreReadsOf session xs → ReadsFit p behind past xs ns → ReadsFit p behind (past_reads past xs ns) ys ms → ReadsFit p behind past (xs ++ ys) (ns ++ ms)
fits_join p behind past session [] ys ns ms are fits more = subst (λ k. ReadsFit p behind past ys (k ++ ms)) (sym fits) more
fits_join p behind past session (x ∷ xs) ys ns ms are fits more =
    go (is_read x.kind) are.0.0 (λ n rest. fits_join p behind (noted past x.session n) session xs ys rest ms are.1) fits more
  where
    go : (b : Bool) → b ≡ true
        → ((n : ℕ) (rest : List ℕ) → ReadsFit p behind (noted past x.session n) xs rest → ReadsFit p behind (past_reads (noted past x.session n) xs rest) ys ms → ReadsFit p behind (noted past x.session n) (xs ++ ys) (rest ++ ms))
        → MatchBool b ((n : ℕ) × (rest : List ℕ) × (ns ≡ n ∷ rest) × ReadFits p behind past x n × ReadsFit p behind (noted past x.session n) xs rest) (ReadsFit p behind past xs ns)
        → ReadsFit p behind (cond b (past_reads (noted past x.session (slice_index ns 0)) xs (drop 1 ns)) (past_reads past xs ns)) ys ms
        → MatchBool b ((n : ℕ) × (rest : List ℕ) × (ns ++ ms ≡ n ∷ rest) × ReadFits p behind past x n × ReadsFit p behind (noted past x.session n) (xs ++ ys) rest) (ReadsFit p behind past (xs ++ ys) (ns ++ ms))
    go true is ih h after =
        let n : ℕ = h.0 in
        let rest : List ℕ = h.1 in
        (n, rest ++ ms, ap (λ k. k ++ ms) h.2, h.3, ih n rest h.4 (subst (λ k. ReadsFit p behind (past_reads (noted past x.session (slice_index k 0)) xs (drop 1 k)) ys ms) h.2 after))
    go false is ih h after = cc

-- steps that read nothing have no numbers
no_reads : (p : ScriptRound) (behind : ℕ) (past : PastNumbers) (xs ys : List Step) (ns : List ℕ) → AllByRecursion (λ (x : Step). is_read x.kind ≡ false) xs → ReadsFit p behind past ys ns → ReadsFit p behind past (xs ++ ys) ns
no_reads p behind past [] ys ns none fits = fits
no_reads p behind past (x ∷ xs) ys ns none fits = rw none.0 (no_reads p behind past xs ys ns none.1 fits)

-- ---- one run

-- what is noted of another session leaves a session's numbers
own_after : (low session other : ℕ) (past : PastNumbers) (xs : List Step) (ns : List ℕ) → other ≢ session → AreReadsOf other xs → OwnLow low session past.numbers → OwnLow low session (past_reads past xs ns).numbers
own_after low session other past [] ns differs are own = own
own_after low session other past (x ∷ xs) ns differs are own =
    rw are.0.0 (own_after low session other (noted past x.session (slice_index ns 0)) xs (drop 1 ns) differs are.1 (λ e. absurd (differs (sym are.0.1 ∙ e)), own))

-- the Takes stay
taken_stays : (past : PastNumbers) (xs : List Step) (ns : List ℕ) (session : ℕ) → AreReadsOf session xs → (past_reads past xs ns).taken ≡ past.taken
taken_stays past [] ns session are = refl
taken_stays past (x ∷ xs) ns session are = rw are.0.0 (taken_stays (noted past x.session (slice_index ns 0)) xs (drop 1 ns) session are.1)

-- a session that holds READ or READ LOCAL
fits_locked : (p : ScriptRound) (behind : ℕ) (past : PastNumbers) (session : ℕ) (xs : List Step) (ns : List ℕ) → reads_only p.locks session ≡ true → AreReadsOf session xs → length ns ≡ length xs → AllByRecursion (λ n. n ≡ number_at session past.taken) ns → ReadsFit p behind past xs ns
fits_locked p behind past session [] [] locked are each same = refl
fits_locked p behind past session [] (n ∷ ns) locked are each same = absurd (omega (arith, each))
fits_locked p behind past session (x ∷ xs) [] locked are each same = absurd (omega (arith, each))
fits_locked p behind past session (x ∷ xs) (n ∷ ns) locked are each same =
    let here : ReadFits p behind past x n = subst (λ s. MatchBool (reads_only p.locks s) (n ≡ number_at s past.taken) (IsBetween p.before behind s past.numbers n)) (sym are.0.1) (rw locked same.0) in
    rw are.0.0 (n, ns, refl, here, fits_locked p behind (noted past x.session n) session xs ns locked are.1 (omega (arith, each)) same.1)

-- one that holds none
fits_free : (p : ScriptRound) (behind : ℕ) (past : PastNumbers) (session low : ℕ) (xs : List Step) (ns : List ℕ) → reads_only p.locks session ≡ false → AreReadsOf session xs → length ns ≡ length xs → p.before ≤ low → OwnLow low session past.numbers
    → RisesFrom low ns → AllByRecursion (λ n. n ≤ behind) ns → ReadsFit p behind past xs ns
fits_free p behind past session low [] [] free are each le own rises high = refl
fits_free p behind past session low [] (n ∷ ns) free are each le own rises high = absurd (omega (arith, each))
fits_free p behind past session low (x ∷ xs) [] free are each le own rises high = absurd (omega (arith, each))
fits_free p behind past session low (x ∷ xs) (n ∷ ns) free are each le own rises high =
    let up : low ≤ n = rises.0 in
    let here : ReadFits p behind past x n =
    subst (λ s. MatchBool (reads_only p.locks s) (n ≡ number_at s past.taken) (IsBetween p.before behind s past.numbers n)) (sym are.0.1) (rw free (record { low = omega (arith, le, up); high = high.0; own = own_up low n session past.numbers up own })) in
    rw are.0.0 (n, ns, refl, here, fits_free p behind (noted past x.session n) session n xs ns free are.1 (omega (arith, each)) (omega (arith, le, up)) (λ e. omega arith, own_up low n session past.numbers up own) rises.1 high.1)
  where
    own_up : (l k s : ℕ) (ms : List SessionNumber) → l ≤ k → OwnLow l s ms → OwnLow k s ms
    own_up l k s [] more h = tt
    own_up l k s (m ∷ ms) more h = (λ e. (let a : m.1 ≤ l = h.0 e in omega (arith, a, more)), own_up l k s ms more h.1)

fits_run : (p : ScriptRound) (behind : ℕ) (past : PastNumbers) (run : Run) (ns : List ℕ) → IsRunOf is_read run → OwnLow p.before run.session past.numbers → RunFits p behind past.taken run ns → ReadsFit p behind past run.steps ns
fits_run p behind past run ns are own fits = go (reads_only p.locks run.session) refl fits.bounds
  where
    go : (b : Bool) → reads_only p.locks run.session ≡ b → MatchBool b (AllByRecursion (λ n. n ≡ number_at run.session past.taken) ns) (RisesFrom p.before ns × AllByRecursion (λ n. n ≤ behind) ns) → ReadsFit p behind past run.steps ns
    go true is same = fits_locked p behind past run.session run.steps ns is are fits.each same
    go false is rises = fits_free p behind past run.session p.before run.steps ns is are fits.each (omega arith) own rises.0 rises.1

-- ---- runs one after the other

abbrev pub EachLow : ℕ → List SessionNumber → List Run → Type 0
EachLow low ms runs = AllByRecursion (λ (run : Run). OwnLow low run.session ms) runs

each_after : (low : ℕ) (past : PastNumbers) (run : Run) (ns : List ℕ) (runs : List Run) → IsRunOf is_read run → AllByRecursion (λ (q : Run). run.session < q.session) runs → EachLow low past.numbers runs → EachLow low (past_reads past run.steps ns).numbers runs
each_after low past run ns [] are above each = tt
each_after low past run ns (q ∷ runs) are above each =
    let less : run.session < q.session = above.0 in
    (own_after low q.session run.session past run.steps ns (λ e. (let k : run.session ≡ q.session = e in absurd (omega (arith, less, k)))) are each.0, each_after low past run ns runs are above.1 each.1)

fits_runs : (p : ScriptRound) (behind : ℕ) (past : PastNumbers) (taken : List SessionNumber) (runs : List Run) (ns : List ℕ) → past.taken ≡ taken → AllByRecursion (IsRunOf is_read) runs → AreRising runs → EachLow p.before past.numbers runs → RunsFit p behind taken runs ns
    → ReadsFit p behind past (flat_map (λ (run : Run). run.steps) runs) ns
fits_runs p behind past taken [] ns same are rising low fits = fits
fits_runs p behind past taken (run ∷ runs) ns same are rising low fits =
    let own : List ℕ = fits.0 in
    let rest : List ℕ = fits.1 in
    let here : ReadsFit p behind past run.steps own = fits_run p behind past run own are.0 low.0 (subst (λ t. RunFits p behind t run own) (sym same) fits.3) in
    let next : PastNumbers = past_reads past run.steps own in
    let more : ReadsFit p behind next (flat_map (λ (q : Run). q.steps) runs) rest =
    fits_runs p behind next taken runs rest (taken_stays past run.steps own run.session are.0 ∙ same) are.1 rising.1 (each_after p.before past run own runs are.0 rising.0 low.1) fits.4 in
    subst (λ k. ReadsFit p behind past (run.steps ++ flat_map (λ (q : Run). q.steps) runs) k) (sym fits.2)
    (fits_join p behind past run.session run.steps (flat_map (λ (q : Run). q.steps) runs) own rest are.0 here more)

each_low : (low : ℕ) (ms : List SessionNumber) (runs : List Run) → Low low ms → EachLow low ms runs
each_low low ms [] h = tt
each_low low ms (run ∷ runs) h = (low_own low run.session ms h, each_low low ms runs h)

-- ---- a round

insert_reads_none : (k : StepKind) → is_insert k ≡ true → is_read k ≡ false
insert_reads_none kind.Rows e = cc
insert_reads_none kind.Release e = refl
insert_reads_none (kind.Take q) e = refl
insert_reads_none kind.Insert e = refl
insert_reads_none kind.Change e = refl
insert_reads_none kind.Unlock e = refl
insert_reads_none kind.Stats e = refl
insert_reads_none kind.End e = refl

inserts_read_none : (session : ℕ) (xs : List Step) → AllByRecursion (λ (x : Step). (is_insert x.kind ≡ true) × (x.session ≡ session)) xs → AllByRecursion (λ (x : Step). is_read x.kind ≡ false) xs
inserts_read_none session [] are = tt
inserts_read_none session (x ∷ xs) are = (insert_reads_none x.kind are.0.0, inserts_read_none session xs are.1)

inserter_reads_none : (inserter : Option Run) → IsInserter inserter → AllByRecursion (λ (x : Step). is_read x.kind ≡ false) (run_steps inserter)
inserter_reads_none None are = tt
inserter_reads_none (Some run) are = inserts_read_none run.session run.steps are

-- no step of such a round is a `stats`
not_stats : (k : StepKind) → is_read k || is_insert k ≡ true → is_stats (record { session = 0; line = 0; kind = k } ∷ []) ≡ false
not_stats kind.Rows e = refl
not_stats kind.Release e = cc
not_stats (kind.Take q) e = cc
not_stats kind.Insert e = refl
not_stats kind.Change e = cc
not_stats kind.Unlock e = cc
not_stats kind.Stats e = cc
not_stats kind.End e = cc

none_stats : (xs : List Step) → AllByRecursion (λ (x : Step). is_read x.kind || is_insert x.kind ≡ true) xs → is_stats xs ≡ false
none_stats [] h = refl
none_stats (x ∷ []) h = not_stats x.kind h.0
none_stats (x ∷ y ∷ xs) h = refl

-- a round of kind Together goes on with any such numbers
pub side_by_side : (o : Opening) (front : List ScriptRound) (c : List Numbers) (ns : Numbers) (inserter : Option Run) (readers : Runs) → MayRun o.defs o.script.lines → HasRun o front c → (next_after o front).round ≡ Together inserter readers
    → RunsFit (next_after o front) (number_behind o (next_after o front)) (taken_in front) readers.runs ns.reads → IsNext o front c ns
side_by_side o front c ns inserter readers may has is fits =
    let p = next_after o front in
    let r = locks_after o front in
    let hole = has_hole o.script.takes (table_after o front) in
    let past = past_after o front c in
    let locks = scripts_locks o may front has.first.0 has.first.1 in
    let runs : HasOwnRuns (Together inserter readers) = subst HasOwnRuns is (own_runs r hole locks.lawful) in
    let kinds : ReadsOrInserts (Together inserter readers) = subst ReadsOrInserts is (together_kinds r hole locks.lawful) in
    let low = low_after o front c has in
    let reads : ReadsFit p (number_behind o p) past (steps_of (Together inserter readers)) ns.reads =
    no_reads p (number_behind o p) past (run_steps inserter) (flat_map (λ (run : Run). run.steps) readers.runs) ns.reads (inserter_reads_none inserter runs.0)
    (fits_runs p (number_behind o p) past (taken_in front) readers.runs ns.reads (past_taken_after o front c) runs.1 runs.2 (each_low p.before past.numbers readers.runs low.numbers) fits) in
    let none : is_stats (steps_of p.round) ≡ false = ap (λ (q : Round). is_stats (steps_of q)) is ∙ none_stats (steps_of (Together inserter readers)) (kinds refl) in
    (subst (λ (q : Round). ReadsFit p (number_behind o p) past (steps_of q) ns.reads) (sym is) reads, λ stats. (let k : true ≡ false = sym stats ∙ none in cc))
