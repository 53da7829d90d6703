-- What is past behind rounds whose numbers are within their bounds: no number is above the changes that were accepted so far. So the
-- numbers of a round that one thread does fit behind whatever numbers came before.
use Rattle.std.proofs.Common.{◌≡◌, ℕ, ◌+◌, ◌≤◌, List, [], ◌∷◌, ◌++◌, fold, length, Bool, true, false, cond, refl, ap, sym, ◌∙◌, arith, subst, length-append, append_assoc, append-nil}
use Rattle.std.specs.Prelude.{MatchBool, slice_index, drop}
use Rattle.std.proofs.lemmas.Grind.{flat_map-append}
use Rattle.myi_keycache.specs.declared.setup.Counters.{Counters}
use Rattle.myi_locks.specs.declared.steps.Step.{Step}
use Rattle.myi_locks.specs.Steps.{is_read}
use Rattle.myi_locks.specs.Done.{steps_of}
use Rattle.myi_history.specs.History.{Opening, ScriptRound, asked_in, reads_only, changes_in, number_behind, rounds_of, history_in}
use Rattle.myi_history.specs.Text.{Numbers, no_numbers}
use Rattle.myi_history.specs.Bounds.{SessionNumber, PastNumbers, nothing_past, number_at, ReadFits, ReadsFit, IsBetween, noted, past_reads, own_in, taken_by, is_stats, CountersRise, RoundFits, past_behind, FitFrom}
use Rattle.myi_history.specs.OneThread.{numbers_now, round_numbers, in_turn, counted_by}
use Rattle.myi_history.specs.Running.{taken_in, counted_in, number_after, next_after, past_from, past_after, HasRun, IsNext, IsNextInTurn}
use Rattle.myi_history.proofs.ReplayLemmas.{follows_history}
use Rattle.myi_history.proofs.NumberLemmas.{none_counted, Low, AreLow, low_more, low_join, low_at, low_changes, low_taken, reads_fit}

-- ---- what a round leaves

-- a read's number is at most the changes behind its round
low_read : (p : ScriptRound) (behind : ℕ) (past : PastNumbers) (x : Step) (n : ℕ) → Low behind past.taken → ReadFits p behind past x n → n ≤ behind
low_read p behind past x n tak fits = go (reads_only p.locks x.session) fits
  where
    go : (b : Bool) → MatchBool b (n ≡ number_at x.session past.taken) (IsBetween p.before behind x.session past.numbers n) → n ≤ behind
    go true same = let l = low_at behind x.session past.taken tak in omega (arith, l, same)
    go false between = between.high

low_fit : (p : ScriptRound) (behind : ℕ) (past : PastNumbers) (xs : List Step) (ns : List ℕ) → Low behind past.numbers → Low behind past.taken → ReadsFit p behind past xs ns → Low behind (past_reads past xs ns).numbers
low_fit p behind past [] ns low tak fits = low
low_fit p behind past (x ∷ xs) ns low tak fits =
    go (is_read x.kind) (λ n rest. low_fit p behind (noted past x.session n) xs rest) (low_fit p behind past xs ns low tak) fits
  where
    go : (b : Bool) → ((n : ℕ) (rest : List ℕ) → Low behind ((x.session, n) ∷ past.numbers) → Low behind past.taken → ReadsFit p behind (noted past x.session n) xs rest → Low behind (past_reads (noted past x.session n) xs rest).numbers)
        → (ReadsFit p behind past xs ns → Low behind (past_reads past xs ns).numbers)
        → MatchBool b ((n : ℕ) × (rest : List ℕ) × (ns ≡ n ∷ rest) × ReadFits p behind past x n × ReadsFit p behind (noted past x.session n) xs rest) (ReadsFit p behind past xs ns)
        → Low behind (cond b (past_reads (noted past x.session (slice_index ns 0)) xs (drop 1 ns)) (past_reads past xs ns)).numbers
    go true with without h =
        let n : ℕ = h.0 in
        let rest : List ℕ = h.1 in
        let le : n ≤ behind = low_read p behind past x n tak h.3 in
        subst (λ ms. Low behind (past_reads (noted past x.session (slice_index ms 0)) xs (drop 1 ms)).numbers) (sym h.2) (with n rest (le, low) tak h.4)
    go false with without h = without h

low_round : (o : Opening) (p : ScriptRound) (past : PastNumbers) (ns : Numbers) → RoundFits o past p ns → AreLow p.before past → AreLow (number_behind o p) (past_behind o past p ns)
low_round o p past ns fits low =
    let behind = number_behind o p in
    let numbers = low_more p.before behind past.numbers (omega arith) low.numbers in
    let taken = low_more p.before behind past.taken (omega arith) low.taken in
    record {
      numbers = low_join behind (own_in o p) _ (low_changes o.defs (asked_in o.script p) p.state p.before (steps_of p.round)) (low_fit p behind past (steps_of p.round) ns.reads numbers taken fits.0);
      taken = low_join behind (taken_by p.before p.round) past.taken (low_taken p.before behind p.round (omega arith)) taken;
    }

-- ---- rounds one behind the other

pub as_many_fit : (o : Opening) (past : PastNumbers) (ps : List ScriptRound) (c : List Numbers) → FitFrom o past ps c → length c ≡ length ps
as_many_fit o past [] c fits = ap length fits
as_many_fit o past (p ∷ ps) [] fits = absurd fits
as_many_fit o past (p ∷ ps) (ns ∷ c) fits = let h = as_many_fit o (past_behind o past p ns) ps c fits.1 in omega (arith, h)

pub fit_join : (o : Opening) (past : PastNumbers) (front back : List ScriptRound) (c e : List Numbers) → FitFrom o past front c → FitFrom o (past_from o past front c) back e → FitFrom o past (front ++ back) (c ++ e)
fit_join o past [] back c e fits more = subst (λ k. FitFrom o past back (k ++ e)) (sym fits) more
fit_join o past (p ∷ front) back [] e fits more = absurd fits
fit_join o past (p ∷ front) back (ns ∷ c) e fits more = (fits.0, fit_join o (past_behind o past p ns) front back c e fits.1 more)

number_more : (o : Opening) (front : List ScriptRound) (p : ScriptRound) → p.before ≡ number_after o front → number_after o (front ++ p ∷ []) ≡ number_behind o p
number_more o front p same =
    ap length (flat_map-append (changes_in o) front (p ∷ []) ∙ ap (λ cs. history_in o front ++ cs) (append-nil (changes_in o p)))
    ∙ length-append (history_in o front) (changes_in o p) ∙ ap (λ n. n + length (changes_in o p)) (sym same)

-- behind the rounds that are done no number is above the changes that were accepted
low_past : (o : Opening) (done rest back : List ScriptRound) (past : PastNumbers) (c : List Numbers) → rounds_of o ≡ done ++ (rest ++ back) → AreLow (number_after o done) past → FitFrom o past rest c → AreLow (number_after o (done ++ rest)) (past_from o past rest c)
low_past o done [] back past c e low fits = subst (λ ps. AreLow (number_after o ps) past) (sym (append-nil done)) low
low_past o done (p ∷ rest) back past [] e low fits = absurd fits
low_past o done (p ∷ rest) back past (ns ∷ c) e low fits =
    let follows = follows_history o done (rest ++ back) p e in
    let here : AreLow p.before past = subst (λ n. AreLow n past) (sym follows.before) low in
    let behind : AreLow (number_after o (done ++ p ∷ [])) (past_behind o past p ns) =
    subst (λ n. AreLow n (past_behind o past p ns)) (sym (number_more o done p follows.before)) (low_round o p past ns fits.0 here) in
    subst (λ ps. AreLow (number_after o ps) (past_from o past (p ∷ rest) (ns ∷ c))) (append_assoc done (p ∷ []) rest)
    (low_past o (done ++ p ∷ []) rest back (past_behind o past p ns) c (e ∙ sym (append_assoc done (p ∷ []) (rest ++ back))) behind fits.1)

pub low_after : (o : Opening) (front : List ScriptRound) (c : List Numbers) → HasRun o front c → AreLow (number_after o front) (past_after o front c)
low_after o front c has = low_past o [] front has.first.0 nothing_past c has.first.1 (record { numbers = tt; taken = tt }) has.within

past_taken : (o : Opening) (past : PastNumbers) (ps : List ScriptRound) (c : List Numbers) → (past_from o past ps c).taken ≡ fold (λ (taken : List SessionNumber) (p : ScriptRound). taken_by p.before p.round ++ taken) past.taken ps
past_taken o past [] c = refl
past_taken o past (p ∷ ps) [] = past_taken o (past_behind o past p no_numbers) ps []
past_taken o past (p ∷ ps) (ns ∷ c) = past_taken o (past_behind o past p ns) ps c

past_counted : (o : Opening) (past : PastNumbers) (ps : List ScriptRound) (c : List Numbers) → (past_from o past ps c).counters ≡ counted_in past.counters ps c
past_counted o past [] c = refl
past_counted o past (p ∷ ps) [] = past_counted o (past_behind o past p no_numbers) ps []
past_counted o past (p ∷ ps) (ns ∷ c) = past_counted o (past_behind o past p ns) ps c

pub past_taken_after : (o : Opening) (front : List ScriptRound) (c : List Numbers) → (past_after o front c).taken ≡ taken_in front
past_taken_after o front c = past_taken o nothing_past front c

-- ---- a round that one thread does

pub next_in_turn : (o : Opening) (front : List ScriptRound) (c : List Numbers) (ns : Numbers) → HasRun o front c → IsNextInTurn o front c ns → IsNext o front c ns
next_in_turn o front c ns has next =
    let p = next_after o front in
    let past = past_after o front c in
    let taken = past_taken_after o front c in
    let counters : past.counters ≡ counted_in none_counted front c = past_counted o nothing_past front c in (
      reads_fit o p past ns (next.reads ∙ ap (λ t. numbers_now p t (steps_of p.round)) (sym taken)) (low_after o front c has),
      λ stats. subst (λ k. CountersRise k ns.counters) (sym counters) (next.counted stats),
    )

-- ---- rounds that are still to come

-- no count of reads is above that of the pages that were asked for
fewer_from : (o : Opening) (past : PastNumbers) (ps : List ScriptRound) (c : List Numbers) → past.counters.reads ≤ past.counters.read_requests → FitFrom o past ps c → (past_from o past ps c).counters.reads ≤ (past_from o past ps c).counters.read_requests
fewer_from o past [] c fewer fits = fewer
fewer_from o past (p ∷ ps) [] fewer fits = absurd fits
fewer_from o past (p ∷ ps) (ns ∷ c) fewer fits = fewer_from o (past_behind o past p ns) ps c (go (is_stats (steps_of p.round)) refl) fits.1
  where
    go : (b : Bool) → is_stats (steps_of p.round) ≡ b → (cond b ns.counters past.counters).reads ≤ (cond b ns.counters past.counters).read_requests
    go true is = (fits.0.1 is).fewer
    go false is = fewer

pub fewer_after : (o : Opening) (front : List ScriptRound) (c : List Numbers) → HasRun o front c → (past_after o front c).counters.reads ≤ (past_after o front c).counters.read_requests
fewer_after o front c has = fewer_from o nothing_past front c (omega arith) has.within

-- the numbers of rounds on one thread, where each `stats` counts as much as the last one
pub rest_of : Counters → List SessionNumber → List ScriptRound → List Numbers
rest_of k taken [] = []
rest_of k taken (p ∷ ps) = round_numbers p taken k ∷ rest_of k (taken_by p.before p.round ++ taken) ps

pub rest_fits : (o : Opening) (done back : List ScriptRound) (past : PastNumbers) → rounds_of o ≡ done ++ back → AreLow (number_after o done) past → past.counters.reads ≤ past.counters.read_requests → FitFrom o past back (rest_of past.counters past.taken back)
unfolding rest_of
rest_fits o done [] past e low fewer = refl
rest_fits o done (p ∷ back) past e low fewer =
    let follows = follows_history o done back p e in
    let here : AreLow p.before past = subst (λ n. AreLow n past) (sym follows.before) low in
    let ns : Numbers = round_numbers p past.taken past.counters in
    let fits : RoundFits o past p ns = (
      reads_fit o p past ns refl here,
      λ is. record { read_requests = omega arith; reads = omega arith; write_requests = omega arith; writes = omega arith; fewer = fewer },
    ) in
    let next : PastNumbers = past_behind o past p ns in
    let same : next.counters ≡ past.counters = counts (is_stats (steps_of p.round)) in
    let behind : AreLow (number_after o (done ++ p ∷ [])) next = subst (λ n. AreLow n next) (sym (number_more o done p follows.before)) (low_round o p past ns fits here) in
    let rest = rest_fits o (done ++ p ∷ []) back next (e ∙ sym (append_assoc done (p ∷ []) back)) behind (subst (λ (k : Counters). k.reads ≤ k.read_requests) (sym same) fewer) in
    (fits, subst (λ k. FitFrom o next back (rest_of k next.taken back)) same rest)
  where
    counts : (b : Bool) → cond b past.counters past.counters ≡ past.counters
    counts true = refl
    counts false = refl
