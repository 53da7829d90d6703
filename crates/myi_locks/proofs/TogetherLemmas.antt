-- What goes together: reads, and the inserts of one session.
use Rattle.std.proofs.Common.{◌≡◌, ◌<◌, ℕ, ◌||◌, ◌&&◌, not, List, [], ◌∷◌, map, filter, Option, Some, None, Bool, true, false, cond, refl, ap, sym, ◌∙◌}
use Rattle.std.specs.Prelude.{option_map}
use Rattle.std.specs.List.{AllByRecursion, flat_map}
use Rattle.myi_locks.specs.declared.steps.StepKind.{StepKind}
use Rattle.myi_locks.specs.declared.steps.StepKind.TheVariants.{Release, Take, Rows, Insert, Change, Unlock, Stats, End}
use Rattle.myi_locks.specs.declared.steps.Step.{Step}
use Rattle.myi_locks.specs.declared.steps.Run.{Run}
use Rattle.myi_locks.specs.declared.steps.Round.{Round}
use Rattle.myi_locks.specs.declared.steps.Round.TheVariants.{Finished, Alone, Together}
use Rattle.myi_locks.specs.Steps.{is_insert, is_read, writes_rows}
use Rattle.myi_locks.specs.Sessions.{Session, first, is_next, holds_any}
use Rattle.myi_locks.specs.Rounds.{LockState, next_round, run_of, reads, inserter, session_at, together}
use Rattle.myi_locks.specs.Laws.{CanDo, Rising, IsLawful, HasOneWriter, ReadsOrInserts, InsertsAreConcurrent, IsRunOf, AreRising, IsInserter, HasOwnRuns, goes_together}
use Rattle.myi_locks.proofs.FirstLemmas.{all_in, first_some}
use Rattle.myi_locks.proofs.CaseLemmas.{by_case}
use Rattle.myi_locks.proofs.HoldLemmas.{own_head, inserter_is, GoesAlone, GoesBeside, alone_inserts, beside, and_both}
use Rattle.myi_locks.proofs.EndLemmas.{read_steps, all_weaken, all_join, run_own}
use Rattle.myi_locks.proofs.ExclusionLemmas.{all_passes}

abbrev pub AreReads : List Step → Type 0
AreReads xs = AllByRecursion (λ (x : Step). is_read x.kind ≡ true) xs

pub reads_are : (test : Session → Bool) (ss : List Session) → AreReads (read_steps test ss)
reads_are test [] = tt
reads_are test (u ∷ ss) = go (test u && is_next is_read u) (reads_are test ss)
  where
    go : (b : Bool) → AreReads (read_steps test ss) → AreReads (flat_map (λ (run : Run). run.steps) (map (run_of is_read) (cond b (u ∷ filter (λ t. test t && is_next is_read t) ss) (filter (λ t. test t && is_next is_read t) ss))))
    go true ih = all_join _ (run_of is_read u).steps (read_steps test ss) (all_passes is_read u.left) ih
    go false ih = ih

-- what a round of kind Together is made of
abbrev HasParts : Round → Type 0
HasParts Finished = Unit {0}
HasParts (Alone x) = Unit {0}
HasParts (Together inserter readers) = IsInserter inserter × AreReads (flat_map (λ (run : Run). run.steps) readers.runs)

all_both : (P Q : Step → Type 0) (xs : List Step) → AllByRecursion P xs → AllByRecursion Q xs → AllByRecursion (λ x. P x × Q x) xs
all_both P Q [] h k = tt
all_both P Q (x ∷ xs) h k = ((h.0, k.0), all_both P Q xs h.1 k.1)

inserter_part : (ss : List Session) → IsLawful ss → (o : Option Step) → first (is_next is_insert) ss ≡ o → IsInserter (inserter ss)
inserter_part ss ok None e = rw (ap (λ o. option_map (run_of is_insert) (session_at o ss)) e) tt
inserter_part ss ok (Some y) e =
    let w = first_some (is_next is_insert) ss y e in
    let can = all_in (λ (q : Session). CanDo q.number q.held q.left) ss w.0 ok.each w.1 in
    rw (inserter_is ss w.0 y ok.rising w.1 (own_head _ _ _ y can w.3).0 e)
    (all_both (λ (x : Step). is_insert x.kind ≡ true) (λ (x : Step). x.session ≡ w.0.number) (run_of is_insert w.0).steps (all_passes is_insert w.0.left) (run_own is_insert w.0 can))

parts : (r : LockState) (holes : Bool) → IsLawful r.sessions → HasParts (next_round r holes)
parts r holes ok =
    by_case HasParts r holes (λ e. tt) (λ x e. tt) (λ x e. tt) (λ x p e. tt)
    (λ p e. (tt, reads_are (λ s. holds_any s.held) r.sessions)) (λ x e. tt)
    (λ p. (inserter_part r.sessions ok (first (is_next is_insert) r.sessions) refl, reads_are (λ s. true) r.sessions))

-- ---- the laws

read_writes_none : (k : StepKind) → is_read k ≡ true → writes_rows k ≡ false
read_writes_none Rows e = refl
read_writes_none Release e = refl
read_writes_none (Take q) e = refl
read_writes_none Insert e = cc
read_writes_none Change e = cc
read_writes_none Unlock e = refl
read_writes_none Stats e = refl
read_writes_none End e = refl

read_inserts_none : (k : StepKind) → is_read k ≡ true → is_insert k ≡ false
read_inserts_none Rows e = refl
read_inserts_none Release e = refl
read_inserts_none (Take q) e = refl
read_inserts_none Insert e = cc
read_inserts_none Change e = refl
read_inserts_none Unlock e = refl
read_inserts_none Stats e = refl
read_inserts_none End e = refl

reads_write_none : (n : _) (xs : List Step) → AreReads xs → AllByRecursion (λ (x : Step). writes_rows x.kind ≡ true → x.session ≡ n) xs
reads_write_none n xs h = all_weaken (λ (x : Step). is_read x.kind ≡ true) (λ (x : Step). writes_rows x.kind ≡ true → x.session ≡ n) xs (λ x e w. (let no = read_writes_none x.kind e in cc)) h

one_writer_by : (round : Round) → HasParts round → HasOneWriter round
one_writer_by Finished h = (0, tt)
one_writer_by (Alone x) h = (x.session, (λ e. refl, tt))
one_writer_by (Together None readers) h = (0, reads_write_none 0 _ h.1)
one_writer_by (Together (Some run) readers) h = (run.session, all_join _ run.steps _ (all_weaken _ (λ (x : Step). writes_rows x.kind ≡ true → x.session ≡ run.session) run.steps (λ x k w. k.1) h.0) (reads_write_none run.session _ h.1))

pub one_writer : (r : LockState) (holes : Bool) → IsLawful r.sessions → HasOneWriter (next_round r holes)
one_writer r holes ok = one_writer_by (next_round r holes) (parts r holes ok)

abbrev IsEither : Step → Type 0
IsEither x = is_read x.kind || is_insert x.kind ≡ true

reads_either : (xs : List Step) → AreReads xs → AllByRecursion IsEither xs
reads_either xs h = all_weaken (λ (x : Step). is_read x.kind ≡ true) IsEither xs (λ x e. rw e refl) h

or_true : (b : Bool) → b || true ≡ true
or_true true = refl
or_true false = refl

kinds_by : (round : Round) → HasParts round → ReadsOrInserts round
kinds_by Finished h = λ e. tt
kinds_by (Alone x) h = λ e. absurd (cc)
kinds_by (Together None readers) h = λ e. reads_either _ h.1
kinds_by (Together (Some run) readers) h = λ e. all_join IsEither run.steps _ (all_weaken _ IsEither run.steps (λ x k. rw k.0 (or_true (is_read x.kind))) h.0) (reads_either _ h.1)

pub together_kinds : (r : LockState) (holes : Bool) → IsLawful r.sessions → ReadsOrInserts (next_round r holes)
together_kinds r holes ok = kinds_by (next_round r holes) (parts r holes ok)

abbrev GoesAsItMay : LockState → Bool → Bool → Step → Type 0
GoesAsItMay r holes together x = is_insert x.kind ≡ true → together ≡ goes_together r holes x.session

reads_go : (r : LockState) (holes : Bool) (xs : List Step) → AreReads xs → AllByRecursion (GoesAsItMay r holes true) xs
reads_go r holes xs h = all_weaken (λ (x : Step). is_read x.kind ≡ true) (GoesAsItMay r holes true) xs (λ x e i. (let no = read_inserts_none x.kind e in cc)) h

inserts_by : (r : LockState) (holes : Bool) (round : Round) → HasParts round → GoesAlone r holes round → GoesBeside r holes round → InsertsAreConcurrent r holes round
inserts_by r holes Finished h a b = tt
inserts_by r holes (Alone x) h a b = (λ i. sym (a x refl i), tt)
inserts_by r holes (Together None readers) h a b = reads_go r holes _ h.1
inserts_by r holes (Together (Some run) readers) h a b =
    let w = b run readers refl in
    let may : goes_together r holes run.session ≡ true = and_both _ _ w.0 (ap (λ h. not (holds_any h)) w.1) in
    all_join (GoesAsItMay r holes true) run.steps _ (all_weaken _ (GoesAsItMay r holes true) run.steps (λ x k i. sym (ap (goes_together r holes) k.1 ∙ may)) h.0) (reads_go r holes _ h.1)

pub concurrent_inserts : (r : LockState) (holes : Bool) → IsLawful r.sessions → InsertsAreConcurrent r holes (next_round r holes)
concurrent_inserts r holes ok = inserts_by r holes (next_round r holes) (parts r holes ok) (alone_inserts r holes ok) (beside r holes ok)

-- ---- runs

-- runs of reads are those of the sessions
runs_own : (test : Session → Bool) (ss : List Session) → AllByRecursion (λ (s : Session). CanDo s.number s.held s.left) ss → AllByRecursion (IsRunOf is_read) (reads test ss)
runs_own test [] can = tt
runs_own test (u ∷ ss) can = go (test u && is_next is_read u) (runs_own test ss can.1)
  where
    go : (b : Bool) → AllByRecursion (IsRunOf is_read) (reads test ss) → AllByRecursion (IsRunOf is_read) (map (run_of is_read) (cond b (u ∷ filter (λ t. test t && is_next is_read t) ss) (filter (λ t. test t && is_next is_read t) ss)))
    go true ih = (all_both (λ (x : Step). is_read x.kind ≡ true) (λ (x : Step). x.session ≡ u.number) (run_of is_read u).steps (all_passes is_read u.left) (run_own is_read u can.0), ih)
    go false ih = ih

runs_above : (n : ℕ) (test : Session → Bool) (ss : List Session) → AllByRecursion (λ (s : Session). n < s.number) ss → AllByRecursion (λ (run : Run). n < run.session) (reads test ss)
runs_above n test [] above = tt
runs_above n test (u ∷ ss) above = go (test u && is_next is_read u) (runs_above n test ss above.1)
  where
    go : (b : Bool) → AllByRecursion (λ (run : Run). n < run.session) (reads test ss) → AllByRecursion (λ (run : Run). n < run.session) (map (run_of is_read) (cond b (u ∷ filter (λ t. test t && is_next is_read t) ss) (filter (λ t. test t && is_next is_read t) ss)))
    go true ih = (above.0, ih)
    go false ih = ih

runs_rise : (test : Session → Bool) (ss : List Session) → Rising ss → AreRising (reads test ss)
runs_rise test [] rising = tt
runs_rise test (u ∷ ss) rising = go (test u && is_next is_read u) (runs_rise test ss rising.1)
  where
    go : (b : Bool) → AreRising (reads test ss) → AreRising (map (run_of is_read) (cond b (u ∷ filter (λ t. test t && is_next is_read t) ss) (filter (λ t. test t && is_next is_read t) ss)))
    go true ih = (runs_above u.number test ss rising.0, ih)
    go false ih = ih

pub own_runs : (r : LockState) (holes : Bool) → IsLawful r.sessions → HasOwnRuns (next_round r holes)
own_runs r holes ok =
    by_case HasOwnRuns r holes (λ e. tt) (λ x e. tt) (λ x e. tt) (λ x p e. tt)
    (λ p e. (tt, runs_own (λ s. holds_any s.held) r.sessions ok.each, runs_rise (λ s. holds_any s.held) r.sessions ok.rising)) (λ x e. tt)
    (λ p. (inserter_part r.sessions ok (first (is_next is_insert) r.sessions) refl, runs_own (λ s. true) r.sessions ok.each, runs_rise (λ s. true) r.sessions ok.rising))
