-- The jobs of a round, as they are made, and as they are left.
use Rattle.std.proofs.Common.{◌≡◌, ℕ, zero, suc, ◌+◌, ◌^◌, ◌<◌, ◌≤◌, List, [], ◌∷◌, ◌++◌, length, take, drop, slice_index_or, All, Option, Some, None, refl, sym, ap, subst, ◌∙◌, arith, length-append, add-one}
use Rattle.std.specs.Prelude.{sum_by, option_to_list}
use Rattle.std.proofs.Math.Seq.{take-suc}
use Rattle.std.proofs.lemmas.List.{take-map, take_all, length-take, length-drop, append-nil}
use Rattle.std.proofs.lemmas.List.Elements.{All-cons, All-nil}
use Rattle.std.proofs.lemmas.List.Sums.{sum_by-take-le}
use Rattle.myi_base.specs.Holding.{Holding}
use Rattle.myi_adapters.specs.TwoReaders.{told_by}
use Rattle.myi_defs.specs.declared.types.Defs.{Defs}
use Rattle.myi_pack.specs.Packed.{Values}
use Rattle.myi_pack.specs.Spelling.{spelling}
use Rattle.myi_state.specs.declared.counts.Counts.{Counts}
use Rattle.myi_state.specs.Numbers.{counts_of}
use Rattle.myi_state.specs.State.{TableState}
use Rattle.myi_keyedrows.specs.KeyedRows.{HoldTable, IfHold}
use Rattle.myi_table.specs.Table.{defs_in, HoldState, IfHolds}
use Rattle.myi_tail.specs.Prefix.{BeginsWith}
use Rattle.myi_locks.specs.declared.steps.Step.{Step}
use Rattle.myi_script.specs.declared.types.Line.{Line}
use Rattle.myi_history.specs.RoundTexts.{LineText}
use Rattle.myi_snapshots.specs.declared.snapshot.Snapshot.{Snapshot}
use Rattle.myi_snapshots.specs.Known.{packed_rows, size_of, end_with}
use Rattle.myi_readers.specs.declared.file_reader.Reader.{Reader}
use Rattle.myi_readers.specs.declared.reader.TableReader.{TableReader}
use Rattle.myi_readers.specs.Reader.{IsReader, AreKnown, IsSameReader, rows_known, end_known}
use Rattle.myi_inserter.specs.declared.inserter.TableInserter.{TableInserter}
use Rattle.myi_inserter.specs.Inserter.{IsInserter, base_end}
use Rattle.myi_share.specs.Sharing.{Sharing, IsReaderOf}
use Rattle.myi_rounds.specs.declared.job.Job.{Job}
use Rattle.myi_rounds.specs.declared.job.Job.TheVariants as job
use Rattle.myi_rounds.specs.declared.job.ReadRun.{ReadRun}
use Rattle.myi_rounds.specs.declared.round.AskedReads.{AskedReads}
use Rattle.myi_rounds.specs.declared.round.WentReads.{WentReads}
use Rattle.myi_rounds.specs.Jobs.{JobRan, EachRan, ReadsRan}
use Rattle.myi_rounds.specs.ReadJob.{SaidBy, HasSaid}
use Rattle.myi_rounds.specs.Rounds.{EachOf, RunSaid, HasRead}
use Rattle.myi_rounds.specs.Backs.{job_for, jobs_for, readers_in, went_in, AreWithin}
use Rattle.myi_rounds.proofs.ReaderLemmas.{base_end as reader_end}
use Rattle.myi_rounds.proofs.EachLemmas.{each_from, each_end}
use Rattle.myi_rounds.proofs.FitLemmas.{begun, all_behind}

-- ---- jobs as they are made

pub jobs_more : {R : Type 0} (ls : List Line) (xs : List AskedReads) (rs : List (Reader R)) (a : AskedReads) (r : Reader R) → length rs ≡ length xs → jobs_for ls (xs ++ a ∷ []) (rs ++ r ∷ []) ≡ jobs_for ls xs rs ++ job_for ls a r ∷ []
jobs_more ls [] [] a r long = refl
jobs_more ls [] (q ∷ rs) a r long = absurd (omega (arith, long))
jobs_more ls (b ∷ xs) [] a r long = absurd (omega (arith, long))
jobs_more ls (b ∷ xs) (q ∷ rs) a r long = ap (λ l. job_for ls b q ∷ l) (jobs_more ls xs rs a r (omega (arith, long)))

pub job_next : {R : Type 0} (ls : List Line) (xs : List AskedReads) (rs : List (Reader R)) (r : Reader R) (n : ℕ) (d : AskedReads) (js new : List (Job R)) → js ≡ jobs_for ls (take (length rs) xs) rs → length rs < length xs → new ≡ js ++ job_for ls (slice_index_or xs n d) r ∷ [] → n ≡ length rs
    → new ≡ jobs_for ls (take (length (rs ++ r ∷ [])) xs) (rs ++ r ∷ [])
job_next ls xs rs r n d js new was lt pushed same =
    let more : take (length (rs ++ r ∷ [])) xs ≡ take (length rs) xs ++ slice_index_or xs (length rs) d ∷ [] = ap (λ (k : ℕ). take k xs) (length-append rs (r ∷ []) ∙ add-one (length rs)) ∙ take-suc xs (length rs) d lt in
    let long : length rs ≡ length (take (length rs) xs) = (let e = length-take (length rs) xs in omega (arith, e, lt)) in
    pushed ∙ ap (λ (i : ℕ). js ++ job_for ls (slice_index_or xs i d) r ∷ []) same ∙ ap (λ l. l ++ job_for ls (slice_index_or xs (length rs) d) r ∷ []) was ∙ sym (jobs_more ls (take (length rs) xs) rs (slice_index_or xs (length rs) d) r long) ∙ ap (λ l. jobs_for ls l (rs ++ r ∷ [])) (sym more)

pub jobs_end : {R : Type 0} (ls : List Line) (xs : List AskedReads) (rs all : List (Reader R)) (js : List (Job R)) → js ≡ jobs_for ls (take (length rs) xs) rs → rs ≡ all → length all ≡ length xs → js ≡ jobs_for ls xs all
jobs_end ls xs rs all js was same long =
    was ∙ ap (λ l. jobs_for ls l rs) (take_all (length rs) xs (let e = ap (λ (l : List _). length l) same in omega (arith, e, long))) ∙ ap (jobs_for ls xs) same

-- ---- jobs as they are run

is_none : {A : Type 0} (l : List A) → length l ≡ 0 → l ≡ []
is_none [] e = refl
is_none (x ∷ l) e = absurd (omega (arith, e))

-- a list is written over as a whole
written : {A : Type 0} (n : ℕ) (old new : List A) → n ≡ length old → length new ≡ length old → take n (new ++ drop (length new) old) ≡ new
written n old new len long =
    ap (λ l. take n (new ++ l)) (is_none (drop (length new) old) (let e = length-drop (length new) old in omega (arith, e, long))) ∙ ap (take n) (append-nil new) ∙ take_all n new (omega (arith, len, long))

pub ran_each : {R : Type 0} (shows : R → Option (List ℕ)) (faults : R → ℕ) (n : ℕ) (old mid new : List (Job R)) → n ≡ length old → mid ≡ old → length new ≡ length mid → EachRan shows faults mid new → EachOf (JobRan shows faults) old (take n (new ++ drop (length new) old))
ran_each shows faults n old mid new len same long ran =
    let e = ap (λ (l : List _). length l) same in
    subst (λ l. EachOf (JobRan shows faults) old l) (sym (written n old new len (omega (arith, e, long)))) (subst (λ l. EachOf (JobRan shows faults) l new) same (each_from (JobRan shows faults) mid new long ran))

-- the run of inserts stood last
pub ran_last : {R : Type 0} (shows : R → Option (List ℕ)) (faults : R → ℕ) (old init left all : List (Job R)) (x last : Job R) (o : Option (Job R)) → all ≡ old ++ x ∷ [] → left ≡ init ++ option_to_list o → o ≡ Some last → EachOf (JobRan shows faults) all left → EachOf (JobRan shows faults) old init × JobRan shows faults x last
ran_last shows faults old init left all x last o pushed popped is ran =
    each_end (JobRan shows faults) old init x last (subst (λ l. EachOf (JobRan shows faults) l (init ++ last ∷ [])) pushed (subst (EachOf (JobRan shows faults) all) (popped ∙ ap (λ p. init ++ option_to_list p) is) ran))

-- ---- jobs as they are left

-- the reader of a run is one of the sharing, and its texts are what its steps said that are done
pub record IsRun {R : Type 0} (shows : R → Option (List ℕ)) (of : Sharing) (told : Option Holding) (ls : List Line) (a : AskedReads) (run : ReadRun R) : Type 0 where
  pub reader : IsReaderOf of told (told_by shows run.job.reader.files) run.job.reader.table
  pub lines : run.job.lines ≡ ls
  pub steps : run.job.steps ≡ a.steps.now
  pub taken : run.job.taken ≡ a.taken
  pub said : IfHolds told of.table (λ m s. HasSaid run.job s)

abbrev pub IsJob : {R : Type 0} → (R → Option (List ℕ)) → Sharing → Option Holding → List Line → AskedReads → Job R → Type 0
IsJob shows of told ls a (job.Reads run) = IsRun shows of told ls a run
IsJob shows of told ls a (job.Inserts run) = ⊥

-- the law that a reader stays one of its sharing
abbrev pub KeepsReader : Type 0
KeepsReader = (of : Sharing) (told objects : Option Holding) (r q : TableReader) → IsReaderOf of told objects r → IsSameReader r q → IsReader q → IfHold objects r.rows (λ m own base. HoldTable q.rows own base m) → IsReaderOf of told objects q

run_new : {R : Type 0} (shows : R → Option (List ℕ)) (of : Sharing) (told : Option Holding) (ls : List Line) (a : AskedReads) (r : Reader R) → IsReaderOf of told (told_by shows r.files) r.table
    → IsRun shows of told ls a (record { job = record { reader = r; lines = ls; steps = a.steps.now; done = 0; taken = a.taken; texts = [] }; refused = None })
run_new shows of told ls a r is = record { reader = is; lines = refl; steps = refl; taken = refl; said = λ m held s hold. begun ls r.table s a.taken }

run_on : KeepsReader → {R : Type 0} (shows : R → Option (List ℕ)) (faults : R → ℕ) (of : Sharing) (told : Option Holding) (ls : List Line) (a : AskedReads) (old new : ReadRun R) → IsRun shows of told ls a old → ReadsRan shows faults old new → IsRun shows of told ls a new
run_on law shows faults of told ls a old new is ran =
    let on = ran.on.reader in
    let r = old.job.reader in
    let q = new.job.reader in
    record {
      reader = subst (λ (o : Option Holding). IsReaderOf of told o q.table) (sym on.holds) (law of told (told_by shows r.files) r.table q.table is.reader on.same on.ready on.still);
      lines = ran.on.lines ∙ is.lines;
      steps = ran.on.steps ∙ is.steps;
      taken = ran.on.taken ∙ is.taken;
      said = λ m held s hold. let h = is.reader.stands m held s hold in ran.on.said h.0 h.1 h.2 s h.3 (is.said m held s hold);
    }

pub all_on : KeepsReader → {R : Type 0} (shows : R → Option (List ℕ)) (faults : R → ℕ) (of : Sharing) (told : Option Holding) (ls : List Line) (xs : List AskedReads) (rs : List (Reader R)) (js : List (Job R)) → length rs ≡ length xs → All (λ r. IsReaderOf of told (told_by shows r.files) r.table) rs
    → EachOf (JobRan shows faults) (jobs_for ls xs rs) js → EachOf (IsJob shows of told ls) xs js
all_on law shows faults of told ls [] rs [] long all ran = tt
all_on law shows faults of told ls [] rs (j ∷ js) long all ran = absurd ran
all_on law shows faults of told ls (a ∷ xs) [] js long all ran = absurd (omega (arith, long))
all_on law shows faults of told ls (a ∷ xs) (r ∷ rs) [] long all ran = absurd ran
all_on law shows faults of told ls (a ∷ xs) (r ∷ rs) (job.Reads new ∷ js) long all ran = (
  run_on law shows faults of told ls a _ new (run_new shows of told ls a r (all zero r (omega arith))) ran.0,
  all_on law shows faults of told ls xs rs js (omega (arith, long)) (λ k d lt. all (suc k) d (omega (arith, lt))) ran.1,
)
all_on law shows faults of told ls (a ∷ xs) (r ∷ rs) (job.Inserts new ∷ js) long all ran = absurd ran.0

pub readers_back : {R : Type 0} (shows : R → Option (List ℕ)) (of : Sharing) (told : Option Holding) (ls : List Line) (xs : List AskedReads) (js : List (Job R)) → EachOf (IsJob shows of told ls) xs js → All (λ r. IsReaderOf of told (told_by shows r.files) r.table) (readers_in js)
readers_back shows of told ls [] [] each = All-nil (λ r. IsReaderOf of told (told_by shows r.files) r.table)
readers_back shows of told ls [] (j ∷ js) each = absurd each
readers_back shows of told ls (a ∷ xs) [] each = absurd each
readers_back shows of told ls (a ∷ xs) (job.Reads run ∷ js) each = All-cons (λ r. IsReaderOf of told (told_by shows r.files) r.table) run.job.reader (readers_in js) each.0.reader (readers_back shows of told ls xs js each.1)
readers_back shows of told ls (a ∷ xs) (job.Inserts run ∷ js) each = absurd each.0

-- over any files: no run has done more steps than it has
pub within_back : {R : Type 0} (shows : R → Option (List ℕ)) (of : Sharing) (told : Option Holding) (ls : List Line) (xs : List AskedReads) (js : List (Job R)) → EachOf (IsJob shows of told ls) xs js → AreWithin js → EachOf (λ (a : AskedReads) (w : WentReads). w.done ≤ length a.steps.now) xs (went_in js)
within_back shows of told ls [] [] each within = tt
within_back shows of told ls [] (j ∷ js) each within = absurd each
within_back shows of told ls (a ∷ xs) [] each within = absurd each
within_back shows of told ls (a ∷ xs) (job.Reads run ∷ js) each within = (subst (λ (l : List Step). run.job.done ≤ length l) each.0.steps within.0, within_back shows of told ls xs js each.1 within.1)
within_back shows of told ls (a ∷ xs) (job.Inserts run ∷ js) each within = absurd each.0

-- ---- what runs of reads said, once the rows are known that were put meanwhile

-- the law that a reader knows the first of the rows that an inserter put
abbrev pub KnowsFirst : Type 0
KnowsFirst = (i : TableInserter) (rows : List Values) (r : TableReader) → IsInserter i rows → IsReader r → r.defs ≡ i.defs → BeginsWith i.appender.words r.seat.known → AreKnown r (take (length (rows_known r)) rows)

inserter_end : (i : TableInserter) (own : ℕ → ℕ) (base : TableState) (m : Holding) → HoldTable i.rows own base m → base.space.end ≡ base_end i
unfolding counts_of
inserter_end i own base m h = sym (ap (λ (c : Counts). c.length) h.rows.0.counts)

small_end : (i : TableInserter) (r : TableReader) (rows : List Values) (k : ℕ) → IsInserter i rows → r.defs ≡ i.defs → r.rows.rows.file.counts.length ≡ base_end i → AreKnown r (take k rows) → i.end < 2 ^ 64 → end_known r < 2 ^ 64
small_end i r rows k put same ends are small =
    let packed : rows_known r ≡ take k (packed_rows r.defs rows) = are.packed ∙ sym (take-map (spelling r.defs) k rows) in
    let less = sum_by-take-le (size_of r.defs) (packed_rows r.defs rows) k in
    let sums = ap (sum_by (size_of r.defs)) packed in
    let all : i.end ≡ base_end i + sum_by (size_of r.defs) (packed_rows r.defs rows) = put.end ∙ ap (λ (d : Defs). end_with d (base_end i) (packed_rows d rows)) (sym same) in
    omega (arith, less, sums, all, ends, small)

run_said : (r : TableReader) (ls : List Line) (base : TableState) (rows : List Values) (taken : Option Snapshot) (steps : List Step) (texts : List LineText) → AreKnown r (take (length (rows_known r)) rows) → end_known r < 2 ^ 64 → SaidBy ls r base taken steps texts
    → RunSaid r.defs ls base r.number rows taken steps texts
run_said r ls base rows None steps texts are small said = all_behind ls r base rows steps texts are small said
run_said r ls base rows (Some snap) steps texts are small said = λ s earlier. said (take (length (rows_known r)) rows) are s earlier

one_back : KnowsFirst → {R : Type 0} (shows : R → Option (List ℕ)) (of : Sharing) (told : Option Holding) (ls : List Line) (i : TableInserter) (rows : List Values) (m : Holding) (s : TableState) (own : ℕ → ℕ) (n : Holding) (a : AskedReads) (run : ReadRun R) → told ≡ Some m → HoldState of.table s m
    → IsInserter i rows → i.defs ≡ defs_in of.table → HoldTable i.rows own s n → i.end < 2 ^ 64 → IsRun shows of told ls a run → run.job.done ≤ length run.job.steps → BeginsWith i.appender.words run.job.reader.table.seat.known
    → HasRead (defs_in of.table) ls s of.number rows a (record { done = run.job.done; texts = run.job.texts })
one_back first shows of told ls i rows m s own n a run held hold put defs stands small is within known =
    let r = run.job.reader.table in
    let h = is.reader.stands m held s hold in
    let same : r.defs ≡ i.defs = is.reader.defs ∙ sym defs in
    let are = first i rows r put is.reader.ready same known in
    let ends : r.rows.rows.file.counts.length ≡ base_end i = sym (reader_end r h.2 s h.0 h.3) ∙ inserter_end i own s n stands in
    let end = small_end i r rows (length (rows_known r)) put same ends are small in
    let said : RunSaid r.defs run.job.lines s r.number rows run.job.taken (take run.job.done run.job.steps) run.job.texts = run_said r run.job.lines s rows run.job.taken (take run.job.done run.job.steps) run.job.texts are end (is.said m held s hold) in
    record {
      within = subst (λ (l : List Step). run.job.done ≤ length l) is.steps within;
      said = subst (λ (d : Defs). RunSaid d ls s of.number rows a.taken (take run.job.done a.steps.now) run.job.texts) is.reader.defs
          (subst (λ (k : ℕ). RunSaid r.defs ls s k rows a.taken (take run.job.done a.steps.now) run.job.texts) is.reader.number
          (subst (λ (l : List Line). RunSaid r.defs l s r.number rows a.taken (take run.job.done a.steps.now) run.job.texts) is.lines
          (subst (λ (l : List Step). RunSaid r.defs run.job.lines s r.number rows a.taken (take run.job.done l) run.job.texts) is.steps
          (subst (λ (t : Option Snapshot). RunSaid r.defs run.job.lines s r.number rows t (take run.job.done run.job.steps) run.job.texts) is.taken said))));
    }

pub said_back : KnowsFirst → {R : Type 0} (shows : R → Option (List ℕ)) (of : Sharing) (told : Option Holding) (ls : List Line) (i : TableInserter) (rows : List Values) (m : Holding) (s : TableState) (own : ℕ → ℕ) (n : Holding) (xs : List AskedReads) (js : List (Job R)) → told ≡ Some m → HoldState of.table s m
    → IsInserter i rows → i.defs ≡ defs_in of.table → HoldTable i.rows own s n → i.end < 2 ^ 64 → EachOf (IsJob shows of told ls) xs js → AreWithin js → All (λ r. BeginsWith i.appender.words r.table.seat.known) (readers_in js)
    → EachOf (HasRead (defs_in of.table) ls s of.number rows) xs (went_in js)
said_back first shows of told ls i rows m s own n [] [] held hold put defs stands small each within known = tt
said_back first shows of told ls i rows m s own n [] (j ∷ js) held hold put defs stands small each within known = absurd each
said_back first shows of told ls i rows m s own n (a ∷ xs) [] held hold put defs stands small each within known = absurd each
said_back first shows of told ls i rows m s own n (a ∷ xs) (job.Reads run ∷ js) held hold put defs stands small each within known = (
  one_back first shows of told ls i rows m s own n a run held hold put defs stands small each.0 within.0 (known zero run.job.reader (omega arith)),
  said_back first shows of told ls i rows m s own n xs js held hold put defs stands small each.1 within.1 (λ k d lt. known (suc k) d (omega (arith, lt))),
)
said_back first shows of told ls i rows m s own n (a ∷ xs) (job.Inserts run ∷ js) held hold put defs stands small each within known = absurd each.0

-- ---- jobs that are taken apart

pub readers_more : {R : Type 0} (js : List (Job R)) (run : ReadRun R) → readers_in (js ++ job.Reads run ∷ []) ≡ readers_in js ++ run.job.reader ∷ []
readers_more [] run = refl
readers_more (job.Reads one ∷ js) run = ap (λ l. one.job.reader ∷ l) (readers_more js run)
readers_more (job.Inserts one ∷ js) run = readers_more js run

pub went_more : {R : Type 0} (js : List (Job R)) (run : ReadRun R) → went_in (js ++ job.Reads run ∷ []) ≡ went_in js ++ record { done = run.job.done; texts = run.job.texts } ∷ []
went_more [] run = refl
went_more (job.Reads one ∷ js) run = ap (λ l. record { done = one.job.done; texts = one.job.texts } ∷ l) (went_more js run)
went_more (job.Inserts one ∷ js) run = went_more js run

pub within_more : {R : Type 0} (js : List (Job R)) (run : ReadRun R) → AreWithin js → run.job.done ≤ length run.job.steps → AreWithin (js ++ job.Reads run ∷ [])
within_more [] run all one = (one, tt)
within_more (job.Reads q ∷ js) run all one = (all.0, within_more js run all.1 one)
within_more (job.Inserts q ∷ js) run all one = within_more js run all one

pub readers_skip : {R : Type 0} (js : List (Job R)) (j : Job R) → ((run : ReadRun R) → j ≡ job.Reads run → ⊥) → readers_in (js ++ j ∷ []) ≡ readers_in js
readers_skip [] (job.Reads run) other = absurd (other run refl)
readers_skip [] (job.Inserts run) other = refl
readers_skip (job.Reads one ∷ js) j other = ap (λ l. one.job.reader ∷ l) (readers_skip js j other)
readers_skip (job.Inserts one ∷ js) j other = readers_skip js j other

pub went_skip : {R : Type 0} (js : List (Job R)) (j : Job R) → ((run : ReadRun R) → j ≡ job.Reads run → ⊥) → went_in (js ++ j ∷ []) ≡ went_in js
went_skip [] (job.Reads run) other = absurd (other run refl)
went_skip [] (job.Inserts run) other = refl
went_skip (job.Reads one ∷ js) j other = ap (λ l. record { done = one.job.done; texts = one.job.texts } ∷ l) (went_skip js j other)
went_skip (job.Inserts one ∷ js) j other = went_skip js j other

pub within_skip : {R : Type 0} (js : List (Job R)) (j : Job R) → ((run : ReadRun R) → j ≡ job.Reads run → ⊥) → AreWithin js → AreWithin (js ++ j ∷ [])
within_skip [] (job.Reads run) other all = absurd (other run refl)
within_skip [] (job.Inserts run) other all = tt
within_skip (job.Reads q ∷ js) j other all = (all.0, within_skip js j other all.1)
within_skip (job.Inserts q ∷ js) j other all = within_skip js j other all

pub went_same : (n k : ℕ) (s t : List LineText) → n ≡ k → s ≡ t → ◌≡◌ {A = WentReads} (record { done = n; texts = s }) (record { done = k; texts = t })
went_same n k s t one two = cc

pub asked_same : {R : Type 0} (ls : List Line) (xs : List AskedReads) (n : ℕ) (d a : AskedReads) (r : Reader R) → a ≡ slice_index_or xs n d → job_for ls a r ≡ job_for ls (slice_index_or xs n d) r
asked_same ls xs n d a r is = ap (λ (b : AskedReads). job_for ls b r) is
