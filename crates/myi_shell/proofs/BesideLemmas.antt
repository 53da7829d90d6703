-- The runs of a round that go side by side, and what is left of them behind that.
use Rattle.std.proofs.Common.{◌≡◌, ℕ, zero, suc, ◌+◌, ◌-◌, ◌<◌, ◌≤◌, Bool, true, false, cond, List, [], ◌∷◌, ◌++◌, map, filter, take, drop, length, Option, Some, None, Result, Ok, Err, OnOk, refl, sym, ap, subst, ◌∙◌, arith, append_assoc}
use Rattle.std.specs.Prelude.{MatchBool, nat_lt, option_map, IsPermutation}
use Rattle.std.specs.List.{AllByRecursion, flat_map}
use Rattle.std.proofs.lemmas.Bool.Decides.{nat_tests}
use Rattle.std.proofs.lemmas.List.{append-nil, map-append, length-append, length-map}
use Rattle.std.proofs.lemmas.List.Sorted.{IsPermutation-refl, IsPermutation-trans, IsPermutation-append_comm, IsPermutation-append_left, IsPermutation-append_right}
use Rattle.myi_base.specs.Holding.{Holding}
use Rattle.myi_defs.specs.declared.types.Defs.{Defs}
use Rattle.myi_defs.specs.Sound.{IsSound}
use Rattle.myi_pack.specs.Packed.{Values}
use Rattle.myi_pair.specs.KeyList.{PlacedRow}
use Rattle.myi_state.specs.State.{StoredRow, TableState}
use Rattle.myi_state.specs.Changes.{Change, insert_at_end, replay}
use Rattle.myi_state.specs.Sound.{IsState}
use Rattle.myi_locks.specs.declared.steps.Step.{Step}
use Rattle.myi_locks.specs.declared.steps.StepKind.TheVariants as kind
use Rattle.myi_locks.specs.declared.steps.Run.{Run}
use Rattle.myi_locks.specs.declared.steps.Runs.{Runs}
use Rattle.myi_locks.specs.declared.steps.Round.TheVariants.{Together}
use Rattle.myi_locks.specs.Steps.{writes_rows, is_read}
use Rattle.myi_locks.specs.Laws.{IsRunOf}
use Rattle.myi_locks.specs.Rounds.{LockState}
use Rattle.myi_script.specs.declared.types.Act.{Act}
use Rattle.myi_script.specs.declared.types.Act.TheVariants as act
use Rattle.myi_script.specs.declared.types.Line.{Line}
use Rattle.myi_history.specs.Lines.{act_of}
use Rattle.myi_history.specs.Reads.{found}
use Rattle.myi_history.specs.Answers.{rows, LineAnswer, answer_on}
use Rattle.myi_history.specs.Appending.{AreAppends}
use Rattle.myi_history.specs.Appending as appending
use Rattle.myi_history.specs.History.{Taking, in_table, Beside, Statements, Opening, ScriptRound, reads_only, asks, change_of, accepted_of, stepped_by, changes, state_after}
use Rattle.myi_history.specs.RoundTexts.{LineText, text_of, texts_of}
use Rattle.myi_history.specs.Text.{reply_said, change_said, write_said}
use Rattle.myi_history.specs.SideBySide.{InsertsRow, RisesFrom}
use Rattle.myi_history.proofs.CallerLemmas.{replay_changes, appends_stand_behind, finds_before}
use Rattle.myi_snapshots.specs.declared.snapshot.Snapshot.{Snapshot}
use Rattle.myi_snapshots.specs.Appended.{with_rows, rows_before}
use Rattle.myi_snapshots.specs.Seen.{state_at}
use Rattle.myi_rounds.specs.Inserts.{inserted_row, asked_by, inserts_said, said_of, HaveInserted}
use Rattle.myi_rounds.specs.Reads.{IsEarlier, AreRead, RiseWithin, AllAre, read_said, reads_by}
use Rattle.myi_rounds.specs.Rounds.{RunSaid, EachOf, HasRead, IsWithin}
use Rattle.myi_rounds.specs.declared.round.WentReads.{WentReads}
use Rattle.myi_rounds.specs.declared.round.WentRound.{WentRound}
use Rattle.myi_shell.specs.declared.reading.Snapshot as view
use Rattle.myi_shell.specs.declared.script_run.Taken.{Taken}
use Rattle.myi_shell.specs.declared.target.Target.{Target}
use Rattle.myi_shell.specs.Targets.{Standing, moved, defs_in, HoldsThen, IfHolds, StillHolds}
use Rattle.myi_shell.specs.Stepping.{RunState, seen_by, seen_rows, read_answer, read_by, writes_by, AreDone}
use Rattle.myi_shell.specs.Beside.{snapshot_of, taken_of, seen_at, RunIsFit, RunsSay, GoBeside, AreDoneBeside, BesideEachOther, EachRunSaid, HaveGone, runs_left, texts_in, noted_of}
use Rattle.myi_shell.proofs.DoneLemmas.{state_both, changes_both}

-- ---- parts of lists

take_drop : {X : Type 0} (k : ℕ) (xs : List X) → take k xs ++ drop k xs ≡ xs
take_drop zero xs = refl
take_drop (suc k) [] = refl
take_drop (suc k) (x ∷ xs) = ap (λ r. x ∷ r) (take_drop k xs)

take_first : {X : Type 0} (xs ys : List X) (k : ℕ) → k ≤ length xs → take k (xs ++ ys) ≡ take k xs
take_first xs ys zero le = refl
take_first [] ys (suc k) le = absurd (omega (arith, le))
take_first (x ∷ xs) ys (suc k) le = ap (λ r. x ∷ r) (take_first xs ys k (omega (arith, le)))

take_mapped : {X Y : Type 0} (f : X → Y) (k : ℕ) (xs : List X) → map f (take k xs) ≡ take k (map f xs)
take_mapped f zero xs = refl
take_mapped f (suc k) [] = refl
take_mapped f (suc k) (x ∷ xs) = ap (λ r. f x ∷ r) (take_mapped f k xs)

take_all : {X : Type 0} (xs : List X) (k : ℕ) → k ≡ length xs → take k xs ≡ xs
take_all [] zero e = refl
take_all [] (suc k) e = absurd (omega (arith, e))
take_all (x ∷ xs) zero e = absurd (omega (arith, e))
take_all (x ∷ xs) (suc k) e = ap (λ r. x ∷ r) (take_all xs k (omega (arith, e)))

pub all_drop : {X : Type 0} (P : X → Type 0) (k : ℕ) (xs : List X) → AllByRecursion P xs → AllByRecursion P (drop k xs)
all_drop P zero xs h = h
all_drop P (suc k) [] h = tt
all_drop P (suc k) (x ∷ xs) h = all_drop P k xs h.1

all_join : {X : Type 0} (P : X → Type 0) (xs ys : List X) → AllByRecursion P xs → AllByRecursion P ys → AllByRecursion P (xs ++ ys)
all_join P [] ys h k = k
all_join P (x ∷ xs) ys h k = (h.0, all_join P xs ys h.1 k)

all_weaker : {X : Type 0} (P Q : X → Type 0) (xs : List X) → ((x : X) → P x → Q x) → AllByRecursion P xs → AllByRecursion Q xs
all_weaker P Q [] f h = tt
all_weaker P Q (x ∷ xs) f h = (f x h.0, all_weaker P Q xs f h.1)

-- ---- inserts

-- an insert of a round asks the same of the table, however it is done
pub asks_alike : (ls : Statements) (r : LockState) (x : Step) → ls.takes ≡ in_table → InsertsRow ls.lines r x → asks ls r true x ≡ asked_by ls.lines x
asks_alike ls r x takes w =
    let asked : asks ls r true x ≡ change_of ls.takes true (act_of ls.lines x.line) = rw (w.kind, w.free) refl in
    asked ∙ ap (λ (k : Taking). change_of k true (act_of ls.lines x.line)) takes ∙ ap (change_of in_table true) w.inserts
    ∙ sym (ap (λ (a : Option Act). option_map insert_at_end (inserted_row a)) w.inserts)

-- and says the same
says_alike : (d : Defs) (ls : Statements) (r : LockState) (s : TableState) (x : Step) → ls.takes ≡ in_table → InsertsRow ls.lines r x
    → write_said ls d (reads_only r x.session) x.line s (asks ls r true x) ≡ reply_said in_table d x.line s (asked_by ls.lines x)
says_alike d ls r s x takes w =
    let o = asks ls r true x in
    let free : write_said ls d (reads_only r x.session) x.line s o ≡ change_said ls.takes (act_of ls.lines x.line) d x.line s o = ap (λ (b : Bool). write_said ls d b x.line s o) w.free in
    free ∙ ap (λ (k : Taking). change_said k (act_of ls.lines x.line) d x.line s o) takes ∙ ap (reply_said in_table d x.line s) (asks_alike ls r x takes w)

pub states_alike : (d : Defs) (ls : Statements) (r : LockState) (s : TableState) (xs : List Step) → ls.takes ≡ in_table → AllByRecursion (InsertsRow ls.lines r) xs → state_after d (asks ls r true) s xs ≡ state_after d (asked_by ls.lines) s xs
states_alike d ls r s [] takes w = refl
states_alike d ls r s (x ∷ xs) takes w =
    ap (λ o. state_after d (asks ls r true) (stepped_by d s o) xs) (asks_alike ls r x takes w.0) ∙ states_alike d ls r (stepped_by d s (asked_by ls.lines x)) xs takes w.1

pub changes_alike : (d : Defs) (ls : Statements) (r : LockState) (s : TableState) (xs : List Step) → ls.takes ≡ in_table → AllByRecursion (InsertsRow ls.lines r) xs → changes d (asks ls r true) s xs ≡ changes d (asked_by ls.lines) s xs
changes_alike d ls r s [] takes w = refl
changes_alike d ls r s (x ∷ xs) takes w =
    ap (λ o. accepted_of d s o ++ changes d (asks ls r true) (stepped_by d s o) xs) (asks_alike ls r x takes w.0)
    ∙ ap (λ cs. accepted_of d s (asked_by ls.lines x) ++ cs) (changes_alike d ls r (stepped_by d s (asked_by ls.lines x)) xs takes w.1)

pub writes_alike : (d : Defs) (ls : Statements) (r : LockState) (s : TableState) (xs : List Step) → ls.takes ≡ in_table → AllByRecursion (InsertsRow ls.lines r) xs → writes_by d ls r true s xs ≡ inserts_said d (asked_by ls.lines) s xs
writes_alike d ls r s [] takes w = refl
writes_alike d ls r s (x ∷ xs) takes w =
    ap (λ said. said ++ writes_by d ls r true (stepped_by d s (asks ls r true x)) xs) (says_alike d ls r s x takes w.0)
    ∙ ap (λ o. reply_said in_table d x.line s (asked_by ls.lines x) ++ writes_by d ls r true (stepped_by d s o) xs) (asks_alike ls r x takes w.0)
    ∙ ap (λ said. reply_said in_table d x.line s (asked_by ls.lines x) ++ said) (writes_alike d ls r (stepped_by d s (asked_by ls.lines x)) xs takes w.1)

-- one run of inserts behind another
said_both : (d : Defs) (asked : Step → Option Change) (s : TableState) (xs ys : List Step) → inserts_said d asked s (xs ++ ys) ≡ inserts_said d asked s xs ++ inserts_said d asked (state_after d asked s xs) ys
said_both d asked s [] ys = refl
said_both d asked s (x ∷ xs) ys =
    ap (λ more. reply_said in_table d x.line s (asked x) ++ more) (said_both d asked (stepped_by d s (asked x)) xs ys)
    ∙ sym (append_assoc (reply_said in_table d x.line s (asked x)) (inserts_said d asked (stepped_by d s (asked x)) xs) (inserts_said d asked (state_after d asked (stepped_by d s (asked x)) xs) ys))

-- What threads put and what is left of the inserts: of the state behind the rows that were put, these are the changes, the state and the
-- answers of all.
pub record AllInserted (d : Defs) (ls : List Line) (s : TableState) (inserts : List Step) (put : List Values) (rest : List Change) (after : TableState) (answers : List LineAnswer) : Type 0 where
  pub changes : changes d (asked_by ls) s inserts ≡ map insert_at_end put ++ rest
  pub state : state_after d (asked_by ls) s inserts ≡ after
  pub said : inserts_said d (asked_by ls) s inserts ≡ answers

pub all_inserted : (d : Defs) (ls : List Line) (s : TableState) (inserts : List Step) (w : WentRound) (put : List Values) → HaveInserted d ls s (take w.inserted inserts) put w.replies.items
    → AllInserted d ls s inserts put (changes d (asked_by ls) (with_rows d s put) (drop w.inserted inserts)) (state_after d (asked_by ls) (with_rows d s put) (drop w.inserted inserts))
    (map said_of w.replies.items ++ inserts_said d (asked_by ls) (with_rows d s put) (drop w.inserted inserts))
all_inserted d ls s inserts w put h =
    let a = asked_by ls in
    let xs = take w.inserted inserts in
    let ys = drop w.inserted inserts in
    let parts : xs ++ ys ≡ inserts = take_drop w.inserted inserts in
    record {
      changes = ap (changes d a s) (sym parts) ∙ changes_both d a s xs ys ∙ ap (λ cs. cs ++ changes d a (state_after d a s xs) ys) h.put ∙ ap (λ (t : TableState). map insert_at_end put ++ changes d a t ys) h.state;
      state = ap (state_after d a s) (sym parts) ∙ state_both d a s xs ys ∙ ap (λ (t : TableState). state_after d a t ys) h.state;
      said = ap (inserts_said d a s) (sym parts) ∙ said_both d a s xs ys ∙ ap (λ said. said ++ inserts_said d a (state_after d a s xs) ys) (sym h.said) ∙ ap (λ (t : TableState). map said_of w.replies.items ++ inserts_said d a t ys) h.state;
    }

-- ---- reads by their numbers

pub reads_both : (d : Defs) (ls : List Line) (states : ℕ → TableState) (xs ys : List Step) (ns ms : List ℕ) → length ns ≡ length xs → reads_by d ls states (xs ++ ys) (ns ++ ms) ≡ reads_by d ls states xs ns ++ reads_by d ls states ys ms
reads_both d ls states [] ys [] ms e = refl
reads_both d ls states [] ys (n ∷ ns) ms e = absurd (omega (arith, e))
reads_both d ls states (x ∷ xs) ys [] ms e = absurd (omega (arith, e))
reads_both d ls states (x ∷ xs) ys (n ∷ ns) ms e = ap (λ r. read_said d ls (states n) x.line n ∷ r) (reads_both d ls states xs ys ns ms (omega (arith, e)))

-- where the states are the same at these numbers
pub reads_same : (d : Defs) (ls : List Line) (states others : ℕ → TableState) (xs : List Step) (ns : List ℕ) → AllByRecursion (λ n. states n ≡ others n) ns → reads_by d ls states xs ns ≡ reads_by d ls others xs ns
reads_same d ls states others [] ns same = refl
reads_same d ls states others (x ∷ xs) [] same = refl
reads_same d ls states others (x ∷ xs) (n ∷ ns) same = ap (λ (s : TableState). read_said d ls s x.line n ∷ reads_by d ls states xs ns) same.0 ∙ ap (λ r. read_said d ls (others n) x.line n ∷ r) (reads_same d ls states others xs ns same.1)

-- the same number for each step
abbrev each_number : ℕ → List Step → List ℕ
each_number n xs = map (λ (x : Step). n) xs

all_number : (P : ℕ → Type 0) (n : ℕ) (xs : List Step) → P n → AllByRecursion P (each_number n xs)
all_number P n [] p = tt
all_number P n (x ∷ xs) p = (p, all_number P n xs p)

rises_on : (low high : ℕ) (ns : List ℕ) (xs : List Step) → low ≤ high → RisesFrom low ns → AllByRecursion (λ n. n ≤ high) ns → RisesFrom low (ns ++ each_number high xs)
rises_on low high [] [] le rises below = tt
rises_on low high [] (x ∷ xs) le rises below = (le, rises_on high high [] xs (omega arith) tt tt)
rises_on low high (n ∷ ns) xs le rises below = (rises.0, rises_on n high ns xs below.0 rises.1 below.1)

-- reads that are done here, all by one number
rest_reads : (d : Defs) (ls : Statements) (views : ℕ → view.Snapshot) (s : Standing) (states : ℕ → TableState) (session number : ℕ) (xs : List Step) → ls.takes ≡ in_table → AllByRecursion (λ (x : Step). x.session ≡ session) xs
    → ((a : Option Act) → read_answer in_table d (views session) s a ≡ rows (found d (states number) a) number)
    → map (read_by d ls views s) xs ≡ reads_by d ls.lines states xs (each_number number xs)
rest_reads d ls views s states session number [] takes own same = refl
rest_reads d ls views s states session number (x ∷ xs) takes own same =
    let a = act_of ls.lines x.line in
    let one : read_answer ls.takes d (views x.session) s a ≡ rows (found d (states number) a) number =
    ap (λ (k : Taking). read_answer k d (views x.session) s a) takes ∙ ap (λ n. read_answer in_table d (views n) s a) own.0 ∙ same a in
    ap (λ q. answer_on x.line q ∷ map (read_by d ls views s) xs) one
    ∙ ap (λ r. read_said d ls.lines (states number) x.line number ∷ r) (rest_reads d ls views s states session number xs takes own.1 same)

-- ---- rows before a place

before_less : (place end : ℕ) (rs : List StoredRow) → place ≤ end → rows_before place (rows_before end rs) ≡ rows_before place rs
before_less place end [] le = refl
before_less place end (r ∷ rs) le = by_end (nat_lt r.at end) refl (nat_lt r.at place) refl (before_less place end rs le)
  where
    lower : (a b c : ℕ) → nat_lt a b ≡ true → b ≤ c → nat_lt a c ≡ true
    lower a b c l le = grind (arith, nat_tests)

    by_end : (b : Bool) → nat_lt r.at end ≡ b → (c : Bool) → nat_lt r.at place ≡ c → rows_before place (rows_before end rs) ≡ rows_before place rs → rows_before place (rows_before end (r ∷ rs)) ≡ rows_before place (r ∷ rs)
    by_end true is true low more = rw (is, low) (ap (λ q. r ∷ q) more)
    by_end true is false low more = rw (is, low) more
    by_end false is true low more = absurd (let k = lower r.at place end low le in let j : true ≡ false = sym k ∙ is in cc)
    by_end false is false low more = rw (is, low) more

-- a table with inserts behind its end has the same rows before an earlier place
earlier_stays : (d : Defs) (s : TableState) (place : ℕ) (cs : List Change) → IsSound d → IsState d s → AreAppends d cs → place ≤ s.space.end → rows_before place (replay d s cs).rows ≡ rows_before place s.rows
earlier_stays d s place cs sound state are le =
    sym (before_less place s.space.end (replay d s cs).rows le) ∙ ap (rows_before place) (appends_stand_behind d s cs sound state are)

-- ---- one run

-- the reads of a run, on threads and here
pub record RunDone (d : Defs) (ls : List Line) (p : RunState) (seen : ℕ → ℕ → TableState) (behind : ℕ) (run : Run) (noted : List LineText) : Type 0 where
  pub numbers : List ℕ
  pub fit : RunIsFit p behind run numbers
  pub texts : noted ≡ texts_of (reads_by d ls (seen run.session) run.steps numbers)

-- what stands behind the inserts of a round
pub record StandsNow (d : Defs) (ls : Statements) (p q : RunState) (s : TableState) (now : Standing) (put : List Values) (more : List Change) : Type 0 where
  pub takes : ls.takes ≡ in_table
  pub sound : IsSound d
  pub state : IsState d s
  pub same : q ≡ record p { number = q.number; texts = q.texts }
  pub number : q.number ≡ p.number + length (map insert_at_end put ++ more)
  pub table : now.table ≡ replay d s (map insert_at_end put ++ more)

join_run : (d : Defs) (ls : List Line) (states : ℕ → TableState) (xs ys all : List Step) (ns ms : List ℕ) (noted : List LineText) (rest : List LineAnswer) → xs ++ ys ≡ all → length ns ≡ length xs → noted ≡ texts_of (reads_by d ls states xs ns) → rest ≡ reads_by d ls states ys ms
    → noted ++ texts_of rest ≡ texts_of (reads_by d ls states all (ns ++ ms))
join_run d ls states xs ys all ns ms noted rest parts each first second =
    ap (λ t. t ++ texts_of rest) first ∙ ap (λ r. texts_of (reads_by d ls states xs ns) ++ texts_of r) second
    ∙ sym (map-append text_of (reads_by d ls states xs ns) (reads_by d ls states ys ms)) ∙ ap texts_of (sym (reads_both d ls states xs ys ns ms each)) ∙ ap (λ zs. texts_of (reads_by d ls states zs (ns ++ ms))) parts

join_each : (xs ys all : List Step) (ns : List ℕ) (n : ℕ) → xs ++ ys ≡ all → length ns ≡ length xs → length (ns ++ each_number n ys) ≡ length all
join_each xs ys all ns n parts each =
    let a = length-append ns (each_number n ys) in
    let b = length-map ys (λ (x : Step). n) in
    let c = length-append xs ys in
    let e = ap length parts in
    omega (arith, a, b, c, e, each)

drop_own : (session : ℕ) (k : ℕ) (xs : List Step) → AllByRecursion (λ (x : Step). (is_read x.kind ≡ true) × (x.session ≡ session)) xs → AllByRecursion (λ (x : Step). x.session ≡ session) (drop k xs)
drop_own session k xs own = all_drop (λ (x : Step). x.session ≡ session) k xs (all_weaker (λ (x : Step). (is_read x.kind ≡ true) × (x.session ≡ session)) (λ (x : Step). x.session ≡ session) xs (λ x h. h.1) own)

-- in a session that holds no lock
seen_free : (d : Defs) (p : RunState) (s : TableState) (early : ℕ → TableState) (put : List Values) (more : List Change) (session n : ℕ) → reads_only p.locks session ≡ false → n ≤ p.number + length put
    → state_at d s p.number put n ≡ seen_at d p s early (map insert_at_end put ++ more) session n
seen_free d p s early put more session n free le =
    let k = n - p.number in
    let long = length-map put insert_at_end in
    let first : take k (map insert_at_end put ++ more) ≡ map insert_at_end (take k put) = take_first (map insert_at_end put) more k (omega (arith, le, long)) ∙ sym (take_mapped insert_at_end k put) in
    rw free (ap (replay d s) (sym first))

all_free : (d : Defs) (p : RunState) (s : TableState) (early : ℕ → TableState) (put : List Values) (more : List Change) (session : ℕ) (ns : List ℕ) → reads_only p.locks session ≡ false → AllByRecursion (λ n. n ≤ p.number + length put) ns
    → AllByRecursion (λ n. state_at d s p.number put n ≡ seen_at d p s early (map insert_at_end put ++ more) session n) ns
all_free d p s early put more session ns free below = all_weaker _ _ ns (λ n le. seen_free d p s early put more session n free le) below

free_done : (d : Defs) (ls : Statements) (p q : RunState) (s : TableState) (now : Standing) (early : ℕ → TableState) (put : List Values) (more : List Change) (run : Run) (k : ℕ) (noted : List LineText)
    → StandsNow d ls p q s now put more → IsRunOf is_read run → reads_only p.locks run.session ≡ false
    → AreRead d ls.lines (state_at d s p.number put) (RiseWithin p.number (p.number + length put)) (take k run.steps) noted
    → RunDone d ls.lines p (seen_at d p s early (map insert_at_end put ++ more)) q.number run (noted ++ texts_of (map (read_by d ls (seen_by q) now) (drop k run.steps)))
free_done d ls p q s now early put more run k noted w own free read =
    let h = map insert_at_end put ++ more in
    let seen = seen_at d p s early h in
    let xs = take k run.steps in
    let ys = drop k run.steps in
    let ns = read.numbers in
    let parts : xs ++ ys ≡ run.steps = take_drop k run.steps in
    let long : length h ≡ length put + length more = length-append (map insert_at_end put) more ∙ ap (λ n. n + length more) (length-map put insert_at_end) in
    let behind = w.number in
    let high : AllByRecursion (λ n. n ≤ q.number) ns = all_weaker (λ n. n ≤ p.number + length put) (λ n. n ≤ q.number) ns (λ n le. omega (arith, le, behind, long)) read.fit.1 in
    let held : reads_only q.locks run.session ≡ false = ap (λ (z : RunState). reads_only z.locks run.session) w.same ∙ free in
    let last : seen run.session q.number ≡ now.table =
    rw free (ap (replay d s) (take_all h (q.number - p.number) (omega (arith, behind))) ∙ sym w.table) in
    let first : noted ≡ texts_of (reads_by d ls.lines (seen run.session) xs ns) =
    read.texts ∙ ap texts_of (reads_same d ls.lines (state_at d s p.number put) (seen run.session) xs ns (all_free d p s early put more run.session ns free read.fit.1)) in
    let rest : map (read_by d ls (seen_by q) now) ys ≡ reads_by d ls.lines (seen run.session) ys (each_number q.number ys) =
    rest_reads d ls (seen_by q) now (seen run.session) run.session q.number ys w.takes (drop_own run.session k run.steps own) (λ a. rw held (ap (λ (t : TableState). rows (found d t a) q.number) (sym last))) in
    record {
      numbers = ns ++ each_number q.number ys;
      fit = record {
        each = join_each xs ys run.steps ns q.number parts read.each;
        bounds = rw free (
          rises_on p.number q.number ns ys (omega (arith, behind)) read.fit.0 high,
          all_join (λ n. n ≤ q.number) ns (each_number q.number ys) high (all_number (λ n. n ≤ q.number) q.number ys (omega arith)),
        );
      };
      texts = join_run d ls.lines (seen run.session) xs ys run.steps ns (each_number q.number ys) noted (map (read_by d ls (seen_by q) now) ys) parts read.each first rest;
    }

-- in one that holds READ or READ LOCAL
locked_done : (d : Defs) (ls : Statements) (p q : RunState) (s : TableState) (now : Standing) (early : ℕ → TableState) (put : List Values) (more : List Change) (run : Run) (k : ℕ) (noted : List LineText)
    → StandsNow d ls p q s now put more → IsRunOf is_read run → reads_only p.locks run.session ≡ true
    → IsEarlier d s (snapshot_of (p.taken run.session)) (early run.session) → AreAppends d (map insert_at_end put ++ more)
    → AreRead d ls.lines (λ n. early run.session) (AllAre (p.taken run.session).number) (take k run.steps) noted
    → RunDone d ls.lines p (seen_at d p s early (map insert_at_end put ++ more)) q.number run (noted ++ texts_of (map (read_by d ls (seen_by q) now) (drop k run.steps)))
locked_done d ls p q s now early put more run k noted w own locked was appends read =
    let h = map insert_at_end put ++ more in
    let seen = seen_at d p s early h in
    let taken = p.taken run.session in
    let xs = take k run.steps in
    let ys = drop k run.steps in
    let ns = read.numbers in
    let parts : xs ++ ys ≡ run.steps = take_drop k run.steps in
    let held : reads_only q.locks run.session ≡ true = ap (λ (z : RunState). reads_only z.locks run.session) w.same ∙ locked in
    let same_taken : q.taken run.session ≡ taken = ap (λ (z : RunState). z.taken run.session) w.same in
    let seen_is : (n : ℕ) → seen run.session n ≡ early run.session = λ n. rw locked refl in
    let before : (early run.session).rows ≡ rows_before taken.length now.table.rows =
    was.rows ∙ sym (earlier_stays d s taken.length h w.sound w.state appends was.within) ∙ ap (λ (t : TableState). rows_before taken.length t.rows) (sym w.table) in
    let view_is : seen_by q run.session ≡ record { number = taken.number; below = Some taken.length } = rw held (ap (λ (t : Taken). record { number = t.number; below = Some t.length }) same_taken) in
    let answer : (a : Option Act) → read_answer in_table d (seen_by q run.session) now a ≡ rows (found d (seen run.session taken.number) a) taken.number =
    λ a. ap (λ (v : view.Snapshot). read_answer in_table d v now a) view_is ∙ ap (λ rs. rows rs taken.number) (sym (finds_before d now.table (early run.session) a taken.length before)) ∙ ap (λ (t : TableState). rows (found d t a) taken.number) (sym (seen_is taken.number)) in
    let first : noted ≡ texts_of (reads_by d ls.lines (seen run.session) xs ns) =
    read.texts ∙ ap texts_of (reads_same d ls.lines (λ n. early run.session) (seen run.session) xs ns (all_weaker (λ n. n ≡ taken.number) (λ n. early run.session ≡ seen run.session n) ns (λ n e. sym (seen_is n)) read.fit)) in
    let rest : map (read_by d ls (seen_by q) now) ys ≡ reads_by d ls.lines (seen run.session) ys (each_number taken.number ys) =
    rest_reads d ls (seen_by q) now (seen run.session) run.session taken.number ys w.takes (drop_own run.session k run.steps own) answer in
    record {
      numbers = ns ++ each_number taken.number ys;
      fit = record {
        each = join_each xs ys run.steps ns taken.number parts read.each;
        bounds = rw locked (all_join (λ n. n ≡ taken.number) ns (each_number taken.number ys) read.fit (all_number (λ n. n ≡ taken.number) taken.number ys refl));
      };
      texts = join_run d ls.lines (seen run.session) xs ys run.steps ns (each_number taken.number ys) noted (map (read_by d ls (seen_by q) now) ys) parts read.each first rest;
    }

run_done : (d : Defs) (ls : Statements) (p q : RunState) (s : TableState) (now : Standing) (early : ℕ → TableState) (put : List Values) (more : List Change) (run : Run) (k : ℕ) (noted : List LineText)
    → StandsNow d ls p q s now put more → IsRunOf is_read run
    → ((n : ℕ) → reads_only p.locks n ≡ true → IsEarlier d s (snapshot_of (p.taken n)) (early n)) → ((n : ℕ) → reads_only p.locks n ≡ true → AreAppends d (map insert_at_end put ++ more))
    → RunSaid d ls.lines s p.number put (taken_of p run.session) (take k run.steps) noted
    → RunDone d ls.lines p (seen_at d p s early (map insert_at_end put ++ more)) q.number run (noted ++ texts_of (map (read_by d ls (seen_by q) now) (drop k run.steps)))
run_done d ls p q s now early put more run k noted w own was appends said = by_lock (reads_only p.locks run.session) refl said
  where
    by_lock : (b : Bool) → reads_only p.locks run.session ≡ b → RunSaid d ls.lines s p.number put (cond b (Some (snapshot_of (p.taken run.session))) None) (take k run.steps) noted
        → RunDone d ls.lines p (seen_at d p s early (map insert_at_end put ++ more)) q.number run (noted ++ texts_of (map (read_by d ls (seen_by q) now) (drop k run.steps)))
    by_lock true locked said = locked_done d ls p q s now early put more run k noted w own locked (was run.session locked) (appends run.session locked) (said (early run.session) (was run.session locked))
    by_lock false free said = free_done d ls p q s now early put more run k noted w own free said

-- ---- all runs

-- what all runs say, and the texts that are noted of it
pub record AllSaid (d : Defs) (ls : List Line) (p : RunState) (seen : ℕ → ℕ → TableState) (behind : ℕ) (runs : List Run) (noted : List LineText) : Type 0 where
  pub numbers : List ℕ
  pub said : List LineAnswer
  pub reads : RunsSay d ls p seen behind runs numbers said
  pub texts : IsPermutation (texts_of said) noted

swap_middle : {X : Type 0} (a b c e : List X) → IsPermutation ((a ++ c) ++ (b ++ e)) ((a ++ b) ++ (c ++ e))
swap_middle a b c e =
    let inner : IsPermutation ((c ++ b) ++ e) ((b ++ c) ++ e) = IsPermutation-append_left e (c ++ b) (b ++ c) (IsPermutation-append_comm c b) in
    let outer : IsPermutation (a ++ ((c ++ b) ++ e)) (a ++ ((b ++ c) ++ e)) = IsPermutation-append_right a ((c ++ b) ++ e) ((b ++ c) ++ e) inner in
    let left : a ++ ((c ++ b) ++ e) ≡ (a ++ c) ++ (b ++ e) = ap (λ r. a ++ r) (append_assoc c b e) ∙ sym (append_assoc a c (b ++ e)) in
    let right : a ++ ((b ++ c) ++ e) ≡ (a ++ b) ++ (c ++ e) = ap (λ r. a ++ r) (append_assoc b c e) ∙ sym (append_assoc a b (c ++ e)) in
    subst (λ r. IsPermutation r ((a ++ b) ++ (c ++ e))) left (subst (λ r. IsPermutation (a ++ ((c ++ b) ++ e)) r) right outer)

pub all_said : (d : Defs) (ls : Statements) (p q : RunState) (s : TableState) (now : Standing) (early : ℕ → TableState) (put : List Values) (more : List Change) (runs : List Run) (went : List WentReads)
    → StandsNow d ls p q s now put more → AllByRecursion (IsRunOf is_read) runs
    → ((n : ℕ) → reads_only p.locks n ≡ true → IsEarlier d s (snapshot_of (p.taken n)) (early n)) → ((n : ℕ) → reads_only p.locks n ≡ true → AreAppends d (map insert_at_end put ++ more))
    → EachRunSaid d ls.lines p s put runs went
    → AllSaid d ls.lines p (seen_at d p s early (map insert_at_end put ++ more)) q.number runs (texts_in went ++ texts_of (map (read_by d ls (seen_by q) now) (flat_map (λ (r : Run). r.steps) (runs_left runs went))))
all_said d ls p q s now early put more [] [] w own was appends said = record { numbers = []; said = []; reads = (refl, refl); texts = IsPermutation-refl [] }
all_said d ls p q s now early put more [] (x ∷ went) w own was appends said = absurd said
all_said d ls p q s now early put more (run ∷ runs) [] w own was appends said = absurd said
all_said d ls p q s now early put more (run ∷ runs) (x ∷ went) w own was appends said =
    let seen = seen_at d p s early (map insert_at_end put ++ more) in
    let one = run_done d ls p q s now early put more run x.done x.texts w own.0 was appends said.0 in
    let others = all_said d ls p q s now early put more runs went w own.1 was appends said.1 in
    let f = read_by d ls (seen_by q) now in
    let here = texts_of (map f (drop x.done run.steps)) in
    let left : List Step = flat_map (λ (r : Run). r.steps) (runs_left runs went) in
    let there = texts_of (map f left) in
    let own_said = reads_by d ls.lines (seen run.session) run.steps one.numbers in
    let both : texts_of (map f (drop x.done run.steps ++ left)) ≡ here ++ there = ap texts_of (map-append f (drop x.done run.steps) left) ∙ map-append text_of (map f (drop x.done run.steps)) (map f left) in
    let split : texts_of (own_said ++ others.said) ≡ (x.texts ++ here) ++ texts_of others.said = map-append text_of own_said others.said ∙ ap (λ t. t ++ texts_of others.said) (sym one.texts) in
    let first : IsPermutation ((x.texts ++ here) ++ texts_of others.said) ((x.texts ++ here) ++ (texts_in went ++ there)) = IsPermutation-append_right (x.texts ++ here) (texts_of others.said) (texts_in went ++ there) others.texts in
    let second : IsPermutation ((x.texts ++ here) ++ (texts_in went ++ there)) ((x.texts ++ texts_in went) ++ (here ++ there)) = swap_middle x.texts (texts_in went) here there in
    record {
      numbers = one.numbers ++ others.numbers;
      said = own_said ++ others.said;
      reads = (one.numbers, others.numbers, others.said, refl, refl, one.fit, others.reads);
      texts = subst (λ t. IsPermutation t ((x.texts ++ texts_in went) ++ texts_of (map f (drop x.done run.steps ++ left)))) (sym split)
          (subst (λ t. IsPermutation ((x.texts ++ here) ++ texts_of others.said) ((x.texts ++ texts_in went) ++ t)) (sym both)
          (IsPermutation-trans ((x.texts ++ here) ++ texts_of others.said) ((x.texts ++ here) ++ (texts_in went ++ there)) ((x.texts ++ texts_in went) ++ (here ++ there)) first second));
    }

-- ---- a round

swap_last : {X : Type 0} (a b c : List X) → IsPermutation ((a ++ c) ++ b) ((a ++ b) ++ c)
swap_last a b c =
    let inner : IsPermutation (a ++ (c ++ b)) (a ++ (b ++ c)) = IsPermutation-append_right a (c ++ b) (b ++ c) (IsPermutation-append_comm c b) in
    subst (λ r. IsPermutation r ((a ++ b) ++ c)) (sym (append_assoc a c b)) (subst (λ r. IsPermutation (a ++ (c ++ b)) r) (sym (append_assoc a b c)) inner)

-- the texts of a round, in the order in which they were noted
noted_in_order : (old noted reads put rest left : List LineText) (said : List LineAnswer) → IsPermutation (texts_of said) (reads ++ left) → noted ≡ (((old ++ (reads ++ put)) ++ rest) ++ left)
    → (answers : List LineAnswer) → texts_of answers ≡ put ++ rest → IsPermutation (old ++ texts_of (said ++ answers)) noted
noted_in_order old noted reads put rest left said perm is answers are =
    let all : texts_of (said ++ answers) ≡ texts_of said ++ (put ++ rest) = map-append text_of said answers ∙ ap (λ t. texts_of said ++ t) are in
    let first : IsPermutation (texts_of said ++ (put ++ rest)) ((reads ++ left) ++ (put ++ rest)) = IsPermutation-append_left (put ++ rest) (texts_of said) (reads ++ left) perm in
    let both : IsPermutation (texts_of said ++ (put ++ rest)) ((reads ++ (put ++ rest)) ++ left) =
    IsPermutation-trans (texts_of said ++ (put ++ rest)) ((reads ++ left) ++ (put ++ rest)) ((reads ++ (put ++ rest)) ++ left) first (swap_last reads (put ++ rest) left) in
    let behind : IsPermutation (old ++ (texts_of said ++ (put ++ rest))) (old ++ ((reads ++ (put ++ rest)) ++ left)) = IsPermutation-append_right old (texts_of said ++ (put ++ rest)) ((reads ++ (put ++ rest)) ++ left) both in
    let order : old ++ ((reads ++ (put ++ rest)) ++ left) ≡ noted =
    sym (append_assoc old (reads ++ (put ++ rest)) left) ∙ ap (λ t. t ++ left) (sym (append_assoc old reads (put ++ rest)) ∙ sym (append_assoc (old ++ reads) put rest) ∙ ap (λ t. t ++ rest) (append_assoc old reads put)) ∙ sym is in
    subst (λ t. IsPermutation (old ++ texts_of (said ++ answers)) t) order (subst (λ t. IsPermutation (old ++ t) (old ++ ((reads ++ (put ++ rest)) ++ left))) (sym all) behind)

-- What was noted of threads, then the inserts that were left, and then the reads that were left, is the round.
pub beside_done : (d : Defs) (ls : Statements) (p one two new : RunState) (s : Standing) (inserts : List Step) (runs : List Run) (w : WentRound) (half mid next : Option Holding) (first second table : Target)
    → ls.takes ≡ in_table → IsSound d → (g : HaveGone d ls.lines p s inserts runs w half first)
    → one ≡ record p { number = one.number; texts = one.texts } → one.number ≡ p.number + w.made → one.texts ≡ p.texts ++ noted_of w
    → two ≡ record one { number = two.number; texts = two.texts }
    → AreDone d ls true one (moved s (with_rows d s.table g.rows)) (drop w.inserted inserts) (writes_by d ls one.locks true (with_rows d s.table g.rows) (drop w.inserted inserts)) mid second two
    → new ≡ record two { texts = new.texts }
    → ((now : Standing) → HoldsThen mid second now → HoldsThen next table now)
    → ((now : Standing) → HoldsThen mid second now → new.texts ≡ two.texts ++ texts_of (map (read_by d ls (seen_by two) now) (flat_map (λ (r : Run). r.steps) (runs_left runs w.reads.items))))
    → BesideEachOther d ls.lines p s inserts runs next table new
beside_done d ls p one two new s inserts runs w half mid next first second table takes sound g only counted noted again done last still read = λ early goes.
    let a = asked_by ls.lines in
    let base = with_rows d s.table g.rows in
    let ys = drop w.inserted inserts in
    let more = changes d a base ys in
    let all = all_inserted d ls.lines s.table inserts w g.rows g.inserted in
    let locks : one.locks ≡ p.locks = ap (λ (z : RunState). z.locks) only in
    let left : AllByRecursion (InsertsRow ls.lines one.locks) ys = subst (λ (r : LockState). AllByRecursion (InsertsRow ls.lines r) ys) (sym locks) (all_drop (InsertsRow ls.lines p.locks) w.inserted inserts goes.inserts) in
    let now : Standing = moved s (state_after d a s.table inserts) in
    let then : HoldsThen mid second now = subst (λ (t : TableState). HoldsThen mid second (moved s t)) (states_alike d ls one.locks base ys takes left ∙ sym all.state) done.state in
    let long = ap length all.changes ∙ length-append (map insert_at_end g.rows) more ∙ ap (λ n. n + length more) (length-map g.rows insert_at_end) in
    let both = length-append (map insert_at_end g.rows) more ∙ ap (λ n. n + length more) (length-map g.rows insert_at_end) in
    let rest_is = ap length (changes_alike d ls one.locks base ys takes left) in
    let done_number = done.number in
    let made = g.made in
    let same : two ≡ record p { number = two.number; texts = two.texts } = again ∙ ap (λ (z : RunState). record z { number = two.number; texts = two.texts }) only in
    let stands : StandsNow d ls p two s.table now g.rows more = record {
      takes = takes;
      sound = sound;
      state = goes.state;
      same = same;
      number = omega (arith, done_number, counted, made, rest_is, both);
      table = sym (replay_changes d a s.table inserts) ∙ ap (replay d s.table) all.changes;
    } in
    let appends : (n : ℕ) → reads_only p.locks n ≡ true → AreAppends d (map insert_at_end g.rows ++ more) = λ n locked. subst (AreAppends d) all.changes (goes.appends n locked) in
    let said = all_said d ls p two s.table now early g.rows more runs w.reads.items stands goes.runs goes.early appends g.reads in
    let number_same : new.number ≡ two.number = ap (λ (z : RunState). z.number) last in
    let left_read = texts_of (map (read_by d ls (seen_by two) now) (flat_map (λ (r : Run). r.steps) (runs_left runs w.reads.items))) in
    let put = texts_of (map said_of w.replies.items) in
    let rest = texts_of (writes_by d ls one.locks true base ys) in
    let order : new.texts ≡ (((p.texts ++ (texts_in w.reads.items ++ put)) ++ rest) ++ left_read) = read now then ∙ ap (λ t. t ++ left_read) (done.texts ∙ ap (λ t. t ++ rest) noted) in
    let answers : texts_of (inserts_said d a s.table inserts) ≡ put ++ rest =
    ap texts_of all.said ∙ map-append text_of (map said_of w.replies.items) (inserts_said d a base ys) ∙ ap (λ q. put ++ texts_of q) (sym (writes_alike d ls one.locks base ys takes left)) in
    record {
      state = still now then;
      number = omega (arith, number_same, done_number, counted, made, rest_is, long);
      numbers = said.numbers;
      said = said.said;
      reads = subst (λ n. RunsSay d ls.lines p (seen_at d p s.table early (changes d a s.table inserts)) n runs said.numbers said.said) (sym number_same)
          (subst (λ h. RunsSay d ls.lines p (seen_at d p s.table early h) two.number runs said.numbers said.said) (sym all.changes) said.reads);
      texts = noted_in_order p.texts new.texts (texts_in w.reads.items) put rest left_read said.said said.texts order (inserts_said d a s.table inserts) answers;
    }

-- of each state that the target stood for
pub done_all : {E : Type 0} (told half mid next : Option Holding) (old first second table : Target) (ls : Statements) (p one two new : RunState) (inserts rest : List Step) (runs left : List Run) (w : WentRound) (result : Result (Unit {0}) E)
    → ls.takes ≡ in_table → IsSound (defs_in old) → IfHolds told old (λ m s. HaveGone (defs_in old) ls.lines p s inserts runs w half first)
    → one ≡ record p { number = one.number; texts = one.texts } → one.number ≡ p.number + w.made → one.texts ≡ p.texts ++ noted_of w
    → two ≡ record one { number = two.number; texts = two.texts } → defs_in first ≡ defs_in old → rest ≡ drop w.inserted inserts
    → IfHolds half first (λ m s. AreDone (defs_in first) ls true one s rest (writes_by (defs_in first) ls one.locks true s.table rest) mid second two)
    → new ≡ record two { texts = new.texts } → StillHolds mid next second table → defs_in second ≡ defs_in old → left ≡ runs_left runs w.reads.items
    → OnOk result (IfHolds mid second (λ m s. new.texts ≡ two.texts ++ texts_of (map (read_by (defs_in second) ls (seen_by two) s) (flat_map (λ (r : Run). r.steps) left))))
    → OnOk result (IfHolds told old (λ m s. BesideEachOther (defs_in old) ls.lines p s inserts runs next table new))
done_all told half mid next old first second table ls p one two new inserts rest runs left w (Ok done) takes sound gone only counted noted again one_defs are written last still two_defs left_are read = λ m held s h.
    let g = gone m held s h in
    let d = defs_in old in
    let base = with_rows d s.table g.rows in
    let k = g.state in
    let there = written k.0 k.1 (moved s base) k.2 in
    let by_defs : AreDone d ls true one (moved s base) rest (writes_by d ls one.locks true base rest) mid second two = subst (λ (e : Defs). AreDone e ls true one (moved s base) rest (writes_by e ls one.locks true base rest) mid second two) one_defs there in
    let by_rest = subst (λ (xs : List Step). AreDone d ls true one (moved s base) xs (writes_by d ls one.locks true base xs) mid second two) are by_defs in
    beside_done d ls p one two new s inserts runs w half mid next first second table takes sound g only counted noted again by_rest last
    (λ now then. still then.0 then.1 now then.2)
    (λ now then. read then.0 then.1 now then.2 ∙ ap (λ (e : Defs). two.texts ++ texts_of (map (read_by e ls (seen_by two) now) (flat_map (λ (r : Run). r.steps) left))) two_defs
    ∙ ap (λ (rs : List Run). two.texts ++ texts_of (map (read_by d ls (seen_by two) now) (flat_map (λ (r : Run). r.steps) rs))) left_are)
done_all told half mid next old first second table ls p one two new inserts rest runs left w (Err f) takes sound gone only counted noted again one_defs are written last still two_defs left_are read = tt
