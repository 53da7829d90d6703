-- What the reads of a session said, where its reader knows more, and where one more is done.
use Rattle.std.proofs.Common.{◌≡◌, ℕ, zero, suc, ◌+◌, ◌-◌, ◌^◌, ◌<◌, ◌≤◌, List, [], ◌∷◌, ◌++◌, length, take, Option, Some, None, refl, sym, ap, subst, ◌∙◌, arith, length-append}
use Rattle.std.specs.Prelude.{sum_by}
use Rattle.std.specs.List.{AllByRecursion}
use Rattle.std.proofs.lemmas.List.{length-take, length-map, map-append, take-map}
use Rattle.std.proofs.lemmas.List.Sums.{sum_by-take-le}
use Rattle.myi_defs.specs.declared.types.Defs.{Defs}
use Rattle.myi_defs.specs.Sound.{IsSound}
use Rattle.myi_pack.specs.Packed.{Values}
use Rattle.myi_pack.specs.Spelling.{spelling}
use Rattle.myi_state.specs.State.{TableState}
use Rattle.myi_state.specs.Sound.{IsState}
use Rattle.myi_locks.specs.declared.steps.Step.{Step}
use Rattle.myi_script.specs.declared.types.Line.{Line}
use Rattle.myi_history.specs.Answers.{LineAnswer}
use Rattle.myi_history.specs.RoundTexts.{LineText, text_of, texts_of}
use Rattle.myi_history.specs.SideBySide.{RisesFrom}
use Rattle.myi_tail.specs.Prefix.{BeginsWith}
use Rattle.myi_snapshots.specs.declared.snapshot.Snapshot.{Snapshot}
use Rattle.myi_snapshots.specs.Appended.{AllFit, with_rows}
use Rattle.myi_snapshots.specs.Known.{known_rows, packed_rows, size_of, end_with}
use Rattle.myi_snapshots.specs.Seen.{IsTaken, state_at}
use Rattle.myi_snapshots.proofs.CallerLemmas.{first, kept, by_number, by_earlier}
use Rattle.myi_slots.specs.SlotFile.{SlotFile}
use Rattle.myi_readers.specs.declared.reader.TableReader.{TableReader}
use Rattle.myi_readers.specs.Reader.{AreKnown, IsSameReader, rows_known, end_known}
use Rattle.myi_rounds.specs.Reads.{IsSeen, IsEarlier, read_said, reads_by, AreRead, RiseWithin, AllAre}
use Rattle.myi_rounds.specs.ReadJob.{SaidBy}
use Rattle.myi_rounds.proofs.ReaderLemmas.{take_take}

-- ---- lists

all_turn : {X : Type 0} (P Q : X → Type 0) → ((x : X) → P x → Q x) → (xs : List X) → AllByRecursion P xs → AllByRecursion Q xs
all_turn P Q turn [] all = tt
all_turn P Q turn (x ∷ xs) all = (turn x all.0, all_turn P Q turn xs all.1)

all_end : {X : Type 0} (P : X → Type 0) (xs : List X) (x : X) → AllByRecursion P xs → P x → AllByRecursion P (xs ++ x ∷ [])
all_end P [] x all one = (one, tt)
all_end P (y ∷ xs) x all one = (all.0, all_end P xs x all.1 one)

rises_end : (low : ℕ) (ns : List ℕ) (n : ℕ) → RisesFrom low ns → AllByRecursion (λ m. m ≤ n) ns → low ≤ n → RisesFrom low (ns ++ n ∷ [])
rises_end low [] n rise all above = (above, tt)
rises_end low (m ∷ ns) n rise all above = (rise.0, rises_end m ns n rise.1 all.1 all.0)

-- ---- reads

reads_end : (d : Defs) (ls : List Line) (states : ℕ → TableState) (xs : List Step) (ns : List ℕ) (x : Step) (n : ℕ) → length ns ≡ length xs → reads_by d ls states (xs ++ x ∷ []) (ns ++ n ∷ []) ≡ reads_by d ls states xs ns ++ read_said d ls (states n) x.line n ∷ []
reads_end d ls states [] [] x n long = refl
reads_end d ls states [] (m ∷ ns) x n long = absurd (omega (arith, long))
reads_end d ls states (y ∷ xs) [] x n long = absurd (omega (arith, long))
reads_end d ls states (y ∷ xs) (m ∷ ns) x n long = ap (λ l. read_said d ls (states m) y.line m ∷ l) (reads_end d ls states xs ns x n (omega (arith, long)))

-- one read more
pub read_more : (d : Defs) (ls : List Line) (states : ℕ → TableState) (Fit More : List ℕ → Type 0) (steps : List Step) (x : Step) (n : ℕ) (old new : List LineText) → ((ns : List ℕ) → Fit ns → More (ns ++ n ∷ []))
    → new ≡ old ++ text_of (read_said d ls (states n) x.line n) ∷ [] → AreRead d ls states Fit steps old → AreRead d ls states More (steps ++ x ∷ []) new
read_more d ls states Fit More steps x n old new grow e a =
    let said : LineAnswer = read_said d ls (states n) x.line n in
    let one = length-append a.numbers (n ∷ []) in
    let two = length-append steps (x ∷ []) in
    record {
      numbers = a.numbers ++ n ∷ [];
      each = omega (arith, a.each, one, two);
      fit = grow a.numbers a.fit;
      texts = e ∙ ap (λ (l : List LineText). l ++ text_of said ∷ []) a.texts ∙ sym (map-append text_of (reads_by d ls states steps a.numbers) (said ∷ [])) ∙ ap texts_of (sym (reads_end d ls states steps a.numbers x n a.each));
    }

reads_same : (d : Defs) (ls : List Line) (states more : ℕ → TableState) (xs : List Step) (ns : List ℕ) → AllByRecursion (λ n. states n ≡ more n) ns → reads_by d ls states xs ns ≡ reads_by d ls more xs ns
reads_same d ls states more [] ns same = refl
reads_same d ls states more (x ∷ xs) [] same = refl
reads_same d ls states more (x ∷ xs) (n ∷ ns) same =
    ap (λ (s : TableState). read_said d ls s x.line n ∷ reads_by d ls states xs ns) same.0 ∙ ap (λ l. read_said d ls (more n) x.line n ∷ l) (reads_same d ls states more xs ns same.1)

-- ---- rows that a reader knew

pub first_fit : (d : Defs) (n : ℕ) (rows : List Values) → AllFit d rows → AllFit d (take n rows)
first_fit d zero rows fit = tt
first_fit d (suc n) [] fit = tt
first_fit d (suc n) (x ∷ xs) fit = (fit.0, first_fit d n xs fit.1)

-- where more rows are behind those, the reads say the same
pub rows_behind : (d : Defs) (ls : List Line) (base : TableState) (number k : ℕ) (rows : List Values) (steps : List Step) (texts : List LineText) → AreRead d ls (state_at d base number (take k rows)) (RiseWithin number (number + length (take k rows))) steps texts
    → AreRead d ls (state_at d base number rows) (RiseWithin number (number + length rows)) steps texts
rows_behind d ls base number k rows steps texts a =
    let long = length-take k rows in
    record {
      numbers = a.numbers;
      each = a.each;
      fit = (a.fit.0, all_turn (λ n. n ≤ number + length (take k rows)) (λ n. n ≤ number + length rows) (λ n le. omega (arith, le, long)) a.numbers a.fit.1);
      texts = a.texts ∙ ap texts_of (reads_same d ls (state_at d base number (take k rows)) (state_at d base number rows) steps a.numbers
          (all_turn (λ n. n ≤ number + length (take k rows)) (λ n. state_at d base number (take k rows) n ≡ state_at d base number rows n) (λ n le. ap (with_rows d base) (take_take (n - number) k rows (omega (arith, le, long)))) a.numbers a.fit.1));
    }

known_before : (r q : TableReader) (rows : List Values) → IsSameReader r q → BeginsWith q.seat.known r.seat.known → AreKnown q rows → AreKnown r (take (length (rows_known r)) rows)
known_before r q rows same more are =
    let k : ℕ = length (rows_known r) in
    let packed : known_rows r.defs q.seat.known ≡ packed_rows r.defs rows = subst (λ (d : Defs). known_rows d q.seat.known ≡ packed_rows d rows) same.defs are.packed in
    record {
      packed = first r.defs q.seat.known r.seat.known more ∙ ap (take k) packed ∙ take-map (spelling r.defs) k rows;
      fit = first_fit r.defs k rows (subst (λ (d : Defs). AllFit d rows) same.defs are.fit);
    }

end_before : (r q : TableReader) → IsSameReader r q → BeginsWith q.seat.known r.seat.known → end_known q < 2 ^ 64 → end_known r < 2 ^ 64
end_before r q same more small =
    let rows : rows_known r ≡ take (length (rows_known r)) (known_rows r.defs q.seat.known) = first r.defs q.seat.known r.seat.known more in
    let less = sum_by-take-le (size_of r.defs) (known_rows r.defs q.seat.known) (length (rows_known r)) in
    let sums = ap (sum_by (size_of r.defs)) rows in
    let ends : end_known q ≡ r.rows.rows.file.counts.length + sum_by (size_of r.defs) (known_rows r.defs q.seat.known) =
    ap (λ (d : Defs). end_with d q.rows.rows.file.counts.length (known_rows d q.seat.known)) same.defs ∙ ap (λ (f : SlotFile). end_with r.defs f.counts.length (known_rows r.defs q.seat.known)) same.file in
    omega (arith, small, less, sums, ends)

read_as : (r q : TableReader) (ls : List Line) (base : TableState) (known : List Values) (steps : List Step) (texts : List LineText) → IsSameReader r q → AreRead r.defs ls (state_at r.defs base r.number known) (RiseWithin r.number (r.number + length known)) steps texts
    → AreRead q.defs ls (state_at q.defs base q.number known) (RiseWithin q.number (q.number + length known)) steps texts
read_as r q ls base known steps texts same a =
    subst (λ (d : Defs). AreRead d ls (state_at d base q.number known) (RiseWithin q.number (q.number + length known)) steps texts) (sym same.defs)
    (subst (λ (n : ℕ). AreRead r.defs ls (state_at r.defs base n known) (RiseWithin n (n + length known)) steps texts) (sym same.number) a)

-- what was said stays right where the reader knows more
pub knows_more : (ls : List Line) (r q : TableReader) (base : TableState) (taken : Option Snapshot) (steps : List Step) (texts : List LineText) → IsSameReader r q → BeginsWith q.seat.known r.seat.known → SaidBy ls r base taken steps texts → SaidBy ls q base taken steps texts
knows_more ls r q base None steps texts same more said = λ known are small.
    let k : ℕ = length (rows_known r) in
    let a = said (take k known) (known_before r q known same more are) (end_before r q same more small) in
    read_as r q ls base known steps texts same (rows_behind r.defs ls base r.number k known steps texts a)
knows_more ls r q base (Some snap) steps texts same more said = λ known are s earlier.
    let k : ℕ = length (rows_known r) in
    let a = said (take k known) (known_before r q known same more are) s (subst (λ (d : Defs). IsEarlier d base snap s) same.defs earlier) in
    subst (λ (d : Defs). AreRead d ls (λ n. s) (AllAre snap.number) steps texts) (sym same.defs) a

-- ---- one more step

pub known_count : (r : TableReader) (rows : List Values) → AreKnown r rows → length (rows_known r) ≡ length rows
known_count r rows are = ap (λ (l : List (List ℕ)). length l) are.packed ∙ length-map rows (spelling r.defs)

-- a text is that of a read that sees a table of these rows by a snapshot
abbrev pub SaysSeen : List Line → TableReader → TableState → Snapshot → ℕ → List LineText → List LineText → Type 0
SaysSeen ls r base snap line old new =
    (known : List Values) → AreKnown r known → (s : TableState) → IsSeen r.defs base known snap s → new ≡ old ++ text_of (read_said r.defs ls s line snap.number) ∷ []

-- by a snapshot of this moment
pub said_now : (ls : List Line) (r : TableReader) (base : TableState) (snap : Snapshot) (steps : List Step) (x : Step) (old new : List LineText) → IsSound r.defs → IsState r.defs base
    → ((rows : List Values) → AreKnown r rows → end_known r < 2 ^ 64 → IsTaken r.defs base r.number rows snap) → snap.number ≡ r.number + length (rows_known r) → SaysSeen ls r base snap x.line old new
    → SaidBy ls r base None steps old → SaidBy ls r base None (steps ++ x ∷ []) new
said_now ls r base snap steps x old new sound state takes number says said = λ known are small.
    let d : Defs = r.defs in
    let s : TableState = state_at d base r.number known snap.number in
    let seen : IsSeen d base known snap s = record {
      state = kept d base (take (snap.number - r.number) known) sound state (first_fit d (snap.number - r.number) known are.fit);
      rows = sym (by_number d base r.number known snap sound state are.fit (takes known are small));
    } in
    let count = known_count r known are in
    let top : snap.number ≡ r.number + length known = omega (arith, number, count) in
    read_more d ls (state_at d base r.number known) (RiseWithin r.number (r.number + length known)) (RiseWithin r.number (r.number + length known)) steps x snap.number old new
    (λ ns fit. (
      rises_end r.number ns snap.number fit.0 (all_turn (λ n. n ≤ r.number + length known) (λ n. n ≤ snap.number) (λ n le. omega (arith, le, top)) ns fit.1) (omega (arith, top)),
      all_end (λ n. n ≤ r.number + length known) ns snap.number fit.1 (omega (arith, top)),
    ))
    (says known are s seen) (said known are small)

-- by the snapshot of the session's Take
pub said_then : (ls : List Line) (r : TableReader) (base : TableState) (snap : Snapshot) (steps : List Step) (x : Step) (old new : List LineText) → IsSound r.defs → IsState r.defs base → SaysSeen ls r base snap x.line old new
    → SaidBy ls r base (Some snap) steps old → SaidBy ls r base (Some snap) (steps ++ x ∷ []) new
said_then ls r base snap steps x old new sound state says said = λ known are s earlier.
    let d : Defs = r.defs in
    let seen : IsSeen d base known snap s = record {
      state = earlier.state;
      rows = earlier.rows ∙ sym (by_earlier d base known snap sound state are.fit earlier.within);
    } in
    read_more d ls (λ n. s) (AllAre snap.number) (AllAre snap.number) steps x snap.number old new (λ ns fit. all_end (λ n. n ≡ snap.number) ns snap.number fit refl) (says known are s seen) (said known are s earlier)

-- ---- one read more, by a reader

-- a read by the snapshot of the session's Take
pub next_then : (ls : List Line) (r q : TableReader) (base : TableState) (taken : Option Snapshot) (snap : Snapshot) (line : ℕ) (steps : List Step) (x : Step) (old new : List LineText) → taken ≡ Some snap → x.line ≡ line → IsSameReader r q
    → BeginsWith q.seat.known r.seat.known → IsSound r.defs → IsState r.defs base → SaysSeen ls r base snap line old new → SaidBy ls r base taken steps old → SaidBy ls q base taken (steps ++ x ∷ []) new
next_then ls r q base taken snap line steps x old new is at same more sound state says said =
    let says_x : SaysSeen ls r base snap x.line old new = subst (λ (n : ℕ). SaysSeen ls r base snap n old new) (sym at) says in
    let before : SaidBy ls r base (Some snap) steps old = subst (λ (t : Option Snapshot). SaidBy ls r base t steps old) is said in
    subst (λ (t : Option Snapshot). SaidBy ls q base t (steps ++ x ∷ []) new) (sym is)
    (knows_more ls r q base (Some snap) (steps ++ x ∷ []) new same more (said_then ls r base snap steps x old new sound state says_x before))

-- a read by a snapshot of this moment, for which the reader was locked
pub next_now : (ls : List Line) (r p q : TableReader) (base : TableState) (taken : Option Snapshot) (snap : Snapshot) (line : ℕ) (steps : List Step) (x : Step) (old new : List LineText) → taken ≡ None → x.line ≡ line
    → IsSameReader r p → BeginsWith p.seat.known r.seat.known → IsSameReader p q → BeginsWith q.seat.known p.seat.known → IsSound p.defs → IsState p.defs base
    → ((rows : List Values) → AreKnown p rows → end_known p < 2 ^ 64 → IsTaken r.defs base r.number rows snap) → snap.number ≡ r.number + length (rows_known p)
    → SaysSeen ls p base snap line old new → SaidBy ls r base taken steps old → SaidBy ls q base taken (steps ++ x ∷ []) new
next_now ls r p q base taken snap line steps x old new is at one front two more sound state takes number says said =
    let says_x : SaysSeen ls p base snap x.line old new = subst (λ (n : ℕ). SaysSeen ls p base snap n old new) (sym at) says in
    let before : SaidBy ls r base None steps old = subst (λ (t : Option Snapshot). SaidBy ls r base t steps old) is said in
    let takes_p : (rows : List Values) → AreKnown p rows → end_known p < 2 ^ 64 → IsTaken p.defs base p.number rows snap = λ rows are small.
    subst (λ (d : Defs). IsTaken d base p.number rows snap) (sym one.defs) (subst (λ (n : ℕ). IsTaken r.defs base n rows snap) (sym one.number) (takes rows are small)) in
    let number_p : snap.number ≡ p.number + length (rows_known p) = number ∙ ap (λ (n : ℕ). n + length (rows_known p)) (sym one.number) in
    subst (λ (t : Option Snapshot). SaidBy ls q base t (steps ++ x ∷ []) new) (sym is)
    (knows_more ls p q base None (steps ++ x ∷ []) new two more
    (said_now ls p base snap steps x old new sound state takes_p number_p says_x (knows_more ls r p base None steps old one front before)))
