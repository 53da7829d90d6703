-- What a reader finds for a statement is what the statement finds in the table that it sees.
use Rattle.std.proofs.Common.{◌≡◌, ◌<◌, ◌-◌, [], ◌∷◌, ◌++◌, ℕ, suc, List, map, length, Option, Some, Result, Ok, Err, refl, sym, ap, subst, ◌∙◌, arith}
use Rattle.std.specs.Prelude.{IfOk, IfErr, OnOk, OnErr}
use Rattle.myi_defs.specs.declared.types.Defs.{Defs}
use Rattle.myi_pack.specs.Packed.{Values}
use Rattle.myi_pair.specs.KeyList.{PlacedRow}
use Rattle.myi_state.specs.State.{StoredRow, TableState}
use Rattle.myi_tablestate.specs.Listed.{placed}
use Rattle.myi_tablestate.specs.Matching.{AreMatching}
use Rattle.myi_script.specs.declared.types.Line.{Line}
use Rattle.myi_script.specs.declared.types.Act.{Act}
use Rattle.myi_script.specs.declared.types.Act.TheVariants as act
use Rattle.myi_script.specs.declared.types.Range as script
use Rattle.myi_table.specs.declared.ranges.Range.{Range}
use Rattle.myi_table.specs.Reading.{bounds_of}
use Rattle.myi_history.specs.Lines.{IsRange, act_of}
use Rattle.myi_history.specs.Answers.{rows, answer_on, answer_text}
use Rattle.myi_history.specs.RoundTexts.{LineText, text_of}
use Rattle.myi_history.specs.Reads as reads
use Rattle.myi_history.specs.Reads.{found}
use Rattle.myi_history.proofs.CallerLemmas.{matching_once}
use Rattle.myi_snapshots.specs.declared.snapshot.Snapshot.{Snapshot}
use Rattle.myi_snapshots.specs.Seen.{seen_rows}
use Rattle.myi_readers.specs.Ranges.{AnswersSeen}
use Rattle.myi_rounds.specs.Reads.{table_range, IsSeen, read_said}

-- ---- answers

pub if_ok_by : {T E : Type 0} {P Q : T → Type 0} (r : Result T E) → ((x : T) → P x → Q x) → IfOk r P → IfOk r Q
if_ok_by (Ok x) turn is = turn x is
if_ok_by (Err e) turn is = tt

pub if_err_by : {T E : Type 0} {P Q : E → Type 0} (r : Result T E) → ((e : E) → P e → Q e) → IfErr r P → IfErr r Q
if_err_by (Ok x) turn is = tt
if_err_by (Err e) turn is = turn e is

pub on_err_by : {T E : Type 0} {P Q : Type 0} (r : Result T E) → (P → Q) → OnErr r P → OnErr r Q
on_err_by (Ok x) turn is = tt
on_err_by (Err e) turn is = turn is

pub on_ok_by : {T E : Type 0} {P Q : Type 0} (r : Result T E) → (P → Q) → OnOk r P → OnOk r Q
on_ok_by (Ok x) turn is = turn is
on_ok_by (Err e) turn is = tt

-- ---- what is found

-- the key of a range is one of the table
pub key_inside : (d : Defs) (r : script.Range) (q : Range) (places : ℕ) → q ≡ table_range r → places ≡ length d.keys → IsRange d r → q.key < places
key_inside d r q places is one range =
    let low = range.key.0 in
    let high = range.key.1 in
    let same : q.key ≡ r.key - 1 = ap (λ (x : Range). x.key) is in
    omega (arith, low, high, same, one)

pub scan_finds : (d : Defs) (base : TableState) (known : List Values) (snap : Snapshot) (s : TableState) (a : Act) (read : List (ℕ × Values)) → a ≡ act.Scan → IsSeen d base known snap s → read ≡ map placed (seen_rows d base known snap)
    → read ≡ found d s (Some a)
scan_finds d base known snap s a read is seen are =
    are ∙ ap (map placed) (sym seen.rows) ∙ ap (λ (x : Act). found d s (Some x)) (sym is)

key_back : (k : ℕ) → 0 < k → suc (k - 1) ≡ k
key_back k some = omega (arith, some)

pub range_finds : (d : Defs) (base : TableState) (known : List Values) (snap : Snapshot) (s : TableState) (a : Act) (r : script.Range) (q : Range) (read : List (ℕ × Values)) → a ≡ act.Over r → q ≡ table_range r → IsRange d r → IsSeen d base known snap s
    → AnswersSeen d base known snap q read → read ≡ found d s (Some a)
range_finds d base known snap s a r q read is asked range seen answers =
    let key : suc q.key ≡ r.key = ap (λ (x : Range). suc x.key) asked ∙ key_back r.key range.key.0 in
    let all : AreMatching d (suc q.key) (bounds_of q) s.rows answers.found = subst (λ (rs : List StoredRow). AreMatching d (suc q.key) (bounds_of q) rs answers.found) (sym seen.rows) answers.matching in
    let one : AreMatching d r.key (bounds_of q) s.rows answers.found = subst (λ k. AreMatching d k (bounds_of q) s.rows answers.found) key all in
    let two : AreMatching d r.key (reads.bounds_of r) s.rows answers.found = subst (λ (x : Range). AreMatching d r.key (bounds_of x) s.rows answers.found) asked one in
    let rows_are : answers.found ≡ reads.rows_between d r.key (reads.bounds_of r) s.rows = matching_once d s r.key (reads.bounds_of r) answers.found seen.state two in
    answers.rows ∙ ap (map placed) rows_are ∙ ap (λ (x : Act). found d s (Some x)) (sym is)

pub others_find : (d : Defs) (s : TableState) (a : Act) → (a ≡ act.Scan → ⊥) → ((r : script.Range) → a ≡ act.Over r → ⊥) → ◌≡◌ {A = List PlacedRow} [] (found d s (Some a))
others_find d s act.Scan scan over = absurd (scan refl)
others_find d s (act.Over range) scan over = absurd (over range refl)
others_find d s (act.Insert row) scan over = refl
others_find d s (act.Update at row) scan over = refl
others_find d s (act.Delete at) scan over = refl
others_find d s (act.Lock lock) scan over = refl
others_find d s act.Unlock scan over = refl
others_find d s act.Stats scan over = refl
others_find d s act.End scan over = refl

-- what was noted is what the read of the line says
pub said_found : (d : Defs) (ls : List Line) (s : TableState) (a : Act) (line number : ℕ) (seen : List PlacedRow) (old new : List LineText) → ◌≡◌ {A = Option Act} (Some a) (act_of ls line) → seen ≡ found d s (Some a)
    → new ≡ old ++ (line, answer_text line (rows seen number)) ∷ [] → new ≡ old ++ text_of (read_said d ls s line number) ∷ []
said_found d ls s a line number seen old new is are e =
    e ∙ ap (λ (rs : List PlacedRow). old ++ text_of (answer_on line (rows rs number)) ∷ []) (are ∙ ap (λ (o : Option Act). found d s o) is)
