-- The rows that were put: which of them a reader knows, and that they can be folded into the table.
use Rattle.std.proofs.Common.{◌≡◌, ℕ, List, [], ◌∷◌, ◌++◌, length, take, Option, Some, None, Ok, refl, sym, ap, subst, ◌∙◌, arith}
use Rattle.std.proofs.lemmas.List.{append-nil, take_all, length-map}
use Rattle.myi_defs.specs.declared.types.Defs.{Defs}
use Rattle.myi_defs.specs.Sound.{IsSound}
use Rattle.myi_pack.specs.Packed.{Values}
use Rattle.myi_pack.specs.Spelling.{spelling}
use Rattle.myi_state.specs.State.{TableState}
use Rattle.myi_state.specs.Changes.{Change, insert_at_end, accepted}
use Rattle.myi_state.specs.Sound.{MayCome}
use Rattle.myi_tablestate.specs.Keyed.{IsTable, KeyedRefusal, keyed_refusal, keyed_step, keyed_step_by, after_keyed}
use Rattle.myi_tail.specs.Prefix.{BeginsWith}
use Rattle.myi_tail.specs.Spelled.{spelled}
use Rattle.myi_table.specs.Folding.{appended, CanFold}
use Rattle.myi_snapshots.specs.Appended.{with_rows, AllFit, AllAreBytes}
use Rattle.myi_snapshots.specs.Known.{known_rows, packed_rows, words_of_rows, values_of}
use Rattle.myi_snapshots.proofs.CallerLemmas.{read, values}
use Rattle.myi_readers.specs.declared.reader.TableReader.{TableReader}
use Rattle.myi_readers.specs.Reader.{IsReader, AreKnown, rows_known}
use Rattle.myi_inserter.specs.declared.inserter.TableInserter.{TableInserter}
use Rattle.myi_inserter.specs.Inserter.{IsInserter, IsPut}

-- ---- what a reader knows

abbrev pub FirstKnown : Type 0
FirstKnown = (r : TableReader) (inserted : List Values) → IsReader r → AllFit r.defs inserted → AllAreBytes r.defs inserted → BeginsWith (words_of_rows r.defs inserted) r.seat.known → AreKnown r (take (length (rows_known r)) inserted)

none_known : (d : Defs) → known_rows d [] ≡ []
unfolding spelled
none_known d = refl

pub words_spell : (i : TableInserter) (rows : List Values) → IsInserter i rows → known_rows i.defs i.appender.words ≡ packed_rows i.defs rows
words_spell i rows is =
    let d : Defs = i.defs in
    ap (known_rows d) (is.words ∙ sym (append-nil (words_of_rows d rows))) ∙ read d rows [] is.sound is.fit is.bytes ∙ ap (λ (l : List (List ℕ)). packed_rows d rows ++ l) (none_known d) ∙ append-nil (packed_rows d rows)

pub values_are : (i : TableInserter) (rows : List Values) → IsInserter i rows → values_of i.defs (known_rows i.defs i.appender.words) ≡ rows
values_are i rows is = ap (values_of i.defs) (words_spell i rows is) ∙ values i.defs rows is.sound is.fit

pub first_put : FirstKnown → (i : TableInserter) (rows : List Values) (r : TableReader) → IsInserter i rows → IsReader r → r.defs ≡ i.defs → BeginsWith i.appender.words r.seat.known → AreKnown r (take (length (rows_known r)) rows)
first_put law i rows r is reader same front =
    law r rows reader (subst (λ (d : Defs). AllFit d rows) (sym same) is.fit) (subst (λ (d : Defs). AllAreBytes d rows) (sym same) is.bytes)
    (subst (λ (w : List ℕ). BeginsWith w r.seat.known) (is.words ∙ ap (λ (d : Defs). words_of_rows d rows) (sym same)) front)

pub all_put : FirstKnown → (i : TableInserter) (rows : List Values) (r : TableReader) → IsInserter i rows → IsReader r → r.defs ≡ i.defs → r.seat.known ≡ i.appender.words → AreKnown r rows
all_put law i rows r is reader same known =
    let front : BeginsWith i.appender.words r.seat.known = known ∙ sym (take_all (length r.seat.known) i.appender.words (let long = ap (λ (w : List ℕ). length w) known in omega (arith, long))) in
    let packed : rows_known r ≡ packed_rows i.defs rows = ap (λ (d : Defs). known_rows d r.seat.known) same ∙ ap (known_rows i.defs) known ∙ words_spell i rows is in
    let long : length (rows_known r) ≡ length rows = ap (λ (l : List (List ℕ)). length l) packed ∙ length-map rows (spelling i.defs) in
    subst (AreKnown r) (take_all (length (rows_known r)) rows (omega (arith, long))) (first_put law i rows r is reader same front)

-- ---- folding

abbrev pub Accepts : Type 0
Accepts = (d : Defs) (s : TableState) (c : Change) → keyed_refusal d s c ≡ None → ((keyed_step d s c).reply ≡ Ok (accepted d s c).at) × ((keyed_step d s c).state ≡ (accepted d s c).state)

-- a step that is accepted is not refused
free_of : (d : Defs) (s : TableState) (c : Change) (at : ℕ) → (keyed_step d s c).reply ≡ Ok at → keyed_refusal d s c ≡ None
unfolding keyed_step
free_of d s c at reply = by (keyed_refusal d s c) reply
  where
    by : (r : Option KeyedRefusal) → (keyed_step_by s (accepted d s c) r).reply ≡ Ok at → r ≡ None
    by None e = refl
    by (Some r) e = absurd cc

fold_more : Accepts → (d : Defs) (s : TableState) (rows : List Values) (row : Values) → CanFold d s rows → keyed_refusal d (with_rows d s rows) (insert_at_end row) ≡ None → CanFold d s (rows ++ row ∷ [])
fold_more accepts d s [] row can free = (free, tt)
fold_more accepts d s (x ∷ xs) row can free =
    let next : (keyed_step d s (insert_at_end x)).state ≡ (accepted d s (insert_at_end x)).state = (accepts d s (insert_at_end x) can.0).1 in
    (can.0, fold_more accepts d (keyed_step d s (insert_at_end x)).state xs row can.1 (subst (λ (t : TableState). keyed_refusal d (with_rows d t xs) (insert_at_end row) ≡ None) (sym next) free))

pub put_folds : Accepts → (d : Defs) (base : TableState) (rows : List Values) (row : Values) (at : ℕ) → CanFold d base rows → IsPut d base rows row at → CanFold d base (rows ++ row ∷ [])
put_folds accepts d base rows row at can put = fold_more accepts d base rows row can (free_of d (with_rows d base rows) (insert_at_end row) at put.reply)

pub folded : Accepts → (d : Defs) (base : TableState) (rows : List Values) → CanFold d base rows → after_keyed d base (appended rows) ≡ with_rows d base rows
folded accepts d base [] can = refl
folded accepts d base (x ∷ xs) can =
    let next : (keyed_step d base (insert_at_end x)).state ≡ (accepted d base (insert_at_end x)).state = (accepts d base (insert_at_end x) can.0).1 in
    folded accepts d (keyed_step d base (insert_at_end x)).state xs can.1 ∙ ap (λ (t : TableState). with_rows d t xs) next

abbrev pub KeepsTables : Type 0
KeepsTables = (d : Defs) (s : TableState) (c : Change) → IsSound d → MayCome d c → IsTable d s → IsTable d (keyed_step d s c).state

pub folded_table : Accepts → KeepsTables → (d : Defs) (base : TableState) (rows : List Values) → IsSound d → AllFit d rows → IsTable d base → CanFold d base rows → IsTable d (with_rows d base rows)
folded_table accepts keeps d base [] sound fit table can = table
folded_table accepts keeps d base (x ∷ xs) sound fit table can =
    let next : (keyed_step d base (insert_at_end x)).state ≡ (accepted d base (insert_at_end x)).state = (accepts d base (insert_at_end x) can.0).1 in
    subst (λ (t : TableState). IsTable d (with_rows d t xs)) next (folded_table accepts keeps d (keyed_step d base (insert_at_end x)).state xs sound fit.1 (keeps d base (insert_at_end x) sound fit.0 table) can.1)
