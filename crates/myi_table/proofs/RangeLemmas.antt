-- Reading the rows between bounds: one row more.
use Rattle.std.proofs.Common.{◌≡◌, ◌≢◌, ℕ, zero, suc, ◌+◌, ◌*◌, ◌<◌, ◌≤◌, Bool, false, Option, None, Err, List, [], ◌∷◌, ◌++◌, length, map, slice_index_or, refl, sym, ap, subst, ◌∙◌, arith, inr}
use Rattle.std.specs.Prelude.{IsTrue}
use Rattle.std.proofs.lemmas.Option.{same_Some}
use Rattle.myi_base.specs.Holding.{Holding, IfTold, Told}
use Rattle.myi_base.specs.Causes.{HasCause}
use Rattle.myi_defs.specs.declared.types.Defs.{Defs}
use Rattle.myi_defs.specs.Sound.{IsSound}
use Rattle.myi_pack.specs.Packed.{Values}
use Rattle.myi_keylist.specs.declared.pair.Pair.{Pair}
use Rattle.myi_data.specs.Readable.{readable}
use Rattle.myi_btree.specs.declared.fault.TreeFault.TheVariants as tree
use Rattle.myi_slots.specs.declared.fault.DataFault.TheVariants as read
use Rattle.myi_state.specs.State.{StoredRow, TableState}
use Rattle.myi_state.specs.Standing.{StandsFor, stored_row}
use Rattle.myi_pair.specs.FirstRows.{numbers_from}
use Rattle.myi_keytrees.specs.Trees.{Trees}
use Rattle.myi_keytrees.specs.Standing.{list_of, CanSearch}
use Rattle.myi_tablestate.specs.Listed.{listed}
use Rattle.myi_rowtrees.specs.RowLists.{lists_of}
use Rattle.myi_ranges.specs.declared.fault.RangeFault.{RangeFault}
use Rattle.myi_ranges.specs.declared.fault.RangeFault.TheVariants as range
use Rattle.myi_ranges.specs.declared.ranges.RangeRows.{RangeRows}
use Rattle.myi_ranges.specs.Ranges.{ReadsAhead, Answers, HasTable, ReadInFew, FailsInFew}
use Rattle.myi_ranges.specs.Ranges as ranges
use Rattle.myi_keyedrows.specs.KeyedRows.{IsFit}
use Rattle.myi_table.specs.declared.fault.Cause.{Cause}
use Rattle.myi_table.specs.declared.fault.ReadFault.{ReadFault}
use Rattle.myi_table.specs.declared.fault.ReadFault.TheVariants as reading
use Rattle.myi_table.specs.Faults.{of_range, NeverDamaged, IsBrokenFor}
use Rattle.myi_table.specs.Table.{OpenTable, defs_in, HoldState, IsKept, IfHolds, StillHolds}
use Rattle.myi_table.specs.Reading.{HasKey, IsAhead}
use Rattle.myi_table.proofs.ChangeLemmas.{told_before}
use Rattle.myi_table.proofs.CloseLemmas.{with_trees}

-- ---- the table of a reading

nth : (f : ℕ → List Pair) (at n k : ℕ) → k < n → slice_index_or (map f (numbers_from at n)) k [] ≡ f (at + k)
nth f at zero k lt = absurd (omega (arith, lt))
nth f at (suc n) zero lt = let e : at ≡ at + 0 = omega arith in ap f e
nth f at (suc n) (suc k) lt = let e : suc at + k ≡ at + suc k = omega arith in nth f (suc at) n k (omega (arith, lt)) ∙ ap f e

-- the list of a key
list_at : (d : Defs) (rows : List StoredRow) (k : ℕ) → k < length d.keys → list_of (lists_of d rows) k ≡ listed d (suc k) rows
list_at d rows k lt = let e : 1 + k ≡ suc k = omega arith in nth (λ (j : ℕ). listed d j rows) 1 (length d.keys) k lt ∙ ap (λ (j : ℕ). listed d j rows) e

-- the table of a reading, by the same definitions
pub has_table : (t : OpenTable) (r : RangeRows) (s : TableState) (m : Holding) (d : Defs) → defs_in t ≡ d → IsFit t.rows → HasKey t r → HoldState t s m → IsAhead t r s → HasTable d r t.rows.trees t.rows.rows.file s m
has_table t r s m d same fit key h ahead = subst (λ (e : Defs). HasTable e r t.rows.trees t.rows.rows.file s m) same (record {
  table = h.files.table.table;
  file = h.files.table.rows.0;
  own = h.own;
  lists = lists_of (defs_in t) s.rows;
  stand = h.files.table.trees;
  pairs = list_at (defs_in t) s.rows r.key (omega (arith, key, fit.each));
  ahead = ahead;
})

pub can_search : (writable : Bool) (told : Option Holding) (t : OpenTable) → IsTrue writable → t.broken ≡ None → IsKept told t → CanSearch writable told t.rows.trees
can_search writable told t can whole kept = inr (can, λ m held. let h = kept whole m held in (h.1.own, lists_of (defs_in t) h.0.rows, h.1.files.table.trees))

pub table_there : (told : Option Holding) (t : OpenTable) (r : RangeRows) (d : Defs) → defs_in t ≡ d → IsFit t.rows → HasKey t r → t.broken ≡ None → IsKept told t → IfHolds told t (λ m s. IsAhead t r s)
    → IfTold told (λ m. (s : TableState) × HasTable d r t.rows.trees t.rows.rows.file s m)
table_there told t r d same fit key whole kept ahead = λ m held. let h = kept whole m held in (h.0, has_table t r h.0 m d same fit key h.1 (ahead m held h.0 h.1))

-- ---- one row

pub row_answered : (told : Option Holding) (t : OpenTable) (r next : RangeRows) (d : Defs) (row : Option (ℕ × Values)) → defs_in t ≡ d → IsFit t.rows → HasKey t r → IfHolds told t (λ m s. IsAhead t r s)
    → IfTold told (λ m. (s : TableState) → HasTable d r t.rows.trees t.rows.rows.file s m → Answers d s r next row) → IfHolds told t (λ m s. Answers (defs_in t) s r next row)
row_answered told t r next d row same fit key ahead call = λ m held s h. subst (λ (e : Defs). Answers e s r next row) (sym same) (call m held s (has_table t r s m d same fit key h (ahead m held s h)))

pub row_in_few : (told : Option Holding) (t : OpenTable) (r : RangeRows) (d : Defs) (row : Option (ℕ × Values)) (before after : ℕ) → defs_in t ≡ d → IsFit t.rows → HasKey t r → IfHolds told t (λ m s. IsAhead t r s)
    → IfTold told (λ m. (s : TableState) → HasTable d r t.rows.trees t.rows.rows.file s m → ReadInFew d s r row before after) → IfHolds told t (λ m s. ReadInFew (defs_in t) s r row before after)
row_in_few told t r d row before after same fit key ahead call = λ m held s h. subst (λ (e : Defs). ReadInFew e s r row before after) (sym same) (call m held s (has_table t r s m d same fit key h (ahead m held s h)))

pub row_failed : (told : Option Holding) (t : OpenTable) (r : RangeRows) (d : Defs) (before after : ℕ) → defs_in t ≡ d → IsFit t.rows → HasKey t r → IfHolds told t (λ m s. IsAhead t r s)
    → IfTold told (λ m. (s : TableState) → HasTable d r t.rows.trees t.rows.rows.file s m → FailsInFew d s r before after) → IfHolds told t (λ m s. FailsInFew (defs_in t) s r before after)
row_failed told t r d before after same fit key ahead call = λ m held s h. subst (λ (e : Defs). FailsInFew e s r before after) (sym same) (call m held s (has_table t r s m d same fit key h (ahead m held s h)))

-- of a broken table nothing is read
pub unread_failed : (told : Option Holding) (t : OpenTable) (r : RangeRows) (at : ℕ) → IfHolds told t (λ m s. FailsInFew (defs_in t) s r at at)
unread_failed told t r at = λ m held s h. record { next = None; comes = tt; few = record { levels = 0; fit = omega arith; few = omega arith } }

-- what is read in a file that stands for a state are its rows
abbrev pub RowsAreRead : Type 0
RowsAreRead = (d : Defs) (s : TableState) (x : List ℕ) → IsSound d → StandsFor d s x → map (stored_row d) (readable d false x) ≡ s.rows

-- so a table has one list of rows
pub one_list : (t : OpenTable) (s u : TableState) (m : Holding) → RowsAreRead → IsSound (defs_in t) → HoldState t s m → HoldState t u m → s.rows ≡ u.rows
one_list t s u m law sound one two = sym (law (defs_in t) s _ sound one.files.table.rows.0.stands) ∙ law (defs_in t) u _ sound two.files.table.rows.0.stands

pub ahead_then : (told next : Option Holding) (t : OpenTable) (trees : Trees) (r now : RangeRows) (d : Defs) → RowsAreRead → defs_in t ≡ d → IsFit t.rows → HasKey t r → t.broken ≡ None → IsKept told t → IfHolds told t (λ m s. IsAhead t r s) → StillHolds told next t (with_trees t trees)
    → Told told next (λ m n. (s : TableState) → HasTable d r t.rows.trees t.rows.rows.file s m → HasTable d now trees t.rows.rows.file s n) → IfHolds next (with_trees t trees) (λ m s. IsAhead (with_trees t trees) now s)
ahead_then told next t trees r now d law same fit key whole kept ahead still again = λ n held s h.
    let was = told_before told next again.untold n held in
    let k = kept whole was.0 was.1 in
    let one = again.told was.0 was.1 in
    let there = one.2 k.0 (has_table t r k.0 was.0 d same fit key k.1 (ahead was.0 was.1 k.0 k.1)) in
    let then = still was.0 was.1 k.0 k.1 in
    let here : HoldState (with_trees t trees) k.0 n = subst (λ (q : Holding). HoldState (with_trees t trees) k.0 q) (same_Some then.0 n (sym then.1 ∙ held)) then.2 in
    subst (λ (rows : List StoredRow). ReadsAhead now.reached (listed (defs_in t) (suc now.key) rows)) (one_list (with_trees t trees) k.0 s n law fit.sound here h)
    (subst (λ (e : Defs). ReadsAhead now.reached (listed e (suc now.key) k.0.rows)) (sym same) there.ahead)

-- ---- refusals

pub never_damaged : (told : Option Holding) (f : RangeFault) → ranges.NeverDamaged told f → NeverDamaged told (of_range f)
never_damaged told (range.Index (tree.Damaged at)) never = never
never_damaged told (range.Index tree.File) never = tt
never_damaged told (range.Index tree.Memory) never = tt
never_damaged told (range.Data (read.NoRow at)) never = absurd never
never_damaged told (range.Data read.Full) never = absurd never
never_damaged told (range.Data (read.Damaged at)) never = never
never_damaged told (range.Data read.File) never = tt
never_damaged told (range.Data read.Memory) never = tt

pub not_broken_for : (broken : Option Cause) (f : RangeFault) → broken ≡ None → IsBrokenFor broken (of_range f)
not_broken_for broken (range.Index (tree.Damaged at)) none = none
not_broken_for broken (range.Index tree.File) none = none
not_broken_for broken (range.Index tree.Memory) none = none
not_broken_for broken (range.Data (read.NoRow at)) none = none
not_broken_for broken (range.Data read.Full) none = none
not_broken_for broken (range.Data (read.Damaged at)) none = none
not_broken_for broken (range.Data read.File) none = none
not_broken_for broken (range.Data read.Memory) none = none

pub cause_range : {T U : Type 0} (before now : ℕ) (f : RangeFault) → HasCause {T = T} {E = RangeFault} (range.Index tree.File) before now (Err f) → HasCause {T = T} {E = RangeFault} (range.Data read.File) before now (Err f) → HasCause {T = U} {E = ReadFault} reading.File before now (Err (of_range f))
cause_range before now (range.Index (tree.Damaged at)) one two = record { later = one.later; cause = λ e. absurd cc }
cause_range before now (range.Index tree.File) one two = record { later = one.later; cause = λ e. one.cause refl }
cause_range before now (range.Index tree.Memory) one two = record { later = one.later; cause = λ e. absurd cc }
cause_range before now (range.Data (read.NoRow at)) one two = record { later = one.later; cause = λ e. absurd cc }
cause_range before now (range.Data read.Full) one two = record { later = one.later; cause = λ e. absurd cc }
cause_range before now (range.Data (read.Damaged at)) one two = record { later = one.later; cause = λ e. absurd cc }
cause_range before now (range.Data read.File) one two = record { later = one.later; cause = λ e. two.cause refl }
cause_range before now (range.Data read.Memory) one two = record { later = one.later; cause = λ e. absurd cc }
