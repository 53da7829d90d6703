-- What a table's turn leaves.
use Rattle.std.proofs.Common.{arith, ◌≡◌, ◌≢◌, ◌≤◌, ◌+◌, ℕ, take, Bool, true, false, List, Option, Some, None, Result, Ok, Err, refl, sym, subst, ap, ◌∙◌, inl, inr, length}
use Rattle.std.specs.Prelude.{◌⊎◌, ◌||◌, if◌then◌else◌, IfOk, OnOk}
use Rattle.std.specs.Str.{bytes_eq}
use Rattle.std.proofs.Math.Path.{fun_ext}
use Rattle.std.proofs.lemmas.Slice.Eq.{bytes_eq-Decides}
use Rattle.myi_base.specs.Holding.{Holding, Told}
use Rattle.myi_base.specs.Numbers.{num_at}
use Rattle.myi_defs.specs.declared.types.Defs.{Defs}
use Rattle.myi_pair.proofs.CallerLemmas.{none_where_clean}
use Rattle.myi_pair.specs.RecoveredBytes.{new_data, new_index}
use Rattle.myi_pair.specs.Recovered.{Recovered}
use Rattle.myi_repair.specs.declared.report.Report.{Report}
use Rattle.myi_repair.specs.declared.fault.RepairFault.{RepairFault}
use Rattle.myi_repair.specs.Names.{FourNames, names_for, Holds, KeepsBut, Clears}
use Rattle.myi_repair.specs.Faults.{RoseAtMost}
use Rattle.myi_repair.specs.Opening.{Table, table_in, IsTable, CutsOff}
use Rattle.myi_repair.specs.Outcome.{IsRefused}
use Rattle.myi_saferepair.specs.Recovered.{SafelyRecovered}
use Rattle.myisamkit.specs.declared.options.Mode.{Mode}
use Rattle.myisamkit.specs.declared.options.Mode.TheVariants.{Check, Recover, Describe, Analyze, Sort, SortIndex}
use Rattle.myisamkit.specs.declared.options.Options.{Options}
use Rattle.myi_opening.specs.Names.{index_file}
use Rattle.myi_repair.specs.Names.{new_index_file}
use Rattle.myi_data.specs.Stored.{SizedRow}
use Rattle.myi_pair.specs.Clean.{IsClean}
use Rattle.myi_pair.specs.Rebuilt.{Rebuilt}
use Rattle.myi_order.specs.declared.key_parts.KeyParts.{KeyParts}
use Rattle.myi_order.specs.Analyzing as analyzing
use Rattle.myi_order.specs.Faults as order
use Rattle.myi_order.specs.Sorting as sorting
use Rattle.myi_order.specs.Numbers.{all_per, IsAnalyzed}
use Rattle.myi_order.specs.KeyParts.{key_parts}
use Rattle.myisamkit.specs.Turns.{AreSound, with_index, analyzed_turn, sorted_turn, AnalyzeDone, StoresNone, AnalyzeCutOff, SortDone, SortCutOff, SortsNone, replaced, without_extend, goes_on, is_row_by_row, MakesIndex, TableRepaired, RepairDone, LeavesRepaired, OldOrNew, RepairCutOff, CheckCutOff, CutsTurnOff, CutsTurnOffBy}

-- what a name has that is none of these
pub not_named : (q name : List ℕ) → bytes_eq q name ≡ false → q ≢ name
not_named q name other is = absurd (true_is_false (sym ((bytes_eq-Decides q name).1 is) ∙ other))
  where
    true_is_false : true ≡ false → ⊥
    true_is_false e = cc

-- the files are replaced, name by name
replaced_at : (t : FourNames) (d x : List ℕ) (m n : Holding) → Holds t d x n → KeepsBut t m n → (q : List ℕ) → n q ≡ replaced t d x m q
replaced_at t d x m n holds keeps q = by_rows (bytes_eq q t.rows) refl
  where
    by_work : (a b : Bool) → bytes_eq q t.new_rows ≡ a → bytes_eq q t.new_index ≡ b → q ≢ t.rows → q ≢ t.index → n q ≡ (if a || b then None else m q)
    by_work true b is other rows index = ap n ((bytes_eq-Decides q t.new_rows).0 is) ∙ holds.working.new_rows
    by_work false true other is rows index = ap n ((bytes_eq-Decides q t.new_index).0 is) ∙ holds.working.new_index
    by_work false false other another rows index = keeps q rows index (not_named q t.new_rows other) (not_named q t.new_index another)

    by_index : (b : Bool) → bytes_eq q t.index ≡ b → q ≢ t.rows → n q ≡ (if b then Some x else (if bytes_eq q t.new_rows || bytes_eq q t.new_index then None else m q))
    by_index true is rows = ap n ((bytes_eq-Decides q t.index).0 is) ∙ holds.index
    by_index false other rows = by_work (bytes_eq q t.new_rows) (bytes_eq q t.new_index) refl refl rows (not_named q t.index other)

    by_rows : (b : Bool) → bytes_eq q t.rows ≡ b → n q ≡ (if b then Some d else (if bytes_eq q t.index then Some x else (if bytes_eq q t.new_rows || bytes_eq q t.new_index then None else m q)))
    by_rows true is = ap n ((bytes_eq-Decides q t.rows).0 is) ∙ holds.rows
    by_rows false other = by_index (bytes_eq q t.index) refl (not_named q t.rows other)

pub is_replaced : (t : FourNames) (d x : List ℕ) (m n : Holding) → Holds t d x n → KeepsBut t m n → n ≡ replaced t d x m
is_replaced t d x m n holds keeps = fun_ext (replaced_at t d x m n holds keeps)

-- a count that rose in a turn rose since any time before
pub repair_earlier : (o : Options) (now told before at after : ℕ) (name : List ℕ) (m n : Holding) → before ≤ at → RepairCutOff o now told at after name m n → RepairCutOff o now told before after name m n
repair_earlier o now told before at after name m n later cut = record { whole = cut.whole; others = cut.others; cleared = λ more rose. cut.cleared more (omega (arith, rose.0, later), rose.1) }

none_earlier : (told before at after : ℕ) (name : List ℕ) (m n : Holding) → before ≤ at → StoresNone told at after name m n → StoresNone told before after name m n
none_earlier told before at after name m n later none = record { both = none.both; others = none.others; cleared = λ rose. none.cleared (omega (arith, rose.0, later), rose.1) }

sort_earlier : (now key told before at after : ℕ) (name : List ℕ) (m n : Holding) → before ≤ at → SortCutOff now key told at after name m n → SortCutOff now key told before after name m n
sort_earlier now key told before at after name m n later cut = record { whole = cut.whole; others = cut.others; cleared = λ more rose. cut.cleared more (omega (arith, rose.0, later), rose.1) }

pages_earlier : (told before at after : ℕ) (name : List ℕ) (m n : Holding) → before ≤ at → SortsNone told at after name m n → SortsNone told before after name m n
pages_earlier told before at after name m n later none = record { both = none.both; others = none.others; cleared = λ rose. none.cleared (omega (arith, rose.0, later), rose.1) }

pub cut_earlier : (o : Options) (now told before at after : ℕ) (name : List ℕ) (m n : Holding) → before ≤ at → CutsTurnOff o now told at after name m n → CutsTurnOff o now told before after name m n
unfolding CutsTurnOff
cut_earlier o now told before at after name m n later cut = by_mode o.mode cut
  where
    by_check : (b : Bool) → CheckCutOff b o now told at after name m n → CheckCutOff b o now told before after name m n
    by_check false same = same
    by_check true cut = repair_earlier (without_extend o) now told before at after name m n later cut

    by_mode : (mode : Mode) → CutsTurnOffBy mode o now told at after name m n → CutsTurnOffBy mode o now told before after name m n
    by_mode (Recover trees) cut = repair_earlier o now told before at after name m n later cut
    by_mode Check cut = by_check (goes_on o name m) cut
    by_mode Describe cut = cut
    by_mode Analyze (inl none) = inl (none_earlier told before at after name m n later none)
    by_mode Analyze (inr done) = inr done
    by_mode (Sort key) cut = sort_earlier now key told before at after name m n later cut
    by_mode SortIndex (inl none) = inl (pages_earlier told before at after name m n later none)
    by_mode SortIndex (inr done) = inr done

pub some_same : {A : Type 0} (x y : A) (o : Option A) → o ≡ Some x → o ≡ Some y → x ≡ y
some_same x y o a b = let e : Some x ≡ Some y = sym a ∙ b in cc

ok_or : {A E : Type 0} → A → Result A E → A
ok_or d (Ok x) = x
ok_or d (Err e) = d

pub ok_same : {A E : Type 0} (x y : A) (r : Result A E) → r ≡ Ok x → r ≡ Ok y → x ≡ y
unfolding ok_or
ok_same x y r a b = sym (ap (ok_or x) a) ∙ ap (ok_or x) b

-- what is recovered is sound
pub sound_of : (defs : Defs) (extend : Bool) (d : List ℕ) (now : ℕ) (e y : List ℕ) → Recovered defs extend d now e y → AreSound e y
sound_of defs extend d now e y made = (record defs { raw = take (num_at 6 2 defs.raw) y }, made.rebuilt.definitions, none_where_clean _ e y made.rebuilt.definitions made.rebuilt.clean)

pub sound_anyhow : (defs : Defs) (extend : Bool) (d : List ℕ) (now : ℕ) (e y : List ℕ) → SafelyRecovered defs extend d now e y → AreSound e y
sound_anyhow defs extend d now e y made = (record defs { raw = take (num_at 6 2 defs.raw) y }, made.rebuilt.definitions, none_where_clean _ e y made.rebuilt.definitions made.rebuilt.clean)

-- what is refused is not answered
not_both : {A E : Type 0} (r : Result A E) (f : E) (x : A) → r ≡ Err f → r ≡ Ok x → ⊥
not_both (Ok y) f x refused answered = cc
not_both (Err g) f x refused answered = cc

-- the new files of a table, whichever way its trees were made
record HasNew (b : Bool) (o : Options) (now : ℕ) (name : List ℕ) (defs : Defs) (d : List ℕ) (n : Holding) : Type 0 where
  pub index : List ℕ
  pub holds : Holds (names_for name) (new_data defs o.extend d) index n
  pub made : MakesIndex b o now defs d index
  pub sound : AreSound (new_data defs o.extend d) index

new_by : (b : Bool) (o : Options) (now : ℕ) (name : List ℕ) (said : Report) (m n : Holding) → LeavesRepaired b name o.extend now said m n → (defs : Defs) × (d : List ℕ) × IsTable (names_for name) defs d m × HasNew b o now name defs d n
new_by false o now name said m n left =
    (left.0, left.1, left.2, record { index = new_index left.0 o.extend left.1 now; holds = left.3.holds; made = (refl, left.3.recovered); sound = sound_of left.0 o.extend left.1 now _ _ left.3.recovered })
new_by true o now name said m n left =
    (left.0, left.1, left.2, record { index = left.3.index; holds = left.3.holds; made = left.3.recovered; sound = sound_anyhow left.0 o.extend left.1 now _ _ left.3.recovered })

left_done : (o : Options) (now : ℕ) (name : List ℕ) (said : Report) (m n : Holding) → LeavesRepaired (is_row_by_row o.mode) name o.extend now said m n → KeepsBut (names_for name) m n → RepairDone o now name m n
left_done o now name said m n left keeps =
    let h = new_by (is_row_by_row o.mode) o now name said m n left in
    record {
      refused = λ f is. absurd (not_both (table_in (names_for name) m) f (h.0, h.1) is h.2);
      repaired = λ defs d table.
          subst (λ (t : Table). TableRepaired o now name t.0 t.1 m n) (ok_same (h.0, h.1) (defs, d) (table_in (names_for name) m) h.2 table)
          (record { index = h.3.index; files = is_replaced (names_for name) _ _ m n h.3.holds keeps; made = h.3.made; sound = h.3.sound });
    }

-- a table was repaired
pub repair_done : (o : Options) (now : ℕ) (name : List ℕ) (said : Report) (old new : Option Holding)
    → Told old new (LeavesRepaired (is_row_by_row o.mode) name o.extend now said) → Told old new (KeepsBut (names_for name)) → Told old new (RepairDone o now name)
repair_done o now name said old new repaired others = record {
  told = λ m told.
      let r = repaired.told m told in
      let k = others.told m told in
      (r.0, r.1, left_done o now name said m r.0 r.2 (subst (λ n. KeepsBut (names_for name) m n) (some_same k.0 r.0 new k.1 r.1) k.2));
  untold = repaired.untold;
}

-- a table was refused
repair_refused : (o : Options) (now : ℕ) (name : List ℕ) (fault : RepairFault) (old new : Option Holding) → IsRefused (names_for name) fault old new → Told old new (RepairDone o now name)
repair_refused o now name fault old new is = record {
  told = λ m told. (
    m,
    is.same ∙ told,
    record {
      refused = λ f why. refl;
      repaired = λ defs d table. absurd (not_both (table_in (names_for name) m) fault (defs, d) (is.reason m told) table);
    },
  );
  untold = λ none. is.same ∙ none;
}

pub refused_done : {A E : Type 0} (r : Result A E) (o : Options) (now : ℕ) (name : List ℕ) (fault : RepairFault) (old new : Option Holding) → CutsOff fault ⊎ IsRefused (names_for name) fault old new → IfOk r (λ x. CutsOff fault → ⊥) → OnOk r (Told old new (RepairDone o now name))
refused_done (Ok x) o now name fault old new (inl cut) never = absurd (never cut)
refused_done (Ok x) o now name fault old new (inr is) never = repair_refused o now name fault old new is
refused_done (Err e) o now name fault old new why never = tt

-- a repair was cut off
pub repair_cut : (o : Options) (now told before after : ℕ) (name : List ℕ) (old new : Option Holding)
    → Told old new (OldOrNew (is_row_by_row o.mode) name o.extend now) → Told old new (KeepsBut (names_for name))
    → ((more : ℕ) → RoseAtMost (told + more) before after → Told old new (Clears more (names_for name)))
    → Told old new (RepairCutOff o now told before after name)
repair_cut o now told before after name old new whole others cleared = record {
  told = λ m is.
      let n = whole.told m is in
      let k = others.told m is in (
        n.0,
        n.1,
        record {
          whole = n.2;
          others = subst (λ h. KeepsBut (names_for name) m h) (some_same k.0 n.0 new k.1 n.1) k.2;
          cleared = λ more rose. let z = (cleared more rose).told m is in subst (λ h. Clears more (names_for name) m h) (some_same z.0 n.0 new z.1 n.1) z.2;
        },
      );
  untold = whole.untold;
}

-- ---- tables that are analyzed

-- the index file is replaced, and the working file is gone
pub indexed_at : (name x : List ℕ) (m n : Holding) → n (index_file name) ≡ Some x → n (new_index_file name) ≡ None → analyzing.OthersStay name m n → (q : List ℕ) → n q ≡ with_index name x m q
indexed_at name x m n index gone keeps q = by_index (bytes_eq q (index_file name)) refl
  where
    by_work : (b : Bool) → bytes_eq q (new_index_file name) ≡ b → q ≢ index_file name → n q ≡ (if b then None else m q)
    by_work true is other = ap n ((bytes_eq-Decides q (new_index_file name)).0 is) ∙ gone
    by_work false is other = keeps q other (not_named q (new_index_file name) is)

    by_index : (b : Bool) → bytes_eq q (index_file name) ≡ b → n q ≡ (if b then Some x else (if bytes_eq q (new_index_file name) then None else m q))
    by_index true is = ap n ((bytes_eq-Decides q (index_file name)).0 is) ∙ index
    by_index false other = by_work (bytes_eq q (new_index_file name)) refl (not_named q (index_file name) other)

-- a table was analyzed
pub analyze_done : (o : Options) (name : List ℕ) (parts : List KeyParts) (old new : Option Holding)
    → Told old new (analyzing.Analyzes name parts) → Told old new (analyzing.OthersStay name) → Told old new (AnalyzeDone o name)
analyze_done o name parts old new done others = record {
  told = λ m told.
      let r = done.told m told in
      let k = others.told m told in
      let keeps = subst (λ n. analyzing.OthersStay name m n) (some_same k.0 r.0 new k.1 r.1) k.2 in (
        r.0,
        r.1,
        record {
          files = subst (λ t. r.0 ≡ (analyzed_turn o name t m).files) (sym r.2.is) (fun_ext (indexed_at name _ m r.0 r.2.stored r.2.gone keeps));
          numbers = λ t is. subst (λ u. IsAnalyzed u.defs (length (analyzing.rows_in u)) (all_per (key_parts u.defs (analyzing.rows_in u))) u.index (analyzing.analyzed_index u) × IsClean u.rows (analyzing.analyzed_index u)) (ok_same r.2.table t (analyzing.table_in name m) r.2.is is) (r.2.numbers, r.2.clean);
        },
      );
  untold = done.untold;
}

-- an analysis stored nothing
pub stores_none : (o : Options) (told before after : ℕ) (name : List ℕ) (old new : Option Holding)
    → Told old new (analyzing.KeepsBoth name) → Told old new (analyzing.OthersStay name)
    → (RoseAtMost told before after → Told old new (order.Clears (new_index_file name)))
    → Told old new (AnalyzeCutOff o told before after name)
stores_none o told before after name old new both others cleared = record {
  told = λ m is.
      let n = both.told m is in
      let k = others.told m is in (
        n.0,
        n.1,
        inl record {
          both = n.2;
          others = subst (λ h. analyzing.OthersStay name m h) (some_same k.0 n.0 new k.1 n.1) k.2;
          cleared = λ rose. let z = (cleared rose).told m is in subst (λ h. order.Clears (new_index_file name) m h) (some_same z.0 n.0 new z.1 n.1) z.2;
        },
      );
  untold = both.untold;
}

-- memory was wanting behind an analysis
pub done_behind : (o : Options) (told before after : ℕ) (name : List ℕ) (old new : Option Holding) → told ≡ 0 → Told old new (AnalyzeDone o name) → Told old new (AnalyzeCutOff o told before after name)
done_behind o told before after name old new none done = record {
  told = λ m is. let n = done.told m is in (n.0, n.1, inr (none, n.2));
  untold = done.untold;
}

-- ---- tables that are sorted

-- what is made anew of rows is sound
sound_rebuilt : (defs : Defs) (rows : List SizedRow) (now : ℕ) (e y : List ℕ) → Rebuilt defs rows now e y → AreSound e y
sound_rebuilt defs rows now e y made = (record defs { raw = take (num_at 6 2 defs.raw) y }, made.definitions, none_where_clean _ e y made.definitions made.clean)

-- a table was sorted
pub sort_done : (o : Options) (now key : ℕ) (name : List ℕ) (said : Report) (old new : Option Holding)
    → Told old new (sorting.LeavesOrdered name key now said) → Told old new (KeepsBut (names_for name)) → Told old new (SortDone o now key name)
sort_done o now key name said old new done others = record {
  told = λ m told.
      let r = done.told m told in
      let k = others.told m told in
      let keeps = subst (λ n. KeepsBut (names_for name) m n) (some_same k.0 r.0 new k.1 r.1) k.2 in (
        r.0,
        r.1,
        record {
          files = subst (λ t. r.0 ≡ (sorted_turn o now key name t m).files) (sym r.2.is) (is_replaced (names_for name) _ _ m r.0 r.2.holds keeps);
          sorted = λ t is.
              let ordered = subst (λ u. sorting.Ordered u key now (sorting.sorted_data u key) (sorting.sorted_index u key now)) (ok_same r.2.table t (sorting.table_in name key m) r.2.is is) r.2.ordered in
              (ordered, sound_rebuilt t.defs (sorting.sorted_rows t key) now _ _ ordered.rebuilt);
        },
      );
  untold = done.untold;
}

-- sorting was cut off
pub sort_cut : (now key told before after : ℕ) (name : List ℕ) (old new : Option Holding)
    → Told old new (sorting.OldOrNew name key now) → Told old new (KeepsBut (names_for name))
    → ((more : ℕ) → RoseAtMost (told + more) before after → Told old new (Clears more (names_for name)))
    → Told old new (SortCutOff now key told before after name)
sort_cut now key told before after name old new whole others cleared = record {
  told = λ m is.
      let n = whole.told m is in
      let k = others.told m is in (
        n.0,
        n.1,
        record {
          whole = n.2;
          others = subst (λ h. KeepsBut (names_for name) m h) (some_same k.0 n.0 new k.1 n.1) k.2;
          cleared = λ more rose. let z = (cleared more rose).told m is in subst (λ h. Clears more (names_for name) m h) (some_same z.0 n.0 new z.1 n.1) z.2;
        },
      );
  untold = whole.untold;
}
