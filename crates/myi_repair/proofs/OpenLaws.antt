-- What an opening finds, from what the table below it is.
use Rattle.std.proofs.Common.{◌≡◌, ◌⊎◌, ℕ, Bool, true, false, List, length, Some, Err, Ok, refl, sym, ap, ◌∙◌, inl, inr}
use Rattle.std.specs.Prelude.{Option, Result, if◌then◌else◌}
use Rattle.myi_base.specs.Holding.{Holding, IfTold}
use Rattle.myi_defs.specs.declared.types.Defs.{Defs}
use Rattle.myi_defs.specs.Addressable.{is_addressable}
use Rattle.myi_defs.specs.ReadDefs.{read_defs}
use Rattle.myi_opening.specs.declared.fault.TableFault.{TableFault}
use Rattle.myi_opening.specs.Opening as opening
use Rattle.myi_opening.proofs.CallerLemmas.{table_index, table_rows, table_read}
use Rattle.myi_repair.specs.declared.fault.RepairFault.{RepairFault}
use Rattle.myi_repair.specs.declared.fault.RepairFault.TheVariants.{TooLong}
use Rattle.myi_repair.specs.Faults.{repair_fault}
use Rattle.myi_repair.specs.Names.{FourNames}
use Rattle.myi_repair.specs.Opening.{Table, CutsOff, HasTable, Refuses, table_in, table_by}

module _ (t : FourNames) (index rows : List ℕ) (index_is : index ≡ t.index) (rows_is : rows ≡ t.rows) where
  opened_here : (m : Holding) → opening.table_in index rows m ≡ opening.table_in t.index t.rows m
  opened_here m = ap (λ i. opening.table_in i rows m) index_is ∙ ap (λ r. opening.table_in t.index r m) rows_is

  -- a table that was opened, whose data file row pointers reach
  pub opened_reached : (defs : Defs) (size : ℕ) (m : Holding) → is_addressable defs size ≡ true → opening.HasTable index rows defs size m → HasTable t defs size m
  unfolding table_in
  opened_reached defs size m reached has =
      let reaches : is_addressable defs (length has.data_file) ≡ true = ap (is_addressable defs) (sym has.long) ∙ reached in
      let by : table_by (Ok (opening.table defs has.data_file has.index_file)) ≡ Ok (defs, has.data_file) = rw reaches refl in
      (has.data_file, ap table_by (sym (opened_here m) ∙ has.is) ∙ by, has.long)

  -- and one whose data file they do not reach
  pub opened_past : (defs : Defs) (size : ℕ) (m : Holding) → is_addressable defs size ≡ false → opening.HasTable index rows defs size m → Refuses t TooLong m
  unfolding table_in
  opened_past defs size m reached has =
      let reaches : is_addressable defs (length has.data_file) ≡ false = ap (is_addressable defs) (sym has.long) ∙ reached in
      let by : table_by (Ok (opening.table defs has.data_file has.index_file)) ≡ Err TooLong = rw reaches refl in
      ap table_by (sym (opened_here m) ∙ has.is) ∙ by

  -- a table that was not opened
  pub not_opened : (old : Option Holding) (e : TableFault) (f : RepairFault) → f ≡ repair_fault e → opening.IsCutOff e ⊎ IfTold old (opening.HasNoTable index rows e) → CutsOff f ⊎ IfTold old (Refuses t f)
  unfolding table_in
  not_opened old e f is (inl (inl file)) = inl (inl (is ∙ ap repair_fault file))
  not_opened old e f is (inl (inr memory)) = inl (inr (is ∙ ap repair_fault memory))
  not_opened old e f is (inr none) = inr (λ m told. ap table_by (sym (opened_here m) ∙ none m told) ∙ ap (λ (x : RepairFault). Err x) (sym is))

-- ---- what holds of a table that can be repaired

ok_table : {A : Type 0} {E : Type 0} (x y : A) → ◌≡◌ {A = Result A E} (Ok x) (Ok y) → x ≡ y
ok_table x y same = cc

pub record IsOpened (t : FourNames) (defs : Defs) (d : List ℕ) (m : Holding) : Type 0 where
  pub index : List ℕ
  pub here : m t.index ≡ Some index
  pub rows : m t.rows ≡ Some d
  pub read : read_defs index ≡ Ok defs
  pub reached : is_addressable defs (length d) ≡ true

pub is_opened : (t : FourNames) (defs : Defs) (d : List ℕ) (m : Holding) → table_in t m ≡ Ok (defs, d) → IsOpened t defs d m
unfolding table_in
is_opened t defs d m is = by (opening.table_in t.index t.rows m) refl is
  where
    by_reach : (o : opening.Table) (b : Bool) → opening.table_in t.index t.rows m ≡ Ok o → is_addressable o.defs (length o.rows) ≡ b → ◌≡◌ {A = Result Table RepairFault} (if b then Ok (o.defs, o.rows) else Err TooLong) (Ok (defs, d)) → IsOpened t defs d m
    by_reach o false was reached same = absurd cc
    by_reach o true was reached same =
        let pair : ◌≡◌ {A = Table} (o.defs, o.rows) (defs, d) = ok_table {E = RepairFault} (o.defs, o.rows) (defs, d) same in
        let first : o.defs ≡ defs = ap (λ p. p.0) pair in
        let second : o.rows ≡ d = ap (λ p. p.1) pair in
        record {
          index = o.index;
          here = table_index t.index t.rows o m was;
          rows = table_rows t.index t.rows o m was ∙ ap Some second;
          read = table_read t.index t.rows o m was ∙ ap Ok first;
          reached = ap (λ x. is_addressable x (length d)) (sym first) ∙ ap (λ x. is_addressable o.defs (length x)) (sym second) ∙ reached;
        }

    by : (r : Result opening.Table TableFault) → opening.table_in t.index t.rows m ≡ r → table_by r ≡ Ok (defs, d) → IsOpened t defs d m
    by (Err f) was same = absurd cc
    by (Ok o) was same = by_reach o (is_addressable o.defs (length o.rows)) was refl same
