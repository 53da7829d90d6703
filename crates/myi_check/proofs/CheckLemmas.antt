-- A check of the table of a name, by what is found of the files of its two names.
use Rattle.std.proofs.Common.{◌≡◌, ℕ, List, None, sym, ap, ◌∙◌}
use Rattle.myi_base.specs.Holding.{Holding}
use Rattle.myi_opening.specs.declared.fault.TableFile.TheVariants.{Index}
use Rattle.myi_opening.specs.declared.fault.TableFault.{TableFault}
use Rattle.myi_opening.specs.declared.fault.TableFault.TheVariants.{Absent}
use Rattle.myi_opening.specs.Names.{rows_file, index_file}
use Rattle.myi_opening.specs.Opening.{table_in, table_of, HasNoTable}
use Rattle.myi_pair.specs.declared.finding.Finding.{Finding}
use Rattle.myi_check.specs.Checking.{findings_by, findings_in, AreFindings, Finds, Refuses}

pub refuses : (name index rows : List ℕ) (f : TableFault) (m : Holding) → index ≡ index_file name → rows ≡ rows_file name → HasNoTable index rows f m → Refuses name f m
unfolding findings_in
refuses name index rows f m i r none = ap (λ x. findings_by (table_in x (rows_file name) m)) (sym i) ∙ ap (λ y. findings_by (table_in index y m)) (sym r) ∙ ap findings_by none

pub finds : (name index rows : List ℕ) (found : List Finding) (m : Holding) → index ≡ index_file name → rows ≡ rows_file name → AreFindings index rows found m → Finds name found m
unfolding findings_in
finds name index rows found m i r are = ap (λ x. findings_by (table_in x (rows_file name) m)) (sym i) ∙ ap (λ y. findings_by (table_in index y m)) (sym r) ∙ are

pub no_index : (index rows : List ℕ) (m : Holding) → m index ≡ None → HasNoTable index rows (Absent Index) m
unfolding table_in
no_index index rows m none = ap (λ o. table_of o (m rows)) none
