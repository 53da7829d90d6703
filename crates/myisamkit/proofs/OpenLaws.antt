-- A table that was opened by the names of its files.
use Rattle.std.proofs.Common.{◌≡◌, ℕ, List, Result, Ok, subst}
use Rattle.myi_base.specs.Holding.{Holding}
use Rattle.myi_defs.specs.declared.types.Defs.{Defs}
use Rattle.myi_opening.specs.declared.fault.TableFault.{TableFault}
use Rattle.myi_opening.specs.Opening.{Table, table, table_in, HasTable}

pub opened_as : (i r index rows : List ℕ) (defs : Defs) (size : ℕ) (m : Holding) → i ≡ index → r ≡ rows → HasTable i r defs size m → (d : List ℕ) × (x : List ℕ) × (table_in index rows m ≡ Ok (table defs d x))
opened_as i r index rows defs size m of_index of_rows has =
    (has.data_file, has.index_file, subst (λ n. table_in n rows m ≡ Ok (table defs has.data_file has.index_file)) of_index (subst (λ n. table_in i n m ≡ Ok (table defs has.data_file has.index_file)) of_rows has.is))

-- by other names of the same files
pub table_as : (i r index rows : List ℕ) (m : Holding) (q : Result Table TableFault) → i ≡ index → r ≡ rows → table_in i r m ≡ q → table_in index rows m ≡ q
table_as i r index rows m q of_index of_rows is = subst (λ n. table_in n rows m ≡ q) of_index (subst (λ n. table_in i n m ≡ q) of_rows is)
