-- What the crates above cite: the clauses of the law on tables that are opened.
use Rattle.std.proofs.Common.{◌≡◌, ℕ, List, Option, Some, None, Ok, Err, refl, sym, ap, ◌∙◌}
use Rattle.std.specs.Prelude.{Result}
use Rattle.myi_base.specs.Holding.{Holding}
use Rattle.myi_defs.specs.declared.types.Defs.{Defs}
use Rattle.myi_defs.specs.declared.types.DefFault.{DefFault}
use Rattle.myi_defs.specs.ReadDefs.{read_defs}
use Rattle.myi_opening.specs.declared.fault.TableFault.{TableFault}
use Rattle.myi_opening.specs.Opening.{Table, table, table_in, table_by, table_of}

ok_same : {A E : Type 0} (x y : A) → ◌≡◌ {A = Result A E} (Ok x) (Ok y) → x ≡ y
ok_same x y same = cc

record HasFiles (t : Table) (x d : Option (List ℕ)) : Type 0 where
  pub index : x ≡ Some t.index
  pub rows : d ≡ Some t.rows
  pub read : read_defs t.index ≡ Ok t.defs

by_defs : (r : Result Defs DefFault) (x d : List ℕ) (t : Table) → read_defs x ≡ r → table_by r d x ≡ Ok t → HasFiles t (Some x) (Some d)
by_defs (Err f) x d t was same = absurd cc
by_defs (Ok defs) x d t was same =
    let is : table defs d x ≡ t = ok_same {E = TableFault} (table defs d x) t same in
    record {
      index = ap (λ (u : Table). Some u.index) is;
      rows = ap (λ (u : Table). Some u.rows) is;
      read = ap (λ (u : Table). read_defs u.index) (sym is) ∙ was ∙ ap (λ (u : Table). Ok u.defs) is;
    }

by_files : (x d : Option (List ℕ)) (t : Table) → table_of x d ≡ Ok t → HasFiles t x d
by_files None d t same = absurd cc
by_files (Some x) None t same = absurd cc
by_files (Some x) (Some d) t same = by_defs (read_defs x) x d t refl same

files_of : (index rows : List ℕ) (t : Table) (m : Holding) → table_in index rows m ≡ Ok t → HasFiles t (m index) (m rows)
unfolding table_in
files_of index rows t m is = by_files (m index) (m rows) t is

pub table_index : (index rows : List ℕ) (t : Table) (m : Holding) → table_in index rows m ≡ Ok t → m index ≡ Some t.index
table_index index rows t m is = (files_of index rows t m is).index

pub table_rows : (index rows : List ℕ) (t : Table) (m : Holding) → table_in index rows m ≡ Ok t → m rows ≡ Some t.rows
table_rows index rows t m is = (files_of index rows t m is).rows

pub table_read : (index rows : List ℕ) (t : Table) (m : Holding) → table_in index rows m ≡ Ok t → read_defs t.index ≡ Ok t.defs
table_read index rows t m is = (files_of index rows t m is).read

pub table_opened : (index rows x d : List ℕ) (defs : Defs) (m : Holding) → m index ≡ Some x → m rows ≡ Some d → read_defs x ≡ Ok defs → table_in index rows m ≡ Ok (table defs d x)
unfolding table_in
table_opened index rows x d defs m there held read = ap (λ o. table_of o (m rows)) there ∙ ap (table_of (Some x)) held ∙ ap (λ r. table_by r d x) read
