-- A repair of the files that a repair row by row left keeps all their rows.
use Rattle.std.proofs.Common.{◌≡◌, ℕ, Bool, List, take, Result, Ok, sym, ap, subst, ◌∙◌}
use Rattle.myi_base.specs.Numbers.{num_at}
use Rattle.myi_defs.specs.declared.types.Defs.{Defs}
use Rattle.myi_defs.specs.declared.types.DefFault.{DefFault}
use Rattle.myi_defs.specs.ReadDefs.{read_defs}
use Rattle.myi_data.specs.Stored.{SizedRow, values_in, stored_file}
use Rattle.myi_pair.specs.RecoveredBytes.{kept, new_data}
use Rattle.myi_pair.proofs.CallerLemmas.{with_raw, kept_same, laid_same}
use Rattle.myi_saferepair.specs.Recovered.{RebuiltAnyhow}

ok_same : {A E : Type 0} (x y : A) → ◌≡◌ {A = Result A E} (Ok x) (Ok y) → x ≡ y
ok_same x y same = cc

module _ (d : Defs) (rows : List SizedRow) (now : ℕ) (e y : List ℕ) (left : RebuiltAnyhow d rows now e y) (again : Defs) (read : read_defs y ≡ Ok again) (any : Bool) where
  -- the header that is read again
  abbrev header_read : List ℕ
  header_read = take (num_at 6 2 d.raw) y

  read_again : with_raw d header_read ≡ again
  read_again = ok_same {E = DefFault} (with_raw d header_read) again (sym left.definitions ∙ read)

  pub kept_settles : values_in (kept d any (stored_file d rows)) ≡ values_in rows → values_in (kept again any e) ≡ values_in rows
  kept_settles all =
      subst (λ (c : Defs). values_in (kept c any e) ≡ values_in rows) read_again
      (ap values_in (kept_same d header_read any e) ∙ ap (λ b. values_in (kept d any b)) left.laid ∙ all)

  same_data : new_data (with_raw d header_read) any e ≡ new_data d any e
  unfolding new_data
  same_data = ap (stored_file (with_raw d header_read)) (kept_same d header_read any e) ∙ laid_same d header_read (kept d any e)

  pub data_settles : new_data d any (stored_file d rows) ≡ stored_file d rows → new_data again any e ≡ e
  data_settles all =
      subst (λ (c : Defs). new_data c any e ≡ e) read_again
      (same_data ∙ ap (new_data d any) left.laid ∙ all ∙ sym left.laid)
