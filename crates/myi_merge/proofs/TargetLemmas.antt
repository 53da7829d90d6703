-- The table that takes the rows: what a call on it says of the list.
use Rattle.std.proofs.Common.{◌≡◌, ◌≢◌, ℕ, zero, suc, List, [], ◌∷◌, get_or, set, slice_get, Option, Some, Result, Err, refl, sym, ap, subst, ◌∙◌}
use Rattle.std.proofs.lemmas.Option.{same_Some}
use Rattle.myi_mergelist.specs.declared.list.InsertMethod.{InsertMethod}
use Rattle.myi_table.specs.declared.fault.Cause.{Cause}
use Rattle.myi_table.specs.declared.fault.ChangeFault.{ChangeFault}
use Rattle.myi_table.specs.Table.{OpenTable}
use Rattle.myi_table.specs.Faults.{broken_after}
use Rattle.myi_merge.specs.declared.fault.MergeInsertFault.{MergeInsertFault}
use Rattle.myi_merge.specs.declared.fault.MergeInsertFault.TheVariants.{Change}
use Rattle.myi_merge.specs.Merged.{OpenMerge}
use Rattle.myi_merge.specs.Changing.{target, ChangesTarget, OfTarget, broken_behind}
use Rattle.myi_merge.proofs.TableLemmas.{got, set_at, set_long}

-- what holds of the table at that index holds of the table that takes the rows
of_target : (ts : List OpenTable) (method : Option InsertMethod) (i : ℕ) (t new : OpenTable) (P : OpenTable → OpenTable → Type 0) → get_or ts i t ≡ t → target (record { tables = ts; method = method }) ≡ Some i → P t new
    → OfTarget (record { tables = ts; method = method }) (record { tables = set ts i new; method = method }) P
of_target ts method i t new P at takes p = λ j u v takes_j stood stands.
    let same : i ≡ j = same_Some i j (sym takes ∙ takes_j) in
    let before : t ≡ u = sym at ∙ got ts i t u (subst (λ (k : ℕ). slice_get ts k ≡ Some u) (sym same) stood) in
    let after : new ≡ v = set_at ts i new v (subst (λ (k : ℕ). slice_get (set ts i new) k ≡ Some v) (sym same) stands) in
    subst (λ (w : OpenTable). P w v) before (subst (P t) after p)

-- of the list as it was seen from outside
pub of_taker : (g : OpenMerge) (ts : List OpenTable) (method : Option InsertMethod) (i : ℕ) (t new : OpenTable) (P : OpenTable → OpenTable → Type 0) → record { tables = ts; method = method } ≡ g → get_or ts i t ≡ t → target g ≡ Some i → P t new
    → OfTarget g (record { tables = set ts i new; method = method }) P
of_taker g ts method i t new P is at takes p =
    subst (λ (w : OpenMerge). OfTarget w (record { tables = set ts i new; method = method }) P) is (of_target ts method i t new P at (ap target is ∙ takes) p)

set_other : (ts : List OpenTable) (i j : ℕ) (new : OpenTable) → i ≢ j → slice_get (set ts i new) j ≡ slice_get ts j
set_other [] i j new apart = refl
set_other (t ∷ ts) zero zero new apart = absurd (apart refl)
set_other (t ∷ ts) zero (suc j) new apart = refl
set_other (t ∷ ts) (suc i) zero new apart = refl
set_other (t ∷ ts) (suc i) (suc j) new apart = set_other ts i j new (λ same. apart (ap suc same))

pub taker_changes : (g : OpenMerge) (ts : List OpenTable) (method : Option InsertMethod) (i : ℕ) (new : OpenTable) → record { tables = ts; method = method } ≡ g → target g ≡ Some i → ChangesTarget g (record { tables = set ts i new; method = method })
taker_changes g ts method i new is takes = subst (λ (w : OpenMerge). ChangesTarget w (record { tables = set ts i new; method = method })) is (record {
  method = refl;
  many = set_long ts i new;
  others = λ j off. set_other ts i j new (λ same. off (ap target is ∙ takes ∙ ap Some same));
})

-- no table takes the rows
pub none_changes : (g : OpenMerge) → ChangesTarget g g
none_changes g = record { method = refl; many = refl; others = λ j off. refl }

-- why the table is broken then
pub broken_err : {T U : Type 0} (a : Result T ChangeFault) (r : Result U MergeInsertFault) (f : ChangeFault) (faults : ℕ) (before after : Option Cause) → a ≡ Err f → r ≡ Err (Change f) → after ≡ broken_after a faults before → after ≡ broken_behind r faults before
broken_err a r f faults before after was is same = same ∙ ap (λ q. broken_after q faults before) was ∙ sym (ap (λ q. broken_behind q faults before) is)
