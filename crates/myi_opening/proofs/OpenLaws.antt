-- What an opening finds, from what the files were seen to be.
use Rattle.std.proofs.Common.{◌≡◌, ◌≢◌, ◌⊎◌, ℕ, Bool, true, false, List, length, take, Option, Some, None, Err, Ok, unwrap_or, refl, sym, ap, subst, ◌∙◌, inl, inr, arith}
use Rattle.std.specs.Prelude.{is_some, not, Result, IfErr}
use Rattle.myi_base.specs.Holding.{Holding, Measures}
use Rattle.myi_base.specs.Numbers.{AreBytes}
use Rattle.myi_defs.specs.declared.types.DefFault.{DefFault}
use Rattle.myi_defs.specs.declared.types.DefFault.TheVariants as def
use Rattle.myi_defs.specs.ReadDefs.{read_defs}
use Rattle.myi_defs.proofs.CallerLemmas.{read_defs-take}
use Rattle.myi_opening.specs.declared.fault.TableFile.TheVariants.{Index, Data}
use Rattle.myi_opening.specs.declared.fault.TableFault.{TableFault}
use Rattle.myi_opening.specs.declared.fault.TableFault.TheVariants.{Absent, Def, Memory}
use Rattle.myi_opening.specs.Opening.{IsCutOff, table_in, table_by, table_of}

-- there is no index file
pub no_index : (index rows : List ℕ) (m : Holding) → m index ≡ None → table_in index rows m ≡ Err (Absent Index)
unfolding table_in
no_index index rows m none = ap (λ o. table_of o (m rows)) none

-- there is an index file and no data file
pub no_rows : (index rows x : List ℕ) (m : Holding) → m index ≡ Some x → m rows ≡ None → table_in index rows m ≡ Err (Absent Data)
unfolding table_in
no_rows index rows x m there none = ap (λ o. table_of o (m rows)) there ∙ ap (table_of (Some x)) none

pub both_there : (index rows x d : List ℕ) (m : Holding) → m index ≡ Some x → m rows ≡ Some d → table_in index rows m ≡ table_by (read_defs x) d x
unfolding table_in
both_there index rows x d m there held = ap (λ o. table_of o (m rows)) there ∙ ap (table_of (Some x)) held

-- a file that has a length is there
pub is_there : (o : Option (List ℕ)) (size : Option ℕ) (n : ℕ) → size ≡ Some n → Measures o size → (bytes : List ℕ) × (o ≡ Some bytes) × (n ≡ length bytes)
is_there o None n is measured = absurd cc
is_there o (Some k) n is measured = (measured.0, measured.1, sym (same k n is) ∙ measured.2)
  where
    same : (k n : ℕ) → ◌≡◌ {A = Option ℕ} (Some k) (Some n) → k ≡ n
    same k n e = ap (λ o. unwrap_or o 0) e

-- a file that has no length is not there
pub not_there : (o : Option (List ℕ)) (size : Option ℕ) (b : Bool) → is_some size ≡ not b → b ≡ true → Measures o size → o ≡ None
not_there o None b same none measured = measured
not_there o (Some n) b same none measured = absurd cc

pub is_there_else : (o : Option (List ℕ)) (size : Option ℕ) (b : Bool) → is_some size ≡ not b → b ≡ false → Measures o size → (bytes : List ℕ) × (o ≡ Some bytes)
is_there_else o None b same some measured = absurd cc
is_there_else o (Some n) b same some measured = (measured.0, measured.1)

-- what is read of a file is read of its front
pub front_reads : (h x : List ℕ) → AreBytes h → h ≡ take 65535 x → read_defs h ≡ read_defs x
front_reads h x bytes front = ap read_defs front ∙ read_defs-take 65535 x (omega arith) (subst AreBytes front bytes)

-- a refusal for want of memory is none of the table
pub cut_or : (f : TableFault) (P Q : Type 0) → (f ≡ Memory) ⊎ P → (P → Q) → IsCutOff f ⊎ Q
cut_or f P Q (inl memory) go = inl (inr memory)
cut_or f P Q (inr other) go = inr (go other)

-- what is not read is refused for that reason, or for want of memory
pub judged_err : (fault : DefFault) (h : List ℕ) (f : TableFault) → AreBytes h → (fault ≢ def.Memory → read_defs h ≡ Err fault) → (f ≡ Memory) ⊎ ((fault ≢ def.Memory) × (f ≡ Def fault))
    → (f ≡ Memory) ⊎ ((x d : List ℕ) → h ≡ take 65535 x → table_by (read_defs x) d x ≡ Err f)
judged_err fault h f bytes refused (inl memory) = inl memory
judged_err fault h f bytes refused (inr other) =
    inr (λ x d front. ap (λ r. table_by r d x) (sym (front_reads h x bytes front) ∙ refused other.0) ∙ ap Err (sym other.1))

pub err_is : {T E : Type 0} (r : Result T E) (e : E) (P : E → Type 0) → r ≡ Err e → P e → IfErr r P
err_is (Ok x) e P is holds = absurd cc
err_is {T} {E} (Err f) e P is holds = subst P (same f e is) holds
  where
    same : (f e : E) → ◌≡◌ {A = Result T E} (Err f) (Err e) → e ≡ f
    same f e is = cc
