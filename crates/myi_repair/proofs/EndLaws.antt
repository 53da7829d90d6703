-- How a call ends, by how its last part ends.
use Rattle.std.proofs.Common.{◌≡◌, ◌≤◌, ◌+◌, ◌∙◌, ℕ, Option, Ok, Err, inl, inr, sym, ap, subst, arith}
use Rattle.std.specs.Prelude.{Result}
use Rattle.std.proofs.lemmas.Result.{IfErr-weaker}
use Rattle.myi_base.specs.Holding.{Holding, Told}
use Rattle.myi_base.specs.Causes.{Rose}
use Rattle.myi_base.proofs.CallerLemmas.{told_more, told_then}
use Rattle.myi_repair.specs.declared.fault.RepairFault.{RepairFault}
use Rattle.myi_repair.specs.declared.fault.RepairFault.TheVariants.{File, Memory}
use Rattle.myi_repair.specs.Faults.{faults_told, RoseAtMost}
use Rattle.myi_repair.specs.Names.{FourNames, KeepsBut, working_left}
use Rattle.myi_repair.specs.Opening.{CutsOff}
use Rattle.myi_repair.specs.Outcome.{Ends, EndsCutOff}

-- what is cut off ends so
pub cut_off_ends : {X : Type 0} (t u : FourNames) (old new : Option Holding) (before now : ℕ) (result : Result X RepairFault) → t ≡ u → EndsCutOff t old new before now result → Ends u old new before now result
cut_off_ends t u old new before now result same ends = record {
  reason = IfErr-weaker result _ _ (λ f cut. inl cut) ends.reason;
  cleared = IfErr-weaker result _ _ (λ f gone more rose. told_more _ _ _ _ (gone more rose) (λ m n held left. inr (subst (λ v. working_left v n ≤ more) same left))) ends.cleared;
  others = subst (λ v. Told old new (KeepsBut v)) same ends.others;
  cause = ends.cause;
}

-- and so it does behind a part that went well
pub cut_off_later : {X : Type 0} (t : FourNames) (old mid new : Option Holding) (before between now : ℕ) (result : Result X RepairFault) → Told old mid (KeepsBut t) → before ≤ between → EndsCutOff t mid new between now result → EndsCutOff t old new before now result
cut_off_later t old mid new before between now result first less ends = record {
  reason = ends.reason;
  cleared = IfErr-weaker result _ _ (λ f gone more rose. told_then _ _ _ _ _ _ first (gone more (omega (arith, rose.0, less), rose.1)) (λ m k n kept left. left)) ends.cleared;
  others = told_then _ _ _ _ _ _ first ends.others (λ m k n one two q a b c d. two q a b c d ∙ one q a b c d);
  cause = record { later = omega (arith, less, ends.cause.later); cause = λ failed. omega (arith, less, ends.cause.cause failed) };
}

-- a part failed, and the working files were taken away

abbrev fault_of : {X : Type 0} → Result X RepairFault → RepairFault
fault_of (Ok x) = Memory
fault_of (Err f) = f

pub cleared_ends : {X : Type 0} (t : FourNames) (old mid new : Option Holding) (before between now : ℕ) (f : RepairFault) → CutsOff f → (f ≡ File → Rose before between) → before ≤ between → Told old mid (KeepsBut t) → between ≤ now → Told mid new (KeepsBut t)
    → ((more : ℕ) → RoseAtMost more between now → Told mid new (λ m n. working_left t n ≤ more)) → EndsCutOff {X = X} t old new before now (Err f)
cleared_ends t old mid new before between now f cut rose less kept later others gone = record {
  reason = cut;
  cleared = λ more few. told_then _ _ _ _ _ _ kept (gone more (by more cut few)) (λ m k n one left. left);
  others = told_then _ _ _ _ _ _ kept others (λ m k n one two q a b c d. two q a b c d ∙ one q a b c d);
  cause = record { later = omega (arith, less, later); cause = λ failed. omega (arith, rose (ap fault_of failed), later) };
}
  where
    by : (more : ℕ) → CutsOff f → RoseAtMost (faults_told f + more) before now → RoseAtMost more between now
    by more (inl file) few = (omega (arith, few.0, few.1, rose file, later, ap faults_told file), few.1)
    by more (inr memory) few = (omega (arith, few.0, less, ap faults_told memory), few.1)

-- the same error for another answer
pub ends_again : {X Y : Type 0} (t : FourNames) (old new : Option Holding) (before now : ℕ) (f : RepairFault) (result : Result Y RepairFault) → result ≡ Err f → EndsCutOff {X = X} t old new before now (Err f) → EndsCutOff {X = Y} t old new before now result
ends_again t old new before now f result is ends = subst (λ r. EndsCutOff t old new before now r) (sym is) (record {
  reason = ends.reason;
  cleared = ends.cleared;
  others = ends.others;
  cause = record { later = ends.cause.later; cause = λ failed. ends.cause.cause (ap Err (ap fault_of failed)) };
})
