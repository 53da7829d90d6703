-- How a call that sorts a table ends, by how its last part ends.
use Rattle.std.proofs.Common.{◌≡◌, ◌⊎◌, ◌≤◌, ◌+◌, ◌∙◌, ℕ, Option, Ok, Err, inl, inr, refl, sym, ap, subst, arith, List}
use Rattle.std.specs.Prelude.{Result}
use Rattle.std.proofs.lemmas.Result.{IfErr-weaker}
use Rattle.myi_base.specs.Holding.{Holding, Told}
use Rattle.myi_base.specs.Causes.{Rose}
use Rattle.myi_base.specs.HandsOn.{HandsOn}
use Rattle.myi_base.proofs.CallerLemmas.{told_same, told_more, told_then}
use Rattle.myi_repair.specs.declared.fault.RepairFault.{RepairFault}
use Rattle.myi_repair.specs.declared.fault.RepairFault.TheVariants as repair
use Rattle.myi_repair.specs.Faults.{RoseAtMost}
use Rattle.myi_repair.specs.Faults as repairs
use Rattle.myi_repair.specs.Names.{FourNames, names_for, KeepsBut, Clears, working_left}
use Rattle.myi_repair.specs.Outcome as ends
use Rattle.myi_order.specs.declared.fault.OrderFault.{OrderFault}
use Rattle.myi_order.specs.declared.fault.OrderFault.TheVariants.{File, Memory, NoKey, Damaged}
use Rattle.myi_opening.specs.declared.fault.TableFault.{TableFault}
use Rattle.myi_opening.specs.declared.fault.TableFault.TheVariants as table
use Rattle.myi_pair.specs.declared.finding.Finding.{Finding}
use Rattle.myi_order.specs.Faults.{CutsOff, faults_told, order_fault}
use Rattle.myi_order.specs.Sorting.{IsRefused}
use Rattle.myi_order.specs.Outcome.{Ends, EndsCutOff}

-- what is cut off ends so
pub cut_off_ends : {X : Type 0} (t : FourNames) (name : List ℕ) (k : ℕ) (old new : Option Holding) (before now : ℕ) (result : Result X OrderFault) → t ≡ names_for name → EndsCutOff t old new before now result → Ends name k old new before now result
cut_off_ends t name k old new before now result same ends = record {
  reason = IfErr-weaker result _ _ (λ f cut. inl cut) ends.reason;
  cleared = IfErr-weaker result _ _ (λ f gone more rose. told_more _ _ _ _ (gone more rose) (λ m n held left. inr (subst (λ v. working_left v n ≤ more) same left))) ends.cleared;
  others = subst (λ v. Told old new (KeepsBut v)) same ends.others;
  cause = ends.cause;
}

-- and so it does behind a part that went well
pub cut_off_later : {X : Type 0} (t : FourNames) (old mid new : Option Holding) (before between now : ℕ) (result : Result X OrderFault) → Told old mid (KeepsBut t) → before ≤ between → EndsCutOff t mid new between now result → EndsCutOff t old new before now result
cut_off_later t old mid new before between now result first less ends = record {
  reason = ends.reason;
  cleared = IfErr-weaker result _ _ (λ f gone more rose. told_then _ _ _ _ _ _ first (gone more (omega (arith, rose.0, less), rose.1)) (λ m k n kept left. left)) ends.cleared;
  others = told_then _ _ _ _ _ _ first ends.others (λ m k n one two q a b c d. two q a b c d ∙ one q a b c d);
  cause = record { later = omega (arith, less, ends.cause.later); cause = λ failed. omega (arith, less, ends.cause.cause failed) };
}

abbrev fault_of : {X : Type 0} → Result X OrderFault → OrderFault
fault_of (Ok x) = Memory
fault_of (Err f) = f

-- a part failed, and the working files were taken away
pub cleared_ends : {X : Type 0} (t : FourNames) (old mid new : Option Holding) (before between now : ℕ) (f : OrderFault) → CutsOff f → (f ≡ File → Rose before between) → before ≤ between → Told old mid (KeepsBut t) → between ≤ now → Told mid new (KeepsBut t)
    → ((more : ℕ) → RoseAtMost more between now → Told mid new (λ m n. working_left t n ≤ more)) → EndsCutOff {X = X} t old new before now (Err f)
cleared_ends t old mid new before between now f cut rose less kept later others gone = record {
  reason = cut;
  cleared = λ more few. told_then _ _ _ _ _ _ kept (gone more (by more cut few)) (λ m k n one left. left);
  others = told_then _ _ _ _ _ _ kept others (λ m k n one two q a b c d. two q a b c d ∙ one q a b c d);
  cause = record { later = omega (arith, less, later); cause = λ failed. omega (arith, rose (ap fault_of failed), later) };
}
  where
    by : (more : ℕ) → CutsOff f → RoseAtMost (faults_told f + more) before now → RoseAtMost more between now
    by more (inl file) few = (omega (arith, few.0, few.1, rose file, later, ap faults_told file), few.1)
    by more (inr memory) few = (omega (arith, few.0, less, ap faults_told memory), few.1)

-- the same error for another answer
pub ends_again : {X Y : Type 0} (t : FourNames) (old new : Option Holding) (before now : ℕ) (f : OrderFault) (result : Result Y OrderFault) → result ≡ Err f → EndsCutOff {X = X} t old new before now (Err f) → EndsCutOff {X = Y} t old new before now result
ends_again t old new before now f result is ends = subst (λ r. EndsCutOff t old new before now r) (sym is) (record {
  reason = ends.reason;
  cleared = ends.cleared;
  others = ends.others;
  cause = record { later = ends.cause.later; cause = λ failed. ends.cause.cause (ap Err (ap fault_of failed)) };
})

-- a part of a repair that was cut off
pub repair_cut_off : {X Y : Type 0} (t : FourNames) (old new : Option Holding) (before now : ℕ) (e : RepairFault) (f : OrderFault) → HandsOn (repair.File, File) (repair.Memory, Memory) e f → ends.EndsCutOff {X = X} t old new before now (Err e) → EndsCutOff {X = Y} t old new before now (Err f)
repair_cut_off {X} {Y} t old new before now e f (inl file) ends = record {
  reason = inl file.1;
  cleared = λ more few. ends.cleared more (subst (λ n. RoseAtMost (n + more) before now) (ap faults_told file.1 ∙ sym (ap repairs.faults_told file.0)) few);
  others = ends.others;
  cause = record { later = ends.cause.later; cause = λ failed. ends.cause.cause (ap (λ (x : RepairFault). Err x) file.0) };
}
repair_cut_off {X} {Y} t old new before now e f (inr memory) ends = record {
  reason = inr memory.1;
  cleared = λ more few. ends.cleared more (subst (λ n. RoseAtMost (n + more) before now) (ap faults_told memory.1 ∙ sym (ap repairs.faults_told memory.0)) few);
  others = ends.others;
  cause = record { later = ends.cause.later; cause = λ failed. absurd (differ (sym memory.1 ∙ ap fault_of failed)) };
}
  where
    differ : Memory ≡ File → ⊥
    differ same = cc

-- ---- refusals, and what cut a call off before anything was changed

pub file_of : (e : TableFault) → order_fault e ≡ File → e ≡ table.File
file_of (table.Absent f) same = absurd cc
file_of (table.Def f) same = absurd cc
file_of table.File same = refl
file_of table.Memory same = absurd cc

pub no_file : (n : ℕ) → NoKey n ≡ File → ⊥
no_file n same = cc

pub damage_no_file : (found : Finding) → Damaged found ≡ File → ⊥
damage_no_file found same = cc

pub rose_later : (before between now : ℕ) → before ≤ between → Rose between now → Rose before now
rose_later before between now less rose = omega (arith, less, rose)

pub refused_ends : {X : Type 0} (name : List ℕ) (k : ℕ) (old new : Option Holding) (before now : ℕ) (f : OrderFault) (result : Result X OrderFault) → result ≡ Err f → CutsOff f ⊎ IsRefused name k f old new → new ≡ old → before ≤ now → (f ≡ File → Rose before now) → Ends name k old new before now result
refused_ends name k old new before now f result is reason same later rose = subst (λ r. Ends name k old new before now r) (sym is) (record {
  reason = reason;
  cleared = λ more few. told_same old new (Clears more (names_for name)) same (λ m held. inl refl);
  others = told_same old new (KeepsBut (names_for name)) same (λ m held q a b c d. refl);
  cause = record { later = later; cause = λ failed. rose (ap fault_of failed) };
})

-- the files stayed
pub all_kept : (t : FourNames) (old new : Option Holding) → new ≡ old → Told old new (KeepsBut t)
all_kept t old new same = told_same old new (KeepsBut t) same (λ m held q a b c d. refl)
