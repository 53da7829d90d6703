-- How a call that sorts a table ends, whatever it does: what an error tells and leaves, which files stay as they are, and when a
-- fault is told (the words are this project's own).
use Rattle.std.specs.Prelude.{◌⊎◌, ◌≤◌, ◌+◌, ℕ, List, Option, Result, IfErr}
use Rattle.myi_base.specs.Holding.{Holding, Told, OthersStay}
use Rattle.myi_base.specs.Causes.{HasCause}
use Rattle.myi_repair.specs.Faults.{RoseAtMost}
use Rattle.myi_repair.specs.Names.{FourNames, names_for, KeepsBut, Clears, working_left}
use Rattle.myi_order.specs.declared.fault.OrderFault.{OrderFault}
use Rattle.myi_order.specs.declared.fault.OrderFault.TheVariants.{File}
use Rattle.myi_order.specs.Faults.{CutsOff, faults_told}
use Rattle.myi_order.specs.Sorting.{IsRefused}

-- A call in which the files' count of faults rose from the one number to the other ends so: an error is that it was cut off,
-- this is what stays of the files, and a fault of a file is told only where one was counted.
pub record EndsWith {X : Type 0} (stays : Type 0) (before now : ℕ) (result : Result X OrderFault) : Type 0 where
  pub cut : IfErr result CutsOff
  pub others : stays
  pub cause : HasCause File before now result

-- a call on the file of this name: files of other names stay
abbrev pub EndsIn : {X : Type 0} → List ℕ → Option Holding → Option Holding → ℕ → ℕ → Result X OrderFault → Type 0
EndsIn file old new before now result = EndsWith (Told old new (OthersStay file)) before now result

-- A call on the files of these names, in which their count of faults rose from the one number to the other, ends so: an error
-- has one of these reasons, and where no more calls failed besides the one that it tells of, it leaves what is allowed to
-- stay behind so many failures.
pub record EndsBy {X : Type 0} (reasons : OrderFault → Type 0) (left : ℕ → Holding → Holding → Type 0) (t : FourNames) (old new : Option Holding) (before now : ℕ) (result : Result X OrderFault) : Type 0 where
  pub reason : IfErr result reasons
  pub cleared : IfErr result (λ f. (more : ℕ) → RoseAtMost (faults_told f + more) before now → Told old new (left more))
  -- the files of all other names stay
  pub others : Told old new (KeepsBut t)
  -- a fault of a file is told only where one was counted
  pub cause : HasCause File before now result

-- it was cut off, and each working file is gone, but for one for each call that failed besides
abbrev pub EndsCutOff : {X : Type 0} → FourNames → Option Holding → Option Holding → ℕ → ℕ → Result X OrderFault → Type 0
EndsCutOff t old new before now result = EndsBy CutsOff (λ more m n. working_left t n ≤ more) t old new before now result

-- it was cut off, or the table is refused; then nothing is changed, or each working file is gone, but for one for each call
-- that failed besides
abbrev pub Ends : {X : Type 0} → List ℕ → ℕ → Option Holding → Option Holding → ℕ → ℕ → Result X OrderFault → Type 0
Ends name k old new before now result = EndsBy (λ f. CutsOff f ⊎ IsRefused name k f old new) (λ more. Clears more (names_for name)) (names_for name) old new before now result
