-- A step that meets damage, which files that tell what they hold give no cause for: its line is the last that is noted, and it is
-- printed with those before it.
use Rattle.std.specs.Prelude.{◌≡◌, ◌⊎◌, ℕ, List, [], ◌∷◌, ◌++◌, Option, Some}
use Rattle.myi_base.specs.Holding.{IfTold}
use Rattle.myi_history.specs.Answers.{numbered, damaged_text}
use Rattle.myi_history.specs.RoundTexts.{LineText}
use Rattle.myi_shell.specs.declared.fault.ShellFault.{ShellFault}
use Rattle.myi_shell.specs.declared.fault.ShellFault.TheVariants as fault

abbrev pub IsDamage : ShellFault → Type 0
IsDamage (fault.Damaged at) = Unit {0}
IsDamage fault.File = ⊥
IsDamage fault.Sink = ⊥
IsDamage fault.Memory = ⊥

-- where a fault is damage, the line on it is the last of these
abbrev pub IsNoted : List LineText → ShellFault → Type 0
IsNoted texts (fault.Damaged at) = (front : List LineText) × (n : ℕ) × (texts ≡ front ++ (n, numbered n (damaged_text at)) ∷ [])
IsNoted texts fault.File = Unit {0}
IsNoted texts fault.Sink = Unit {0}
IsNoted texts fault.Memory = Unit {0}

-- something was written behind what was there
abbrev pub Extends : Option (List ℕ) → List ℕ → Type 0
Extends new old = (more : List ℕ) × (new ≡ Some (old ++ more))

-- where a fault is damage, a line on it stands in what was written behind what was there
abbrev pub IsPrintedDamage : Option (List ℕ) → Option (List ℕ) → ShellFault → Type 0
IsPrintedDamage start printed (fault.Damaged at) = IfTold start (λ xs. (n : ℕ) × (before : List ℕ) × (behind : List ℕ)
    × (printed ≡ Some (xs ++ (before ++ (numbered n (damaged_text at) ++ behind)))))
IsPrintedDamage start printed fault.File = Unit {0}
IsPrintedDamage start printed fault.Sink = Unit {0}
IsPrintedDamage start printed fault.Memory = Unit {0}

-- what is answered in the place of a fault: the fault, or, where the line on damage cannot be printed, that
abbrev pub IsToldFor : ShellFault → ShellFault → Type 0
IsToldFor f told = (told ≡ f) ⊎ (IsDamage f × ((told ≡ fault.Sink) ⊎ (told ≡ fault.Memory)))
