-- The statement of a line.
use Rattle.std.proofs.Common.{◌≡◌, ℕ, Bool, true, false, eqb, List, [], ◌∷◌, refl}
use Rattle.std.specs.Prelude.{IfSome}
use Rattle.std.specs.List.{AllByRecursion}
use Rattle.myi_script.specs.declared.types.Act.{Act}
use Rattle.myi_script.specs.declared.types.Line.{Line}
use Rattle.myi_history.specs.Lines.{act_of}

-- what all statements meet, that of a line meets
pub act_meets : (P : Act → Type 0) (ls : List Line) (n : ℕ) → AllByRecursion (λ (l : Line). P l.act) ls → IfSome (act_of ls n) P
act_meets P [] n all = tt
act_meets P (l ∷ ls) n all = here (eqb l.line n) refl (act_meets P ls n all.1) where
  here : (b : Bool) → eqb l.line n ≡ b → IfSome (act_of ls n) P → IfSome (act_of (l ∷ ls) n) P
  here true is more = rw is all.0
  here false is more = rw is more
