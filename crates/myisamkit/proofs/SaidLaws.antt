-- What is said by a run, by the request.
use Rattle.std.proofs.Common.{ℕ, List, Option, Result, Ok, Err, inl, inr}
use Rattle.std.specs.Prelude.{IfOk, OnOk}
use Rattle.myi_base.specs.Holding.{Holding, IfTold}
use Rattle.myisamkit.specs.declared.status.Status.{Status}
use Rattle.myisamkit.specs.Statuses.{IsFault}
use Rattle.myisamkit.specs.Words.{Request, usage, chk, create, dump, make, shell}
use Rattle.myisamkit.specs.declared.status.Stop.{Stop}
use Rattle.myisamkit.specs.Shells.{ShellComesTo, ShellSaid}
use Rattle.myisamkit.specs.Runs.{SaysText, SaidText, SaidPart}

-- what holds of success holds whatever is answered
pub if_ok : {A E : Type 0} (r : Result A E) (P : Type 0) → OnOk r P → IfOk r (λ x. P)
if_ok (Ok x) P p = p
if_ok (Err e) P p = tt

pub whole_said : (request : Request) (now : ℕ) (s : Status) (told : Option Holding) (old new : Option (List ℕ)) → (IsFault s → ⊥) → IfTold told (SaidText request now s old new) → IfTold told (SaysText request now old new s)
whole_said usage now s told old new plain said = λ m held w was. inr (plain, said m held w was)
whole_said (chk o names) now s told old new plain said = λ m held. inr (plain, said m held)
whole_said (create name file) now s told old new plain said = λ m held w was. inr (plain, said m held w was)
whole_said (dump name) now s told old new plain said = λ m held w was. inr (plain, said m held w was)
whole_said (make count seed name) now s told old new plain said = λ m held w was. inr (plain, said m held w was)
whole_said (shell o name script) now s told old new plain said = λ m held. inr (plain, said m held)

pub part_said : (request : Request) (now : ℕ) (s : Status) (told : Option Holding) (old new : Option (List ℕ)) → IsFault s → IfTold told (SaidPart request now old new) → IfTold told (SaysText request now old new s)
part_said usage now s told old new fault said = λ m held w was. inl (fault, said m held w was)
part_said (chk o names) now s told old new fault said = λ m held. inl (fault, said m held)
part_said (create name file) now s told old new fault said = λ m held w was. inl (fault, said m held w was)
part_said (dump name) now s told old new fault said = λ m held w was. inl (fault, said m held w was)
part_said (make count seed name) now s told old new fault said = λ m held w was. inl (fault, said m held w was)
part_said (shell o name script) now s told old new fault said = λ m held. inl (fault, said m held)

-- what is said of a script tells the status
pub status_of : (r : Result Status Stop) (setting : ℕ) (name script : List ℕ) (told : Option Holding) (old new : Option (List ℕ)) → IfOk r (λ s. IfTold told (ShellSaid setting name script s old new)) → IfOk r (λ s. IfTold told (λ m. (said : List ℕ) × ShellComesTo setting name script m said s))
status_of (Ok s) setting name script told old new said = λ m held. let t = said m held in (t.0, t.1)
status_of (Err e) setting name script told old new said = tt
