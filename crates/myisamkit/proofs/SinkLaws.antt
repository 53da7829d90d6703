-- What was written, and what holds, where a run was cut off.
use Rattle.std.proofs.Common.{◌≡◌, arith, ℕ, List, Option, Some, Result, Ok, Err, sym, subst, ap, ◌∙◌, append-nil}
use Rattle.std.specs.Prelude.{OnErr}
use Rattle.myi_base.specs.Holding.{IfTold}
use Rattle.myi_base.specs.Output.{AppendsPart}
use Rattle.myisamkit.specs.declared.status.Status.{Status}
use Rattle.myisamkit.specs.declared.status.Status.TheVariants as status
use Rattle.myisamkit.specs.declared.status.Stop.{Stop}
use Rattle.myisamkit.specs.declared.status.Stop.TheVariants as stop
use Rattle.myisamkit.specs.Statuses.{IsFault}
use Rattle.myisamkit.specs.Stops.{status_of_stop, IfSink}

-- nothing was written
pub nothing_said : (text : List ℕ) (w : Option (List ℕ)) → IfTold w (AppendsPart text w)
nothing_said text w b was = (0, omega arith, was ∙ ap Some (sym (append-nil b)))

-- what holds anyway holds of an error
pub on_err : {A E : Type 0} (r : Result A E) (P : Type 0) → P → OnErr r P
on_err (Ok x) P p = tt
on_err (Err e) P p = p

-- the status of a failed output tells that the output failed
pub fails_of : {T : Type 0} (s : Stop) (r : Result T Stop) (P : Type 0) → r ≡ Err s → IfSink r P → status_of_stop s ≡ status.SinkFault → P
fails_of stop.File r P is fails same = absurd (let bad : status.FileFault ≡ status.SinkFault = same in cc)
fails_of stop.Sink r P is fails same = fails is
fails_of stop.Memory r P is fails same = absurd (let bad : status.Memory ≡ status.SinkFault = same in cc)

-- no run that nothing cuts off has it
pub fails_never : (s : Status) (P : Type 0) → (IsFault s → ⊥) → s ≡ status.SinkFault → P
fails_never s P plain same = absurd (plain (subst IsFault (sym same) tt))
