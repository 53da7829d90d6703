-- A script from its first round to its last.
use Rattle.std.proofs.Common.{◌≡◌, ℕ, Bool, List, [], ◌++◌, Option, Some, None, Result, Err, refl, sym, ap, subst, ◌∙◌, arith}
use Rattle.std.proofs.lemmas.List.{append-nil}
use Rattle.myi_base.specs.Holding.{Holding}
use Rattle.myi_defs.specs.declared.types.Defs.{Defs}
use Rattle.myi_locks.specs.Laws.{IsLawful}
use Rattle.myi_locks.specs.Rounds.{LockState}
use Rattle.myi_locks.proofs.CallerLemmas.{opens}
use Rattle.myi_script.specs.declared.types.Line.{Line}
use Rattle.myi_history.specs.Lines.{MayRun, script_steps}
use Rattle.myi_history.specs.History.{is_list, Statements, Opening}
use Rattle.myi_history.proofs.CallerLemmas.{has_begun, stops, steps_run}
use Rattle.myi_shell.specs.declared.target.Target.{Target}
use Rattle.myi_shell.specs.Targets.{Standing, taking, defs_in, script_on, HoldState, IfHolds, IsCarried}
use Rattle.myi_shell.specs.declared.fault.ShellFault.{ShellFault}
use Rattle.myi_shell.specs.declared.fault.ShellFault.TheVariants as fault
use Rattle.myi_shell.specs.Stepping.{RunState, begun, length_in}
use Rattle.myi_shell.specs.Running.{opening_on, Before, standing, ForOpening, HasDone, HasGoneOn, IsPrintedPart, IsStopped, StandsBehind}
use Rattle.myi_shell.proofs.CarryLemmas.{told_on}
use Rattle.myi_shell.proofs.TargetTouches.{touched_none}
use Rattle.myi_shell.proofs.TargetLemmas.{state_is, length_is}
use Rattle.myi_shell.proofs.LoopLemmas.{script_same}
use Rattle.myi_shell.proofs.RoundsLemmas.{front_part}

-- nothing was printed
pub nothing_printed : (o : Opening) (out : Option (List ℕ)) → IsPrintedPart o out out
nothing_printed o out =
    let e = stops o [] [] (has_begun o) in
    record { numbers = e.0; within = e.1; text = λ old is. front_part _ [] e.2 e.3 0 [] (omega arith) e.2 refl old out (is ∙ ap Some (sym (append-nil old) ∙ sym (append-nil (old ++ [])))) }

-- a script before its first round
pub begins : (ls : List Line) (setting : ℕ) (s : Standing) (t : Target) (told : Option Holding) (m : Holding) (out : Option (List ℕ)) (p : RunState) → told ≡ Some m → HoldState t s m → p ≡ begun setting (is_list (taking t)) ls (length_in t)
    → HasDone (opening_on (defs_in t) (script_on t ls) setting s) (standing out told t) told p t out
begins ls setting s t told m out p held h is =
    let o = opening_on (defs_in t) (script_on t ls) setting s in
    record {
      front = [];
      numbers = [];
      stands = record {
        run = has_begun o;
        locks = ap (λ (z : RunState). z.locks) is;
        table = (m, held, h);
        number = ap (λ (z : RunState). z.number) is;
        taken = λ n. ap (λ (z : RunState). z.taken n) is ∙ ap (λ k. record { number = 0; length = k }) (length_is t s m h);
        counted = record { read_requests = omega arith; reads = omega arith; write_requests = omega arith; writes = omega arith };
        texts = ap (λ (z : RunState). z.texts) is;
      };
      text = λ xs told. told ∙ ap Some (sym (append-nil xs));
      touched = touched_none told told t 0 refl;
    }

pub begun_lawful : (d : Defs) (ls : List Line) (setting : ℕ) (list : Bool) (length : ℕ) (p : RunState) → MayRun d ls → p ≡ begun setting list ls length → IsLawful p.locks.sessions
begun_lawful d ls setting list length p may is = subst (λ (r : LockState). IsLawful r.sessions) (sym (ap (λ (z : RunState). z.locks) is)) (opens setting (script_steps list ls) (steps_run d ls may list))

-- a target that goes on takes the rows of the script in the same table
openings_on : (old half : Target) (lines : List Line) (P : Opening → Before → Type 0) → defs_in half ≡ defs_in old → taking half ≡ taking old → ForOpening (defs_in half) (script_on half lines) P → ForOpening (defs_in old) (script_on old lines) P
openings_on old half lines P same takes played =
    let one : ForOpening (defs_in old) (script_on half lines) P = subst (λ (d : Defs). ForOpening d (script_on half lines) P) same played in
    subst (λ (ls : Statements). ForOpening (defs_in old) ls P) (script_same old half lines takes) one

-- however the target stood, one round more
pub goes_on_by : (told mid next : Option Holding) (old half table : Target) (lines : List Line) (setting : ℕ) (from : Before) (out printed : Option (List ℕ)) (p q : RunState) (more : Bool) → defs_in half ≡ defs_in old → taking half ≡ taking old
    → IfHolds told old (λ m s. HasDone (opening_on (defs_in old) (script_on old lines) setting s) from mid p half out)
    → ForOpening (defs_in half) (script_on half lines) (λ o was. HasDone o was mid p half out → HasGoneOn more o was next q table printed)
    → IfHolds told old (λ m s. HasGoneOn more (opening_on (defs_in old) (script_on old lines) setting s) from next q table printed)
goes_on_by told mid next old half table lines setting from out printed p q more same takes so_far played = λ m held s h.
    let all = openings_on old half lines (λ o was. HasDone o was mid p half out → HasGoneOn more o was next q table printed) same takes played in
    all setting s from (state_is old s m h) (so_far m held s h)

pub stops_by : (told mid : Option Holding) (old half : Target) (lines : List Line) (setting : ℕ) (from : Before) (out printed : Option (List ℕ)) (p : RunState) → defs_in half ≡ defs_in old → taking half ≡ taking old
    → IfHolds told old (λ m s. HasDone (opening_on (defs_in old) (script_on old lines) setting s) from mid p half out)
    → ForOpening (defs_in half) (script_on half lines) (λ o was. HasDone o was mid p half out → IsPrintedPart o was.printed printed)
    → IfHolds told old (λ m s. IsPrintedPart (opening_on (defs_in old) (script_on old lines) setting s) from.printed printed)
stops_by told mid old half lines setting from out printed p same takes so_far stopped = λ m held s h.
    let all = openings_on old half lines (λ o was. HasDone o was mid p half out → IsPrintedPart o was.printed printed) same takes stopped in
    all setting s from (state_is old s m h) (so_far m held s h)

pub stopped_before : (told mid : Option Holding) (old half : Target) (f : ShellFault) → IsCarried told mid old half → IsStopped mid f → IsStopped told f
stopped_before told mid old half (fault.Damaged at) carried never = λ m held. let k = told_on told mid old m carried.others held in never k.0 k.1
stopped_before told mid old half fault.File carried never = tt
stopped_before told mid old half fault.Sink carried never = tt
stopped_before told mid old half fault.Memory carried never = tt

pub stands_by : (told mid next : Option Holding) (old half table : Target) (lines : List Line) (setting : ℕ) (from : Before) (out printed : Option (List ℕ)) (p : RunState) → defs_in half ≡ defs_in old → taking half ≡ taking old
    → IfHolds told old (λ m s. HasDone (opening_on (defs_in old) (script_on old lines) setting s) from mid p half out)
    → ForOpening (defs_in half) (script_on half lines) (λ o was. HasDone o was mid p half out → StandsBehind o was next table printed)
    → IfHolds told old (λ m s. StandsBehind (opening_on (defs_in old) (script_on old lines) setting s) from next table printed)
stands_by told mid next old half table lines setting from out printed p same takes so_far stands = λ m held s h.
    let all = openings_on old half lines (λ o was. HasDone o was mid p half out → StandsBehind o was next table printed) same takes stands in
    all setting s from (state_is old s m h) (so_far m held s h)

pub err_is : {T : Type 0} {f g : ShellFault} → ◌≡◌ {A = Result T ShellFault} (Err f) (Err g) → f ≡ g
err_is e = cc

-- a call failed for the output, where the whole did for it
pub sink_again : {T U : Type 0} {result : Result T ShellFault} {called : Result U ShellFault} {f g : ShellFault} → result ≡ Err f → f ≡ g → called ≡ Err g → result ≡ Err fault.Sink → called ≡ Err fault.Sink
sink_again is same was failed = was ∙ ap Err (sym same ∙ err_is (sym is ∙ failed))
