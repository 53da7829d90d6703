-- What the turn of a table that is checked comes to.
use Rattle.std.proofs.Common.{◌≡◌, ◌≢◌, ◌≤◌, ◌+◌, ℕ, Bool, true, false, List, [], ◌∷◌, ◌++◌, length, take, length-append, Option, Some, Result, Ok, Err, refl, sym, subst, ap, ◌∙◌, arith, inr, append_assoc}
use Rattle.std.specs.Prelude.{◌&&◌, OnOk, OnErr}
use Rattle.std.proofs.lemmas.List.{take-append-le}
use Rattle.std.proofs.Math.Seq.{take-append-add}
use Rattle.myi_base.specs.Holding.{Holding, IfTold}
use Rattle.myi_base.specs.Output.{Appends, AppendsPart}
use Rattle.myi_opening.specs.declared.fault.TableFault.{TableFault}
use Rattle.myi_opening.specs.declared.fault.TableFault.TheVariants as fault
use Rattle.myi_pair.specs.declared.finding.Finding.{Finding}
use Rattle.myi_check.specs.Checking.{findings_in}
use Rattle.myisamkit.specs.declared.options.Options.{Options}
use Rattle.myisamkit.specs.declared.status.Status.{Status}
use Rattle.myisamkit.specs.declared.status.Status.TheVariants as status
use Rattle.myisamkit.specs.declared.status.Stop.{Stop}
use Rattle.myisamkit.specs.declared.status.Stop.TheVariants as stop
use Rattle.myisamkit.proofs.TurnLaws.{repair_earlier}
use Rattle.myisamkit.specs.Turns.{checked_text, checked_status, RepairStops, CheckStops, has_findings, checked_turn, check_turn_by, check_turn, goes_on, without_extend, recover_turn, RepairDone, CheckDone, CheckDoneBy, CheckCutOff}

-- the status says whether something was found
pub found_by : (r : Result (List Finding) TableFault) → checked_status r ≡ status.Findings → has_findings r ≡ true
found_by (Err (fault.Absent f)) is = absurd cc
found_by (Err (fault.Def f)) is = absurd cc
found_by (Err fault.File) is = absurd cc
found_by (Err fault.Memory) is = absurd cc
found_by (Ok []) is = absurd cc
found_by (Ok (f ∷ fs)) is = refl

pub none_by : (r : Result (List Finding) TableFault) → checked_status r ≢ status.Findings → has_findings r ≡ false
none_by (Err f) other = refl
none_by (Ok []) other = refl
none_by (Ok (f ∷ fs)) other = absurd (other refl)

and_false : (a b : Bool) → b ≡ false → (a && b) ≡ false
and_false true b e = e
and_false false b e = refl

-- a repair follows
pub follows : (o : Options) (name : List ℕ) (m : Holding) → o.force ≡ true → checked_status (findings_in name m) ≡ status.Findings → goes_on o name m ≡ true
follows o name m forced is = rw forced (found_by (findings_in name m) is)

-- none follows
pub ends_here : (o : Options) (name : List ℕ) (m : Holding) → (o.force ≡ false) → goes_on o name m ≡ false
ends_here o name m unforced = rw unforced refl

pub ends_sound : (o : Options) (name : List ℕ) (m : Holding) → checked_status (findings_in name m) ≢ status.Findings → goes_on o name m ≡ false
ends_sound o name m other = and_false o.force _ (none_by (findings_in name m) other)

-- a part of the first lines is a part of all
pub part_first : (text more : List ℕ) (v : Option (List ℕ)) (b : List ℕ) → AppendsPart text v b → AppendsPart (text ++ more) v b
part_first text more v b part = (part.0, omega (arith, part.1, length-append text more), part.2 ∙ ap (λ l. Some (b ++ l)) (sym (take-append-le part.0 text more part.1)))

-- a part of the lines behind them
pub part_second : (text more : List ℕ) (w v : Option (List ℕ)) (b : List ℕ) → Appends text w b → ((c : List ℕ) → w ≡ Some c → AppendsPart more v c) → AppendsPart (text ++ more) v b
part_second text more w v b first second =
    let q = second (b ++ text) first in
    (length text + q.0, omega (arith, q.1, length-append text more), q.2 ∙ ap Some (append_assoc b text (take q.0 more) ∙ ap (λ l. b ++ l) (sym (take-append-add text more q.0))))

pub both_texts : (text more : List ℕ) (w v : Option (List ℕ)) (b : List ℕ) → Appends text w b → ((c : List ℕ) → w ≡ Some c → Appends more v c) → Appends (text ++ more) v b
both_texts text more w v b first second = second (b ++ text) first ∙ ap Some (append_assoc b text more)

-- whatever follows, part of what the check says is part of the turn's text
pub part_of_turn : (o : Options) (now : ℕ) (name : List ℕ) (m : Holding) (v : Option (List ℕ)) (b : List ℕ) → AppendsPart (checked_turn o name m).text v b → AppendsPart (check_turn o now name m).text v b
part_of_turn o now name m v b part = by (goes_on o name m)
  where
    by : (g : Bool) → AppendsPart (check_turn_by g o now name m).text v b
    by false = part
    by true = part_first (checked_turn o name m).text (recover_turn (without_extend o) now name m).text v b part

-- all lines of a check that a repair follows
pub said_both : (o p : Options) (now : ℕ) (name line : List ℕ) (s : Status) (m : Holding) (w0 w1 w2 : Option (List ℕ)) → o.force ≡ true → s ≡ status.Findings → p ≡ without_extend o
    → s ≡ checked_status (findings_in name m) → line ≡ checked_text o name (findings_in name m)
    → IfTold w0 (Appends line w1) → IfTold w1 (Appends (recover_turn p now name m).text w2) → IfTold w0 (Appends (check_turn o now name m).text w2)
said_both o p now name line s m w0 w1 w2 forced found plain is text first second b was =
    subst (λ g. Appends (check_turn_by g o now name m).text w2 b) (sym (follows o name m forced (sym is ∙ found)))
    (both_texts (checked_text o name (findings_in name m)) (recover_turn (without_extend o) now name m).text w1 w2 b
    (subst (λ l. Appends l w1 b) text (first b was))
    (λ c e. subst (λ q. Appends (recover_turn q now name m).text w2 c) plain (second c e)))

-- a part of them
pub part_both : (o p : Options) (now : ℕ) (name line : List ℕ) (s : Status) (m : Holding) (w0 w1 w2 : Option (List ℕ)) → o.force ≡ true → s ≡ status.Findings → p ≡ without_extend o
    → s ≡ checked_status (findings_in name m) → line ≡ checked_text o name (findings_in name m)
    → IfTold w0 (Appends line w1) → IfTold w1 (AppendsPart (recover_turn p now name m).text w2) → IfTold w0 (AppendsPart (check_turn o now name m).text w2)
part_both o p now name line s m w0 w1 w2 forced found plain is text first second b was =
    subst (λ g. AppendsPart (check_turn_by g o now name m).text w2 b) (sym (follows o name m forced (sym is ∙ found)))
    (part_second (checked_text o name (findings_in name m)) (recover_turn (without_extend o) now name m).text w1 w2 b
    (subst (λ l. Appends l w1 b) text (first b was))
    (λ c e. subst (λ q. AppendsPart (recover_turn q now name m).text w2 c) plain (second c e)))

-- the repair that follows was done
pub done_behind : (o p : Options) (now : ℕ) (name : List ℕ) (s : Status) (m n : Holding) → o.force ≡ true → s ≡ status.Findings → p ≡ without_extend o → s ≡ checked_status (findings_in name m) → RepairDone p now name m n → CheckDone o now name m n
done_behind o p now name s m n forced found plain is done =
    subst (λ g. CheckDoneBy g o now name m n) (sym (follows o name m forced (sym is ∙ found))) (subst (λ q. RepairDone q now name m n) plain done)

-- the repair that follows stopped
pub stops_behind : (o p : Options) (now before at after : ℕ) (name : List ℕ) (s : Status) (m n : Holding) (stopped : Stop) → o.force ≡ true → s ≡ status.Findings → p ≡ without_extend o
    → s ≡ checked_status (findings_in name m) → before ≤ at → RepairStops p now at after name stopped m n → CheckStops o now before after name stopped m n
stops_behind o p now before at after name s m n stopped forced found plain is later stops = by stopped (subst (λ q. RepairStops q now at after name stopped m n) plain stops)
  where
    goes : goes_on o name m ≡ true
    goes = follows o name m forced (sym is ∙ found)

    by : (k : Stop) → RepairStops (without_extend o) now at after name k m n → CheckStops o now before after name k m n
    by stop.File cut = subst (λ g. CheckCutOff g o now 1 before after name m n) (sym goes) (repair_earlier (without_extend o) now 1 before at after name m n later cut)
    by stop.Memory cut = subst (λ g. CheckCutOff g o now 0 before after name m n) (sym goes) (repair_earlier (without_extend o) now 0 before at after name m n later cut)
    by stop.Sink repaired = inr (subst (λ g. CheckDoneBy g o now name m n) (sym goes) repaired)

pub on_ok_more : {A E : Type 0} (r : Result A E) (P Q : Type 0) → (P → Q) → OnOk r P → OnOk r Q
on_ok_more (Ok x) P Q f p = f p
on_ok_more (Err e) P Q f p = tt

pub on_err_more : {A E : Type 0} (r : Result A E) (P Q : Type 0) → (P → Q) → OnErr r P → OnErr r Q
on_err_more (Ok x) P Q f p = tt
on_err_more (Err e) P Q f p = f p
