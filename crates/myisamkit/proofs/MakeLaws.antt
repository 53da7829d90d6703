-- What the making of a table of rows comes to.
use Rattle.std.proofs.Common.{◌≡◌, ◌≢◌, ◌⊎◌, ◌/◌, ℕ, false, List, [], Option, Some, None, Result, Ok, Err, refl, sym, ap, subst, ◌∙◌, inl, inr}
use Rattle.std.specs.Prelude.{IfOk, OnOk}
use Rattle.myi_base.specs.Holding.{Holding, IfTold, Told}
use Rattle.myi_base.specs.HandsOn.{HandsOn}
use Rattle.myi_base.proofs.CallerLemmas.{told_more}
use Rattle.myi_io.specs.declared.sink.SinkErr.{SinkErr}
use Rattle.myi_io.specs.declared.sink.SinkErr.TheVariants as sink
use Rattle.myi_repair.specs.declared.report.Report.{Report}
use Rattle.myi_repair.specs.Names.{names_for, KeepsBut}
use Rattle.myi_make.specs.declared.fault.MakeFault.{MakeFault}
use Rattle.myi_make.specs.Faults.{CutsOff}
use Rattle.myi_make.specs.MadeTable.{defs, damaged_file}
use Rattle.myi_make.specs.Making.{LeavesMade}
use Rattle.myi_make.specs.declared.make.Made.{Made}
use Rattle.myisamkit.specs.declared.status.Status.{Status}
use Rattle.myisamkit.specs.declared.status.Status.TheVariants as status
use Rattle.myisamkit.specs.declared.status.Stop.{Stop}
use Rattle.myisamkit.specs.declared.status.Stop.TheVariants as stop
use Rattle.myisamkit.specs.Stops.{status_of_stop}
use Rattle.myisamkit.specs.Lines.{made_line}
use Rattle.myisamkit.specs.Makes.{make_turn, MakeDone, MakeLeaves}
use Rattle.myisamkit.proofs.TurnLaws.{is_replaced, sound_of}

some_same : {A : Type 0} (x y : A) (o : Option A) → o ≡ Some x → o ≡ Some y → x ≡ y
some_same x y o a b = let e : Some x ≡ Some y = sym a ∙ b in cc

-- ---- a table was made

done : (count seed : ℕ) (name : List ℕ) (now : ℕ) (made : Made) (m n : Holding) → LeavesMade name count seed now made m n → KeepsBut (names_for name) m n → MakeDone count seed name now m n
done count seed name now made m n left keeps = record {
  files = is_replaced (names_for name) _ _ m n left.repaired.holds keeps;
  recovered = left.repaired.recovered;
  sound = sound_of defs false (damaged_file count seed) now _ _ left.repaired.recovered;
}

pub done_told : (count seed : ℕ) (name : List ℕ) (now : ℕ) (made : Made) (old new : Option Holding) → Told old new (LeavesMade name count seed now made) → Told old new (KeepsBut (names_for name)) → Told old new (MakeDone count seed name now)
done_told count seed name now made old new left others = record {
  told = λ m held.
      let l = left.told m held in
      let k = others.told m held in
      (l.0, l.1, done count seed name now made m l.0 l.2 (subst (λ n. KeepsBut (names_for name) m n) (some_same k.0 l.0 new k.1 l.1) k.2));
  untold = left.untold;
}

pub said_told : (count seed : ℕ) (name : List ℕ) (now : ℕ) (made : Made) (text : List ℕ) (old new : Option Holding) → Told old new (LeavesMade name count seed now made) → made.damaged ≡ count / 10
    → (made.found.items ≡ [] → text ≡ made_line name count made.damaged made.report.kept) → IfTold old (λ m. text ≡ (make_turn count seed name now m).text)
said_told count seed name now made text old new left damaged says m held =
    let l = (left.told m held).2 in
    says l.found
    ∙ (ap (λ d. made_line name count d made.report.kept) damaged
    ∙ ap (λ (r : Report). made_line name count (count / 10) r.kept) l.repaired.report)

pub status_told : (count seed : ℕ) (name : List ℕ) (now : ℕ) (made : Made) (s : Status) (old new : Option Holding) → Told old new (LeavesMade name count seed now made)
    → (made.found.items ≡ [] → s ≡ status.Ok) → IfTold old (λ m. s ≡ (make_turn count seed name now m).status)
status_told count seed name now made s old new left says m held = says (left.told m held).2.found

-- ---- it was cut off, or nothing is told

untold_some : {A : Type 0} (o : Option A) (x : A) → o ≡ None → o ≡ Some x → ⊥
untold_some {A} o x none some = let e : ◌≡◌ {A = Option A} None (Some x) = sym none ∙ some in cc

pub never_told : {A E : Type 0} (r : Result A E) (f : MakeFault) (old : Option Holding) (P : A → Holding → Type 0) → CutsOff f ⊎ (old ≡ None) → IfOk r (λ x. CutsOff f → ⊥) → IfOk r (λ x. IfTold old (P x))
never_told (Err e) f old P why never = tt
never_told (Ok x) f old P (inl cut) never = absurd (never cut)
never_told (Ok x) f old P (inr none) never = λ m told. absurd (untold_some old m none told)

pub never_done : {A E : Type 0} (r : Result A E) (f : MakeFault) (old new : Option Holding) (P Q : Holding → Holding → Type 0) → CutsOff f ⊎ (old ≡ None) → IfOk r (λ x. CutsOff f → ⊥) → Told old new Q → OnOk r (Told old new P)
never_done (Err e) f old new P Q why never others = tt
never_done (Ok x) f old new P Q (inl cut) never others = absurd (never cut)
never_done (Ok x) f old new P Q (inr none) never others = record { told = λ m told. absurd (untold_some old m none told); untold = others.untold }

-- ---- what is left

pub ok_leaves : (count seed : ℕ) (name : List ℕ) (now : ℕ) (old new : Option Holding) → Told old new (MakeDone count seed name now) → Told old new (MakeLeaves count seed name now status.Ok)
ok_leaves count seed name now old new is = told_more old new (MakeDone count seed name now) (MakeLeaves count seed name now status.Ok) is (λ m n held d. d)

pub stop_leaves : (count seed : ℕ) (name : List ℕ) (now : ℕ) (s : Stop) (old new : Option Holding) → s ≢ stop.Sink → Told old new (KeepsBut (names_for name)) → Told old new (MakeLeaves count seed name now (status_of_stop s))
stop_leaves count seed name now stop.File old new other keeps = told_more old new (KeepsBut (names_for name)) (MakeLeaves count seed name now status.FileFault) keeps (λ m n held k. k)
stop_leaves count seed name now stop.Memory old new other keeps = told_more old new (KeepsBut (names_for name)) (MakeLeaves count seed name now status.Memory) keeps (λ m n held k. k)
stop_leaves count seed name now stop.Sink old new other keeps = absurd (other refl)

pub said_leaves : (count seed : ℕ) (name : List ℕ) (now : ℕ) (e : SinkErr) (s : Stop) (old new : Option Holding) → HandsOn (sink.Failed, stop.Sink) (sink.Memory, stop.Memory) e s → Told old new (MakeDone count seed name now) → Told old new (KeepsBut (names_for name))
    → Told old new (MakeLeaves count seed name now (status_of_stop s))
said_leaves count seed name now e s old new (inl failed) is keeps = subst (λ k. Told old new (MakeLeaves count seed name now (status_of_stop k))) (sym failed.1) (told_more old new (MakeDone count seed name now) (MakeLeaves count seed name now status.SinkFault) is (λ m n held d. d))
said_leaves count seed name now e s old new (inr memory) is keeps = subst (λ k. Told old new (MakeLeaves count seed name now (status_of_stop k))) (sym memory.1) (told_more old new (KeepsBut (names_for name)) (MakeLeaves count seed name now status.Memory) keeps (λ m n held k. k))
