-- A step that meets damage, and the line on it.
use Rattle.std.proofs.Common.{◌≡◌, ◌≤◌, ℕ, zero, suc, List, [], ◌∷◌, ◌++◌, Option, Some, Result, Err, IfErr, refl, sym, ap, subst, ◌∙◌, inl, inr, arith, append_assoc}
use Rattle.std.specs.Prelude.{◌⊎◌}
use Rattle.std.specs.List.{Contains}
use Rattle.std.proofs.lemmas.List.{append-nil}
use Rattle.std.proofs.lemmas.List.Elements.{Contains-push}
use Rattle.std.proofs.lemmas.List.Sorted.{Contains-permutation}
use Rattle.myi_base.specs.Holding.{Holding, IfTold}
use Rattle.myi_base.specs.Causes.{Rose, HasCause}
use Rattle.myi_io.specs.declared.sink.SinkErr.{SinkErr}
use Rattle.myi_io.specs.declared.sink.SinkErr.TheVariants as sink
use Rattle.myi_history.specs.Answers.{numbered, damaged_text}
use Rattle.myi_history.specs.RoundTexts.{LineText, joined, AreWritten}
use Rattle.myi_history.specs.History.{Opening}
use Rattle.myi_shell.specs.declared.target.Target.{Target}
use Rattle.myi_shell.specs.declared.fault.ShellFault.{ShellFault}
use Rattle.myi_shell.specs.declared.fault.ShellFault.TheVariants as fault
use Rattle.myi_shell.specs.Changing.{NothingDamaged}
use Rattle.myi_shell.specs.Damage.{IsDamage, IsNoted, Extends, IsPrintedDamage, IsToldFor}
use Rattle.myi_shell.specs.Stepping.{RunState}
use Rattle.myi_shell.specs.Running.{Before, HasDone, IsPrintedPart, StandsBehind, IsStopped, of_sink}

err_of : {T F : Type 0} (f g : F) → ◌≡◌ {A = Result T F} (Err f) (Err g) → f ≡ g
err_of f g e = cc

-- ---- the fault, or that there is no memory for its line

pub never_for : (told : Option Holding) (f g : ShellFault) → (g ≡ f) ⊎ (g ≡ fault.Memory) → NothingDamaged told f → NothingDamaged told g
never_for told f g (inl is) never = subst (NothingDamaged told) (sym is) never
never_for told f g (inr is) never = subst (NothingDamaged told) (sym is) tt

pub cause_for : {T U : Type 0} (before now : ℕ) (result : Result T ShellFault) (called : Result U ShellFault) (f g : ShellFault) → result ≡ Err g → called ≡ Err f → (g ≡ f) ⊎ (g ≡ fault.Memory) → HasCause fault.File before now called → HasCause fault.File before now result
cause_for before now result called f g is was (inl same) cause = record { later = cause.later; cause = λ e. cause.cause (was ∙ ap Err (sym same ∙ err_of g fault.File (sym is ∙ e))) }
cause_for before now result called f g is was (inr none) cause = record { later = cause.later; cause = λ e. absurd (let bad : fault.Memory ≡ fault.File = sym none ∙ err_of g fault.File (sym is ∙ e) in cc) }

-- ---- the line among those that are printed

pub stands_among : (ts : List LineText) (t : LineText) → Contains ts t → (before : List ℕ) × (behind : List ℕ) × (joined ts ≡ before ++ (t.1 ++ behind))
stands_among [] t there = absurd (let low = there.1 in omega (arith, low))
stands_among (u ∷ us) t (zero, low, is) = ([], joined us, ap (λ (z : LineText). z.1 ++ joined us) is)
stands_among (u ∷ us) t (suc i, low, is) =
    let k = stands_among us t (i, omega (arith, low), is) in
    (u.1 ++ k.0, k.1, ap (λ (r : List ℕ). u.1 ++ r) k.2 ∙ sym (append_assoc u.1 k.0 (t.1 ++ k.1)))

pub prints_damage : (start printed : Option (List ℕ)) (texts : List LineText) (f : ShellFault) → IsNoted texts f → IfTold start (AreWritten texts printed) → IsPrintedDamage start printed f
prints_damage start printed texts (fault.Damaged at) noted written = λ xs told.
    let w = written xs told in
    let t : LineText = (noted.1, numbered noted.1 (damaged_text at)) in
    let there = Contains-permutation texts w.0 t w.1 (subst (λ (ts : List LineText). Contains ts t) (sym noted.2) (Contains-push noted.0 t)) in
    let k = stands_among w.0 t there in
    (noted.1, k.0, k.1, w.2 ∙ ap (λ (s : List ℕ). Some (xs ++ s)) k.2)
prints_damage start printed texts fault.File noted written = tt
prints_damage start printed texts fault.Sink noted written = tt
prints_damage start printed texts fault.Memory noted written = tt

pub damage_behind : (start half printed : Option (List ℕ)) (f : ShellFault) → IfTold start (Extends half) → IsPrintedDamage half printed f → IsPrintedDamage start printed f
damage_behind start half printed (fault.Damaged at) more damage = λ xs told.
    let k = more xs told in
    let d = damage (xs ++ k.0) k.1 in
    (d.0, k.0 ++ d.1, d.2, d.3 ∙ ap Some (append_assoc xs k.0 (d.1 ++ (numbered d.0 (damaged_text at) ++ d.2))) ∙ ap (λ (s : List ℕ). Some (xs ++ s)) (sym (append_assoc k.0 d.1 (numbered d.0 (damaged_text at) ++ d.2))))
damage_behind start half printed fault.File more damage = tt
damage_behind start half printed fault.Sink more damage = tt
damage_behind start half printed fault.Memory more damage = tt

pub extends_then : (start half now : Option (List ℕ)) → IfTold start (Extends half) → IfTold half (Extends now) → IfTold start (Extends now)
extends_then start half now one two = λ xs told.
    let k = one xs told in
    let j = two (xs ++ k.0) k.1 in
    (k.0 ++ j.0, j.1 ∙ ap Some (append_assoc xs k.0 j.0))

pub written_extends : (start now : Option (List ℕ)) (texts : List LineText) → IfTold start (AreWritten texts now) → IfTold start (Extends now)
written_extends start now texts written = λ xs told. let w = written xs told in (joined w.0, w.2)

-- ---- a call that hands a fault on

pub if_err_by : {T : Type 0} (P : ShellFault → Type 0) (result : Result T ShellFault) (f g : ShellFault) → result ≡ Err g → g ≡ f → P f → IfErr result P
if_err_by P result f g is same p = subst (λ r. IfErr r P) (sym is) (subst P (sym same) p)

pub sink_noted : (texts : List LineText) (f : SinkErr) → IsNoted texts (of_sink f)
sink_noted texts sink.Failed = tt
sink_noted texts sink.Memory = tt

pub sink_no_damage : (f : SinkErr) → IsDamage (of_sink f) → ⊥
sink_no_damage sink.Failed damage = damage
sink_no_damage sink.Memory damage = damage

-- ---- a round that a fault cut off

pub cut_stopped : (o : Opening) (from : Before) (told : Option Holding) (out mid now : Option (List ℕ)) (p : RunState) (t : Target) (f : ShellFault) → IsStopped told f → ((IsDamage f → ⊥) → now ≡ mid) → HasDone o from told p t out → IsPrintedPart o from.printed mid
    → IsPrintedPart o from.printed now
cut_stopped o from told out mid now p t (fault.Damaged at) never same w part = let k = w.stands.table in absurd (never k.0 k.1)
cut_stopped o from told out mid now p t fault.File never same w part = subst (λ (z : Option (List ℕ)). IsPrintedPart o from.printed z) (sym (same (λ x. x))) part
cut_stopped o from told out mid now p t fault.Sink never same w part = subst (λ (z : Option (List ℕ)). IsPrintedPart o from.printed z) (sym (same (λ x. x))) part
cut_stopped o from told out mid now p t fault.Memory never same w part = subst (λ (z : Option (List ℕ)). IsPrintedPart o from.printed z) (sym (same (λ x. x))) part

pub cut_stands : (o : Opening) (from : Before) (told next : Option Holding) (out mid now : Option (List ℕ)) (p : RunState) (t u : Target) (f g : ShellFault) → g ≡ fault.Sink → IsToldFor f g → IsStopped told f → ((IsDamage f → ⊥) → now ≡ mid)
    → HasDone o from told p t out → (f ≡ fault.Sink → StandsBehind o from next u mid) → StandsBehind o from next u now
cut_stands o from told next out mid now p t u (fault.Damaged at) g sank is never same w stands = let k = w.stands.table in absurd (never k.0 k.1)
cut_stands o from told next out mid now p t u fault.Sink g sank is never same w stands = subst (λ (z : Option (List ℕ)). StandsBehind o from next u z) (sym (same (λ x. x))) (stands refl)
cut_stands o from told next out mid now p t u fault.File g sank (inl is) never same w stands = absurd (let bad : fault.File ≡ fault.Sink = sym is ∙ sank in cc)
cut_stands o from told next out mid now p t u fault.File g sank (inr is) never same w stands = absurd is.0
cut_stands o from told next out mid now p t u fault.Memory g sank (inl is) never same w stands = absurd (let bad : fault.Memory ≡ fault.Sink = sym is ∙ sank in cc)
cut_stands o from told next out mid now p t u fault.Memory g sank (inr is) never same w stands = absurd is.0

pub cut_never : (told : Option Holding) (f g : ShellFault) → IsToldFor f g → IsStopped told f → IsStopped told g
cut_never told f g (inl is) never = subst (IsStopped told) (sym is) never
cut_never told f g (inr (damage, inl is)) never = subst (IsStopped told) (sym is) tt
cut_never told f g (inr (damage, inr is)) never = subst (IsStopped told) (sym is) tt

pub cut_damage : (out mid now : Option (List ℕ)) (f g : ShellFault) → IsToldFor f g → (IsDamage f → mid ≡ out) → IsPrintedDamage mid now g → IsPrintedDamage out now g
cut_damage out mid now f (fault.Damaged at) (inl is) same damage = subst (λ (z : Option (List ℕ)). IsPrintedDamage z now (fault.Damaged at)) (same (subst IsDamage is tt)) damage
cut_damage out mid now f (fault.Damaged at) (inr (damaged, inl is)) same damage = absurd (let bad : fault.Damaged at ≡ fault.Sink = is in cc)
cut_damage out mid now f (fault.Damaged at) (inr (damaged, inr is)) same damage = absurd (let bad : fault.Damaged at ≡ fault.Memory = is in cc)
cut_damage out mid now f fault.File is same damage = tt
cut_damage out mid now f fault.Sink is same damage = tt
cut_damage out mid now f fault.Memory is same damage = tt

pub cut_file : {T U : Type 0} (before now : ℕ) (result : Result T ShellFault) (called : Result U ShellFault) (f g : ShellFault) → result ≡ Err g → called ≡ Err f → IsToldFor f g → HasCause fault.File before now called → HasCause fault.File before now result
cut_file before now result called f g is was (inl same) cause = record { later = cause.later; cause = λ e. cause.cause (was ∙ ap Err (sym same ∙ err_of g fault.File (sym is ∙ e))) }
cut_file before now result called f g is was (inr (damage, inl sank)) cause = record { later = cause.later; cause = λ e. absurd (let bad : fault.Sink ≡ fault.File = sym sank ∙ err_of g fault.File (sym is ∙ e) in cc) }
cut_file before now result called f g is was (inr (damage, inr none)) cause = record { later = cause.later; cause = λ e. absurd (let bad : fault.Memory ≡ fault.File = sym none ∙ err_of g fault.File (sym is ∙ e) in cc) }

rose_on : (before half now : ℕ) → Rose before half → half ≤ now → Rose before now
rose_on before half now rose later = omega (arith, rose, later)

rose_behind : (before half now : ℕ) → before ≤ half → Rose half now → Rose before now
rose_behind before half now later rose = omega (arith, later, rose)

pub cut_sink : {T U : Type 0} (before half now : ℕ) (result : Result T ShellFault) (called : Result U ShellFault) (f g : ShellFault) → result ≡ Err g → called ≡ Err f → IsToldFor f g → half ≤ now → (IsDamage f → g ≡ fault.Sink → Rose half now) → HasCause fault.Sink before half called
    → HasCause fault.Sink before now result
cut_sink before half now result called f g is was (inl same) later rose cause = record {
  later = let l = cause.later in omega (arith, l, later);
  cause = λ e. rose_on before half now (cause.cause (was ∙ ap Err (sym same ∙ err_of g fault.Sink (sym is ∙ e)))) later;
}
cut_sink before half now result called f g is was (inr (damage, how)) later rose cause = record {
  later = let l = cause.later in omega (arith, l, later);
  cause = λ e. rose_behind before half now cause.later (rose damage (err_of g fault.Sink (sym is ∙ e)));
}

pub extends_none : (out : Option (List ℕ)) → IfTold out (Extends out)
extends_none out = λ xs told. ([], told ∙ ap Some (sym (append-nil xs)))
