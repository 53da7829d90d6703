-- What a change of a table says, told as a step.
use Rattle.std.proofs.Common.{◌≡◌, ℕ, Bool, Option, Result, Ok, Err, IfOk, IfErr, OnOk, refl, sym, subst, ◌∙◌}
use Rattle.myi_base.specs.Holding.{Holding}
use Rattle.myi_defs.specs.declared.types.Defs.{Defs}
use Rattle.myi_pack.specs.Packed.{Values}
use Rattle.myi_state.specs.State.{TableState}
use Rattle.myi_state.specs.Changes.{Change}
use Rattle.myi_tablestate.specs.Keyed.{KeyedRefusal, keyed_step}
use Rattle.myi_table.specs.declared.fault.ChangeFault.{ChangeFault}
use Rattle.myi_table.specs.declared.fault.ChangeFault.TheVariants as change
use Rattle.myi_table.specs.Table.{OpenTable, defs_in, IfHolds, HoldsThen, StillHolds, Makes, Refuses, IfReply}
use Rattle.myi_shell.specs.declared.changes.Reply.{Reply}
use Rattle.myi_shell.specs.declared.changes.Reply.TheVariants as reply
use Rattle.myi_shell.specs.declared.fault.ShellFault.{ShellFault}
use Rattle.myi_shell.specs.Changing.{insert_of, reply_of, Steps, NeverDamaged, replied, at_place}

-- a refused step leaves the state
abbrev pub Stays : Type 0
Stays = (d : Defs) (s : TableState) (c : Change) (r : KeyedRefusal) → (keyed_step d s c).reply ≡ Err r → (keyed_step d s c).state ≡ s

made_step : (c : Change) (told next : Option Holding) (old new : OpenTable) (at : ℕ) → Makes c told next old new at → Steps c told next old new (reply.Made at)
made_step c told next old new at made = λ m e s h. let k = made m e s h in record { reply = k.reply; state = k.state }

refused_step : (c : Change) (told next : Option Holding) (old new : OpenTable) (q : KeyedRefusal) (r : Reply) → Stays → reply_of r ≡ Err q
    → IfHolds told old (λ m s. (keyed_step (defs_in old) s c).reply ≡ Err q) → StillHolds told next old new → Steps c told next old new r
refused_step c told next old new q r stays is refused still = λ m e s h.
    let reply = refused m e s h in
    let P : TableState → Type 0 = λ t. HoldsThen next new t in
    record { reply = reply ∙ sym is; state = subst P (sym (stays (defs_in old) s c q reply)) (still m e s h) }

pub stepped : (c : Change) (told next : Option Holding) (old new : OpenTable) (made : Result ℕ ChangeFault) → Stays
    → IfOk made (Makes c told next old new) → IfErr made (Refuses c told old) → IfErr made (λ f. IfReply f (StillHolds told next old new))
    → IfOk (replied made) (Steps c told next old new)
stepped c told next old new (Ok at) stays m r u = made_step c told next old new at m
stepped c told next old new (Err (change.Broken by)) stays m r u = tt
stepped c told next old new (Err (change.NoRow at)) stays m r u = refused_step c told next old new _ _ stays refl r u
stepped c told next old new (Err (change.Duplicate key at)) stays m r u = refused_step c told next old new _ _ stays refl r u
stepped c told next old new (Err change.Full) stays m r u = refused_step c told next old new _ _ stays refl r u
stepped c told next old new (Err (change.Damaged at)) stays m r u = tt
stepped c told next old new (Err change.File) stays m r u = tt
stepped c told next old new (Err change.Memory) stays m r u = tt

pub never_damaged : (c : Change) (told : Option Holding) (old : OpenTable) (made : Result ℕ ChangeFault) → IfErr made (Refuses c told old) → IfErr (replied made) (NeverDamaged told old)
never_damaged c told old (Ok at) r = tt
never_damaged c told old (Err (change.Broken by)) r = tt
never_damaged c told old (Err (change.NoRow at)) r = tt
never_damaged c told old (Err (change.Duplicate key at)) r = tt
never_damaged c told old (Err change.Full) r = tt
never_damaged c told old (Err (change.Damaged at)) r = r
never_damaged c told old (Err change.File) r = tt
never_damaged c told old (Err change.Memory) r = tt

-- ---- changes at a position

pub stepped_at : {U : Type 0} (c : Change) (told next : Option Holding) (old new : OpenTable) (at : ℕ) (made : Result U ChangeFault) → Stays
    → OnOk made (Makes c told next old new at) → IfErr made (Refuses c told old) → IfErr made (λ f. IfReply f (StillHolds told next old new))
    → IfOk (replied (at_place at made)) (Steps c told next old new)
stepped_at c told next old new at (Ok done) stays m r u = made_step c told next old new at m
stepped_at c told next old new at (Err f) stays m r u = stepped c told next old new (Err f) stays tt r u

pub never_damaged_at : {U : Type 0} (c : Change) (told : Option Holding) (old : OpenTable) (at : ℕ) (made : Result U ChangeFault) → IfErr made (Refuses c told old)
    → IfErr (replied (at_place at made)) (NeverDamaged told old)
never_damaged_at c told old at (Ok done) r = tt
never_damaged_at c told old at (Err f) r = never_damaged c told old (Err f) r

-- ---- of an answer that is told so

pub told_step : (c : Change) (told next : Option Holding) (old new : OpenTable) (result mine : Result Reply ShellFault) → result ≡ mine → IfOk mine (Steps c told next old new) → IfOk result (Steps c told next old new)
told_step c told next old new result mine is h = let P : Result Reply ShellFault → Type 0 = λ r. IfOk r (Steps c told next old new) in subst P (sym is) h

pub told_fault : (told : Option Holding) (old : OpenTable) (result mine : Result Reply ShellFault) → result ≡ mine → IfErr mine (NeverDamaged told old) → IfErr result (NeverDamaged told old)
told_fault told old result mine is h = let P : Result Reply ShellFault → Type 0 = λ r. IfErr r (NeverDamaged told old) in subst P (sym is) h

-- an insert of a round, by whether the round is one of kind Together
pub insert_is : (together b : Bool) (row : Values) (told next : Option Holding) (old new : OpenTable) (result : Result Reply ShellFault) → together ≡ b
    → IfOk result (Steps (insert_of b row) told next old new) → IfOk result (Steps (insert_of together row) told next old new)
insert_is together b row told next old new result is h = let P : Bool → Type 0 = λ q. IfOk result (Steps (insert_of q row) told next old new) in subst P (sym is) h
