-- A change of one table of several: what all stand for then.
use Rattle.std.proofs.Common.{◌≡◌, ℕ, zero, suc, ◌<◌, List, [], ◌∷◌, length, map, get_or, set, Option, Some, refl, sym, ap, subst, ◌∙◌, arith}
use Rattle.std.specs.Prelude.{bytes_eq}
use Rattle.std.specs.List.{AllByRecursion, IsDistinct}
use Rattle.std.proofs.lemmas.Option.{same_Some}
use Rattle.myi_base.specs.Holding.{Holding, Told}
use Rattle.myi_state.specs.State.{TableState}
use Rattle.myi_state.specs.Changes.{Change}
use Rattle.myi_tablestate.specs.Keyed.{keyed_step}
use Rattle.myi_table.specs.Table.{OpenTable, defs_in, HoldState, HoldsThen, StillHolds, Makes, IfReply, IsKept, KeepsOthers}
use Rattle.myi_table.specs.declared.fault.ChangeFault.{ChangeFault}
use Rattle.myi_table.specs.declared.fault.ChangeFault.TheVariants as fault
use Rattle.myi_merge.specs.Merged.{IsSoundTable, HoldEach, HoldEachThen, IfHoldEach, StillHoldEach, AreKept}
use Rattle.myi_merge.specs.Changing.{stepped}
use Rattle.myi_merge.proofs.FrameLemmas.{Rests, keep_but, still_but, state_at, set_itself}
use Rattle.myi_merge.proofs.CarryLemmas.{kept_but}

-- a state to name where there is none
abbrev pub no_state : TableState
no_state = record { rows = []; space = record { holes = []; end = 0 } }

-- one table stands for another state, and the files of the others hold what they held
abbrev Leads : Option Holding → Option Holding → OpenTable → OpenTable → (TableState → TableState) → Type 0
Leads told next before after F = (m : Holding) → told ≡ Some m → (s : TableState) → HoldState before s m → HoldsThen next after (F s)

changed_one : Rests → (told next : Option Holding) (ts : List OpenTable) (i : ℕ) (before after : OpenTable) (F : TableState → TableState) → IsDistinct bytes_eq (map (λ (u : OpenTable). u.name) ts) → AllByRecursion IsSoundTable ts → i < length ts → get_or ts i before ≡ before
    → Told told next (KeepsOthers before.name) → Leads told next before after F → IfHoldEach told ts (λ m ss. HoldEachThen next (set ts i after) (set ss i (F (get_or ss i no_state))))
changed_one rests told next ts i before after F once sound lt at others leads = λ m held ss h.
    let s : TableState = get_or ss i no_state in
    let one : HoldState before s m = subst (λ (u : OpenTable). HoldState u s m) at (state_at ts ss m i before no_state h lt) in
    let now = leads m held s one in
    let stay = others.told m held in
    let is : stay.0 ≡ now.0 = same_Some stay.0 now.0 (sym stay.1 ∙ now.1) in
    let keeps : KeepsOthers (get_or ts i before).name m now.0 = subst (λ (u : OpenTable). KeepsOthers u.name m now.0) (sym at) (subst (λ (n : Holding). KeepsOthers before.name m n) is stay.2) in
    (now.0, now.1, still_but rests ts ss m now.0 i after (F s) sound lt (keep_but ts i before m now.0 once lt keeps) h now.2)

pub still_after : Rests → (told next : Option Holding) (ts : List OpenTable) (i : ℕ) (before after : OpenTable) → IsDistinct bytes_eq (map (λ (u : OpenTable). u.name) ts) → AllByRecursion IsSoundTable ts → i < length ts → get_or ts i before ≡ before
    → Told told next (KeepsOthers before.name) → StillHolds told next before after → StillHoldEach told next ts (set ts i after)
still_after rests told next ts i before after once sound lt at others still = λ m held ss h.
    let then = changed_one rests told next ts i before after (λ s. s) once sound lt at others (λ k told_k s one. still k told_k s one) m held ss h in
    (then.0, then.1, subst (λ (us : List TableState). HoldEach (set ts i after) us then.0) (set_itself ss i no_state) then.2)

stepped_is : (c : Change) (i : ℕ) (ts : List OpenTable) (ss : List TableState) (m : Holding) (d : OpenTable) → HoldEach ts ss m → i < length ts → set ss i (keyed_step (defs_in (get_or ts i d)) (get_or ss i no_state) c).state ≡ stepped c i ts ss
stepped_is c i [] ss m d h lt = absurd (omega (arith, lt))
stepped_is c i (t ∷ ts) [] m d h lt = elim h [ ]
stepped_is c zero (t ∷ ts) (s ∷ ss) m d h lt = refl
stepped_is c (suc i) (t ∷ ts) (s ∷ ss) m d h lt = ap (λ (us : List TableState). s ∷ us) (stepped_is c i ts ss m d h.1 (omega (arith, lt)))

pub stepped_after : Rests → (c : Change) (told next : Option Holding) (ts : List OpenTable) (i : ℕ) (before after : OpenTable) (place : ℕ) → IsDistinct bytes_eq (map (λ (u : OpenTable). u.name) ts) → AllByRecursion IsSoundTable ts → i < length ts → get_or ts i before ≡ before
    → Told told next (KeepsOthers before.name) → Makes c told next before after place → IfHoldEach told ts (λ m ss. HoldEachThen next (set ts i after) (stepped c i ts ss))
stepped_after rests c told next ts i before after place once sound lt at others makes = λ m held ss h.
    let F : TableState → TableState = λ s. (keyed_step (defs_in before) s c).state in
    let then = changed_one rests told next ts i before after F once sound lt at others (λ k told_k s one. (makes k told_k s one).state) m held ss h in
    let is : set ss i (F (get_or ss i no_state)) ≡ stepped c i ts ss = ap (λ (u : OpenTable). set ss i (keyed_step (defs_in u) (get_or ss i no_state) c).state) (sym at) ∙ stepped_is c i ts ss m before h lt in
    (then.0, then.1, subst (λ (us : List TableState). HoldEach (set ts i after) us then.0) is then.2)

pub kept_after : Rests → (told next : Option Holding) (ts : List OpenTable) (i : ℕ) (before after : OpenTable) → IsDistinct bytes_eq (map (λ (u : OpenTable). u.name) ts) → AllByRecursion IsSoundTable ts → i < length ts → get_or ts i before ≡ before
    → Told told next (KeepsOthers before.name) → AreKept told ts → IsKept next after → AreKept next (set ts i after)
kept_after rests told next ts i before after once sound lt at others kept one =
    kept_but rests ts i after told next (KeepsOthers before.name) sound others (λ m n keeps. keep_but ts i before m n once lt (subst (λ (u : OpenTable). KeepsOthers u.name m n) (sym at) keeps)) kept one

pub if_reply_more : (f : ChangeFault) (P Q : Type 0) → (P → Q) → IfReply f P → IfReply f Q
if_reply_more (fault.Broken by) P Q go p = tt
if_reply_more (fault.NoRow at) P Q go p = go p
if_reply_more (fault.Duplicate key at) P Q go p = go p
if_reply_more fault.Full P Q go p = go p
if_reply_more (fault.Damaged at) P Q go p = tt
if_reply_more fault.File P Q go p = tt
if_reply_more fault.Memory P Q go p = tt
