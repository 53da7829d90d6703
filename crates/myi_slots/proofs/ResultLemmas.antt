-- What the calls answer, from what the calls beneath them answer.
use Rattle.std.proofs.Common.{◌≡◌, ℕ, ◌+◌, ◌≤◌, true, false, List, length, Option, Some, None, Result, Ok, Err, IfOk, IfErr, OnOk, ap, sym, subst, ◌∙◌, arith}
use Rattle.std.specs.Prelude.{unwrap_or, MatchOption}
use Rattle.myi_base.specs.Holding.{Holding, Told, IfTold, Writes}
use Rattle.myi_defs.specs.declared.types.Defs.{Defs}
use Rattle.myi_defs.specs.declared.types.RowFormat.TheVariants.{Static}
use Rattle.myi_defs.specs.Addressable.{is_addressable}
use Rattle.myi_defs.specs.Sound.{IsSound}
use Rattle.myi_pack.specs.Packed.{Values}
use Rattle.myi_pack.specs.Spelling.{spelling, fits}
use Rattle.myi_state.specs.Changes.{insert, insert_at_end, delete}
use Rattle.myi_slots.specs.declared.fault.DataFault.{DataFault}
use Rattle.myi_slots.specs.declared.fault.DataFault.TheVariants as fault
use Rattle.myi_slots.specs.SlotFile.{SlotFile, Steps, Refuses, ByCause, Never, Fills, LacksHole, LacksLink, appended_counts, appended, is_reached, risen, end_behind, end_by, end_with}
use Rattle.myi_slots.proofs.StepLemmas.{append-steps, append-full, insert-appends, insert-full}
use Rattle.myi_slots.proofs.RowSteps.{spelled-long, fill-steps, fill-full, fill-damaged, link-known}

-- a step where something is told
pub told-steps : (old new : Option Holding) (P Q : Holding → Holding → Type 0) → Told old new P → ((m n : Holding) → old ≡ Some m → P m n → Q m n) → Told old new Q
told-steps old new P Q t f = record { told = λ m e. let w = t.told m e in (w.0, w.1, f m w.0 e w.2); untold = t.untold }

-- ---- a row behind the end

pub append-ok : (f g : SlotFile) (values : Values) (bytes : List ℕ) (old new : Option Holding) (r : Result ℕ DataFault) → IsSound f.defs → f.defs.format ≡ Static → fits f.defs values ≡ true → bytes ≡ spelling f.defs values → IfOk r (λ at. at ≡ f.counts.length) → OnOk r (is_addressable f.defs (f.counts.length + length bytes) ≡ true) → OnOk r (Told old new (Writes f.name f.counts.length bytes)) → OnOk r (g ≡ record f { counts = appended_counts (f.counts.length + length bytes) f.counts }) → IfOk r (λ at. Told old new (Steps (insert_at_end values) f g at))
append-ok f g values bytes old new (Err e) sound static fit packed here room written object = tt
append-ok f g values bytes old new (Ok at) sound static fit packed here room written object =
    told-steps old new (Writes f.name f.counts.length bytes) (Steps (insert_at_end values) f g at) written (λ m n held w. append-steps f g values at bytes m n sound static fit (spelled-long f.defs values sound static fit) packed here room w object)

pub append-refused : (f : SlotFile) (values : Values) (bytes : List ℕ) (old : Option Holding) (r : Result ℕ DataFault) → IsSound f.defs → f.defs.format ≡ Static → fits f.defs values ≡ true → bytes ≡ spelling f.defs values → IfErr r (ByCause Never (is_addressable f.defs (f.counts.length + length bytes) ≡ false) Never) → IfErr r (λ e. IfTold old (Refuses (insert_at_end values) f e))
append-refused f values bytes old (Ok at) sound static fit packed cause = tt
append-refused f values bytes old (Err (fault.NoRow p)) sound static fit packed cause = absurd cause
append-refused f values bytes old (Err fault.Full) sound static fit packed cause = λ m held s k. append-full f values bytes m static (spelled-long f.defs values sound static fit) packed cause s k
append-refused f values bytes old (Err (fault.Damaged p)) sound static fit packed cause = absurd cause
append-refused f values bytes old (Err fault.File) sound static fit packed cause = λ m held s k. tt
append-refused f values bytes old (Err fault.Memory) sound static fit packed cause = λ m held s k. tt

-- the same where nothing is deleted
pub insert-ok : (f g : SlotFile) (values : Values) (old new : Option Holding) (r : Result ℕ DataFault) → f.defs.format ≡ Static → f.counts.dellink ≡ None → IfOk r (λ at. Told old new (Steps (insert_at_end values) f g at)) → IfOk r (λ at. Told old new (Steps (insert values) f g at))
insert-ok f g values old new (Err e) static none ok = tt
insert-ok f g values old new (Ok at) static none ok = told-steps old new (Steps (insert_at_end values) f g at) (Steps (insert values) f g at) ok (λ m n held w. insert-appends f g values at m n static none w)

pub insert-refused : (f : SlotFile) (values : Values) (old : Option Holding) (r : Result ℕ DataFault) → f.defs.format ≡ Static → f.counts.dellink ≡ None → IfErr r (ByCause Never (IfTold old (Refuses (insert_at_end values) f fault.Full)) Never) → IfErr r (λ e. IfTold old (Refuses (insert values) f e))
insert-refused f values old (Ok at) static none cause = tt
insert-refused f values old (Err (fault.NoRow p)) static none cause = absurd cause
insert-refused f values old (Err fault.Full) static none cause = λ m held s k. insert-full f values m static none (cause m held) s k
insert-refused f values old (Err (fault.Damaged p)) static none cause = absurd cause
insert-refused f values old (Err fault.File) static none cause = λ m held s k. tt
insert-refused f values old (Err fault.Memory) static none cause = λ m held s k. tt

pub full-refused : (f : SlotFile) (values : Values) (bytes : List ℕ) (old : Option Holding) (r : Result ℕ DataFault) → IsSound f.defs → f.defs.format ≡ Static → fits f.defs values ≡ true → bytes ≡ spelling f.defs values → IfErr r (ByCause Never (is_addressable f.defs (f.counts.length + length bytes) ≡ false) Never) → IfErr r (ByCause Never (IfTold old (Refuses (insert_at_end values) f fault.Full)) Never)
full-refused f values bytes old (Ok at) sound static fit packed cause = tt
full-refused f values bytes old (Err (fault.NoRow p)) sound static fit packed cause = absurd cause
full-refused f values bytes old (Err fault.Full) sound static fit packed cause = λ m held s k. append-full f values bytes m static (spelled-long f.defs values sound static fit) packed cause s k
full-refused f values bytes old (Err (fault.Damaged p)) sound static fit packed cause = absurd cause
full-refused f values bytes old (Err fault.File) sound static fit packed cause = tt
full-refused f values bytes old (Err fault.Memory) sound static fit packed cause = tt

-- ---- a row in a deleted slot

pub fill-ok : (f g : SlotFile) (values : Values) (bytes : List ℕ) (at : ℕ) (old new : Option Holding) (r : Result ℕ DataFault) → IsSound f.defs → f.defs.format ≡ Static → fits f.defs values ≡ true → bytes ≡ spelling f.defs values → f.counts.dellink ≡ Some at → IfOk r (λ p. p ≡ at) → OnOk r (is_addressable f.defs f.counts.length ≡ true) → OnOk r (Told old new (Writes f.name at bytes)) → OnOk r (IfTold old (Fills f g at)) → IfOk r (λ p. Told old new (Steps (insert values) f g p))
fill-ok f g values bytes at old new (Err e) sound static fit packed head here room written fills = tt
fill-ok f g values bytes at old new (Ok p) sound static fit packed head here room written fills =
    told-steps old new (Writes f.name at bytes) (Steps (insert values) f g p) written (λ m n held w. fill-steps f g values at p bytes m n sound static fit packed head here room w (fills m held))

pub fill-refused : (f : SlotFile) (values : Values) (at : ℕ) (old : Option Holding) (r : Result ℕ DataFault) → IsSound f.defs → f.defs.format ≡ Static → f.counts.dellink ≡ Some at → IfErr r (ByCause Never (is_addressable f.defs f.counts.length ≡ false) (λ p. (p ≡ at) × IfTold old (LacksHole f at))) → IfErr r (λ e. IfTold old (Refuses (insert values) f e))
fill-refused f values at old (Ok p) sound static head cause = tt
fill-refused f values at old (Err (fault.NoRow p)) sound static head cause = absurd cause
fill-refused f values at old (Err fault.Full) sound static head cause = λ m held s k. fill-full f values at m static head cause s k
fill-refused f values at old (Err (fault.Damaged p)) sound static head cause = λ m held s k. fill-damaged f at m sound static head (cause.1 m held) s k
fill-refused f values at old (Err fault.File) sound static head cause = λ m held s k. tt
fill-refused f values at old (Err fault.Memory) sound static head cause = λ m held s k. tt

-- ---- of any file: where a new row stands, which numbers it makes, and what refuses it

-- a row's bytes take a slot
pub packed-long : (d : Defs) (values : Values) (bytes : List ℕ) → IsSound d → d.format ≡ Static → fits d values ≡ true → bytes ≡ spelling d values → length bytes ≡ d.slot_length
packed-long d values bytes sound static fit packed = ap (λ (x : List ℕ). length x) packed ∙ spelled-long d values sound static fit

pub append-room : (f : SlotFile) (n : ℕ) (r : Result ℕ DataFault) → n ≡ f.defs.slot_length → OnOk r (is_addressable f.defs (f.counts.length + n) ≡ true) → OnOk r (is_reached (end_behind f) f ≡ true)
append-room f n r long room = subst (λ (k : ℕ). OnOk r (is_addressable f.defs (f.counts.length + k) ≡ true)) long room

pub append-numbers : (f g : SlotFile) (n : ℕ) (r : Result ℕ DataFault) → n ≡ f.defs.slot_length → OnOk r (g ≡ record f { counts = appended_counts (f.counts.length + n) f.counts }) → OnOk r (g ≡ appended f)
append-numbers f g n r long object = subst (λ (k : ℕ). OnOk r (g ≡ record f { counts = appended_counts (f.counts.length + k) f.counts })) long object

pub append-causes : (f : SlotFile) (n : ℕ) (r : Result ℕ DataFault) → n ≡ f.defs.slot_length → IfErr r (ByCause Never (is_addressable f.defs (f.counts.length + n) ≡ false) Never) → IfErr r (ByCause Never (is_reached (end_behind f) f ≡ false) Never)
append-causes f n r long cause = subst (λ (k : ℕ). IfErr r (ByCause Never (is_addressable f.defs (f.counts.length + k) ≡ false) Never)) long cause

-- what an insert says of the deleted slots
abbrev pub Numbered : SlotFile → SlotFile → Option Holding → Option ℕ → Type 0
Numbered f g old link = MatchOption link (g ≡ appended f) (λ at. IfTold old (Fills f g at))

abbrev pub Caused : SlotFile → Option Holding → Result ℕ DataFault → Type 0
Caused f old r = IfErr r (ByCause Never (is_reached (end_with f) f ≡ false) (λ p. (f.counts.dellink ≡ Some p) × IfTold old (LacksHole f p)))

pub new-place : (f : SlotFile) (r : Result ℕ DataFault) → f.counts.dellink ≡ None → IfOk r (λ at. at ≡ f.counts.length) → IfOk r (λ at. at ≡ unwrap_or f.counts.dellink f.counts.length)
new-place f r none here = subst (λ (o : Option ℕ). IfOk r (λ at. at ≡ unwrap_or o f.counts.length)) (sym none) here

pub new-room : (f : SlotFile) (r : Result ℕ DataFault) → f.counts.dellink ≡ None → OnOk r (is_reached (end_behind f) f ≡ true) → OnOk r (is_reached (end_with f) f ≡ true)
new-room f r none room = subst (λ (o : Option ℕ). OnOk r (is_reached (end_by o f) f ≡ true)) (sym none) room

pub new-numbers : (f g : SlotFile) (old : Option Holding) (r : Result ℕ DataFault) → f.counts.dellink ≡ None → OnOk r (g ≡ appended f) → OnOk r (Numbered f g old f.counts.dellink)
new-numbers f g old r none object = subst (λ (o : Option ℕ). OnOk r (Numbered f g old o)) (sym none) object

pub new-causes : (f : SlotFile) (old : Option Holding) (r : Result ℕ DataFault) → f.counts.dellink ≡ None → IfErr r (ByCause Never (is_reached (end_behind f) f ≡ false) Never) → Caused f old r
new-causes f old (Ok at) none cause = tt
new-causes f old (Err (fault.NoRow p)) none cause = absurd cause
new-causes f old (Err fault.Full) none cause = subst (λ (o : Option ℕ). is_reached (end_by o f) f ≡ false) (sym none) cause
new-causes f old (Err (fault.Damaged p)) none cause = absurd cause
new-causes f old (Err fault.File) none cause = tt
new-causes f old (Err fault.Memory) none cause = tt

pub fill-place : (f : SlotFile) (at : ℕ) (r : Result ℕ DataFault) → f.counts.dellink ≡ Some at → IfOk r (λ p. p ≡ at) → IfOk r (λ p. p ≡ unwrap_or f.counts.dellink f.counts.length)
fill-place f at r head here = subst (λ (o : Option ℕ). IfOk r (λ p. p ≡ unwrap_or o f.counts.length)) (sym head) here

pub fill-room : (f : SlotFile) (at : ℕ) (r : Result ℕ DataFault) → f.counts.dellink ≡ Some at → OnOk r (is_addressable f.defs f.counts.length ≡ true) → OnOk r (is_reached (end_with f) f ≡ true)
fill-room f at r head room = subst (λ (o : Option ℕ). OnOk r (is_reached (end_by o f) f ≡ true)) (sym head) room

pub fill-numbers : (f g : SlotFile) (at : ℕ) (old : Option Holding) (r : Result ℕ DataFault) → f.counts.dellink ≡ Some at → OnOk r (IfTold old (Fills f g at)) → OnOk r (Numbered f g old f.counts.dellink)
fill-numbers f g at old r head fills = subst (λ (o : Option ℕ). OnOk r (Numbered f g old o)) (sym head) fills

pub fill-causes : (f : SlotFile) (at : ℕ) (old : Option Holding) (r : Result ℕ DataFault) → f.counts.dellink ≡ Some at → IfErr r (ByCause Never (is_addressable f.defs f.counts.length ≡ false) (λ p. (p ≡ at) × IfTold old (LacksHole f at))) → Caused f old r
fill-causes f at old (Ok p) head cause = tt
fill-causes f at old (Err (fault.NoRow p)) head cause = absurd cause
fill-causes f at old (Err fault.Full) head cause = subst (λ (o : Option ℕ). is_reached (end_by o f) f ≡ false) (sym head) cause
fill-causes f at old (Err (fault.Damaged p)) head cause = (head ∙ ap (λ (q : ℕ). Some q) (sym cause.0), λ m held. subst (λ (q : ℕ). LacksHole f q m) (sym cause.0) (cause.1 m held))
fill-causes f at old (Err fault.File) head cause = tt
fill-causes f at old (Err fault.Memory) head cause = tt

-- where the row's slot ends, and how long the file is then
pub new-inside : (f g : SlotFile) (r : Result ℕ DataFault) → IfOk r (λ at. at ≡ f.counts.length) → OnOk r (g ≡ appended f) → IfOk r (λ at. at + f.defs.slot_length ≤ g.counts.length)
new-inside f g (Err e) here object = tt
new-inside f g (Ok at) here object = omega (arith, here, ap (λ (q : SlotFile). q.counts.length) object)

pub new-length : (f g : SlotFile) (r : Result ℕ DataFault) → f.counts.dellink ≡ None → OnOk r (g ≡ appended f) → OnOk r (g.counts.length ≡ end_with f)
new-length f g (Err e) none object = tt
new-length f g (Ok at) none object = ap (λ (q : SlotFile). q.counts.length) object ∙ ap (λ (o : Option ℕ). end_by o f) (sym none)

pub new-records : (f g : SlotFile) (r : Result ℕ DataFault) → OnOk r (g ≡ appended f) → OnOk r (g.counts.records ≡ risen f.counts.records 1)
new-records f g (Err e) object = tt
new-records f g (Ok at) object = ap (λ (q : SlotFile). q.counts.records) object

pub fill-inside : (f g : SlotFile) (at : ℕ) (r : Result ℕ DataFault) → IfOk r (λ p. p ≡ at) → OnOk r (at + f.defs.slot_length ≤ f.counts.length) → OnOk r (g.counts.length ≡ f.counts.length) → IfOk r (λ p. p + f.defs.slot_length ≤ g.counts.length)
fill-inside f g at (Err e) here inside same = tt
fill-inside f g at (Ok p) here inside same = omega (arith, here, inside, same)

pub fill-length : (f g : SlotFile) (at : ℕ) (r : Result ℕ DataFault) → f.counts.dellink ≡ Some at → OnOk r (g.counts.length ≡ f.counts.length) → OnOk r (g.counts.length ≡ end_with f)
fill-length f g at (Err e) head same = tt
fill-length f g at (Ok p) head same = same ∙ ap (λ (o : Option ℕ). end_by o f) (sym head)

-- ---- the first deleted slot is none of the file

pub link-refused : (f : SlotFile) (at : ℕ) (old : Option Holding) (e : DataFault) → IsSound f.defs → f.defs.format ≡ Static → LacksLink f.defs.slot_length f.counts.length f.counts.dellink e → IfTold old (Refuses (delete at) f e)
link-refused f at old (fault.NoRow p) sound static lacks = absurd lacks
link-refused f at old fault.Full sound static lacks = absurd lacks
link-refused f at old (fault.Damaged p) sound static lacks = λ m held s k. link-known f m p sound static lacks.0 lacks.1 s k
link-refused f at old fault.File sound static lacks = absurd lacks
link-refused f at old fault.Memory sound static lacks = absurd lacks
