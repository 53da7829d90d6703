-- What the calls answer, from what the calls beneath them answer.
use Rattle.std.proofs.Common.{◌≡◌, ℕ, ◌≤◌, ◌⊎◌, inl, inr, true, false, List, [], length, ap, arith, Option}
use Rattle.myi_base.specs.Holding.{Holding, Told, IfTold}
use Rattle.myi_base.proofs.CallerLemmas.{told_more}
use Rattle.myi_defs.specs.declared.types.RowFormat.TheVariants.{Dynamic}
use Rattle.myi_defs.specs.Addressable.{is_addressable}
use Rattle.myi_defs.specs.Sound.{IsSound}
use Rattle.myi_pack.specs.Packed.{Values}
use Rattle.myi_pack.specs.Spelling.{spelling, fits}
use Rattle.myi_dellist.specs.declared.fault.FreeFault.{FreeFault}
use Rattle.myi_dellist.specs.declared.fault.FreeFault.TheVariants as free
use Rattle.myi_dellist.specs.declared.rows.Put.{Put}
use Rattle.myi_dellist.specs.Placing.{place_at_end}
use Rattle.myi_dellist.specs.FreeList.{ListState}
use Rattle.myi_dellist.specs.Rows.{most_end, IfFull, IsNotDamaged, PutsNew, PutsAtEnd, TalliesNew, TalliesAtEnd}
use Rattle.myi_dellist.specs.Rows as rows
use Rattle.myi_state.specs.Changes.{insert, insert_at_end}
use Rattle.myi_slots.specs.declared.fault.DataFault.{DataFault}
use Rattle.myi_slots.specs.declared.fault.DataFault.TheVariants as fault
use Rattle.myi_slots.specs.SlotFile.{SlotFile, Steps, Refuses, ByCause, Never, data_fault}
use Rattle.myi_blocks.specs.BlockFile.{end_limit, list_in, end_with, FindsBad, LacksRoom, counts_with}
use Rattle.myi_blocks.proofs.StepLemmas.{not-reached, insert-steps, append-steps, insert-full, insert-long, append-full, never-damaged}

pub insert-ok : (f g : SlotFile) (values : Values) (row : List ℕ) (put : Put) (old new : Option Holding) → IsSound f.defs → f.defs.format ≡ Dynamic → fits f.defs values ≡ true → row ≡ spelling f.defs values → Told old new (PutsNew (list_in f) (list_in g) row put.at) → IfTold old (TalliesNew (list_in f) (length row) put) → g ≡ record f { counts = counts_with put g.counts.length g.counts.dellink f.counts } → is_addressable f.defs g.counts.length ≡ true → Told old new (Steps (insert values) f g put.at)
insert-ok f g values row put old new sound dynamic fit packed puts tallies object room =
    told_more old new (PutsNew (list_in f) (list_in g) row put.at) (Steps (insert values) f g put.at) puts
    (λ m n held w. insert-steps f g values row put.at put m n sound dynamic fit packed w (tallies m held) object room)

pub append-ok : (f g : SlotFile) (values : Values) (row : List ℕ) (put : Put) (old new : Option Holding) → IsSound f.defs → f.defs.format ≡ Dynamic → fits f.defs values ≡ true → row ≡ spelling f.defs values → Told old new (PutsAtEnd (list_in f) (list_in g) row put.at) → TalliesAtEnd (list_in f) (length row) put → g ≡ record f { counts = counts_with put g.counts.length g.counts.dellink f.counts } → is_addressable f.defs g.counts.length ≡ true → Told old new (Steps (insert_at_end values) f g put.at)
append-ok f g values row put old new sound dynamic fit packed puts tallies object room =
    told_more old new (PutsAtEnd (list_in f) (list_in g) row put.at) (Steps (insert_at_end values) f g put.at) puts
    (λ m n held w. append-steps f g values row put.at put m n sound dynamic fit packed w tallies object room)

pub insert-refused : (f : SlotFile) (values : Values) (row : List ℕ) (old : Option Holding) (e : DataFault) → IsSound f.defs → f.defs.format ≡ Dynamic → fits f.defs values ≡ true → row ≡ spelling f.defs values → ByCause Never ((is_addressable f.defs f.counts.length ≡ false) ⊎ IfTold old (LacksRoom f (length row))) (λ p. IfTold old (FindsBad f (length row) p)) e → IfTold old (Refuses (insert values) f e)
insert-refused f values row old (fault.NoRow p) sound dynamic fit packed cause = absurd cause
insert-refused f values row old fault.Full sound dynamic fit packed (inl past) = λ m held s k. insert-full f values row m sound dynamic fit packed past s k
insert-refused f values row old fault.Full sound dynamic fit packed (inr lacks) = λ m held s k. insert-long f values row m sound dynamic fit packed (lacks m held) s k
insert-refused f values row old (fault.Damaged p) sound dynamic fit packed cause = λ m held s k. never-damaged f (length row) p m sound dynamic (cause m held) s k
insert-refused f values row old fault.File sound dynamic fit packed cause = λ m held s k. tt
insert-refused f values row old fault.Memory sound dynamic fit packed cause = λ m held s k. tt

pub append-refused : (f : SlotFile) (values : Values) (row : List ℕ) (old : Option Holding) (e : DataFault) → f.defs.format ≡ Dynamic → row ≡ spelling f.defs values → ByCause Never (is_addressable f.defs (end_with f (length row)) ≡ false) Never e → IfTold old (Refuses (insert_at_end values) f e)
append-refused f values row old (fault.NoRow p) dynamic packed cause = absurd cause
append-refused f values row old fault.Full dynamic packed cause = λ m held s k. append-full f values row m dynamic packed cause s k
append-refused f values row old (fault.Damaged p) dynamic packed cause = absurd cause
append-refused f values row old fault.File dynamic packed cause = λ m held s k. tt
append-refused f values row old fault.Memory dynamic packed cause = λ m held s k. tt

-- ---- a row behind the end that is refused

pub long-refused : (f : SlotFile) (l : ListState) (len : ℕ) (e : FreeFault) → f.defs.format ≡ Dynamic → l.end ≡ f.counts.length → l.end_below ≡ end_limit f.defs → IfFull e (most_end l ≤ rows.end_with l len) → IsNotDamaged e → ByCause Never (is_addressable f.defs (end_with f len) ≡ false) Never (data_fault e)
long-refused f l len free.Full dynamic end limit long found =
    let same : rows.end_with l len ≡ end_with f len = ap (λ (x : ℕ). (place_at_end (record { holes = []; end = x }) len).space.end) end in
    not-reached f.defs (end_with f len) dynamic (omega (arith, same, limit, long))
long-refused f l len (free.Damaged p) dynamic end limit long found = absurd found
long-refused f l len free.File dynamic end limit long found = tt
long-refused f l len free.Memory dynamic end limit long found = tt
