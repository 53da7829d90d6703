-- A row that was deleted: the step of each state that has it.
use Rattle.std.proofs.Common.{◌≡◌, ℕ, ◌+◌, ◌-◌, ◌^◌, ◌<◌, ◌≤◌, true, false, List, ◌++◌, length, Option, Some, None, Err, refl, sym, ap, subst, ◌∙◌, arith}
use Rattle.myi_base.specs.Holding.{Holding, Told, IfTold, bytes_of}
use Rattle.myi_base.proofs.CallerLemmas.{told_more}
use Rattle.myi_defs.specs.declared.types.RowFormat.TheVariants.{Dynamic}
use Rattle.myi_defs.specs.declared.types.Defs.{Defs}
use Rattle.myi_defs.specs.Addressable.{is_addressable}
use Rattle.myi_defs.specs.Sound.{IsSound}
use Rattle.myi_dellist.specs.declared.fault.FreeFault.{FreeFault}
use Rattle.myi_dellist.specs.declared.fault.FreeFault.TheVariants as free
use Rattle.myi_dellist.specs.declared.rows.Freed.{Freed}
use Rattle.myi_dellist.specs.Areas.{Area}
use Rattle.myi_dellist.specs.Releasing.{release_all}
use Rattle.myi_dellist.specs.Standing.{first_or}
use Rattle.myi_dellist.specs.Freeing.{IfDamaged, IsNotFull}
use Rattle.myi_dellist.specs.FreeList.{ListState}
use Rattle.myi_dellist.specs.Freed.{LeavesFreed, RowIsFreed, CountsFreed, TalliesFreed, RowFindsBad}
use Rattle.myi_dellist.proofs.CallerLemmas.{freed-sound}
use Rattle.myi_state.specs.declared.counts.Counts.{Counts}
use Rattle.myi_state.specs.State.{StoredRow, TableState, row_at, row_areas, rows_without}
use Rattle.myi_state.specs.Changes.{delete, full, accepted, if_absent, lacks_row, step, without_row}
use Rattle.myi_state.specs.Sound.{IsState}
use Rattle.myi_state.specs.Numbers.{total_bytes, counts_of}
use Rattle.myi_state.proofs.CallerLemmas.{accepted-kept, others-tile, state-bytes, state-few, same-counts}
use Rattle.myi_slots.specs.declared.fault.DataFault.{DataFault}
use Rattle.myi_slots.specs.declared.fault.DataFault.TheVariants as fault
use Rattle.myi_slots.specs.SlotFile.{SlotFile, IsFileOf, ByCause, Never, risen, data_fault}
use Rattle.myi_blocks.specs.BlockFile.{end_limit, list_in, counts_without, freed_counts, FindsRowBad}
use Rattle.myi_blocks.specs.Standing.{StepsRow, RefusesRow}
use Rattle.myi_blocks.proofs.StandLemmas.{all-split, all-join, dynamic-of}
use Rattle.myi_blocks.proofs.CountLemmas.{tiled_bytes, total_both}
use Rattle.myi_blocks.proofs.FreedLemmas.{row_parts, behind_delete, deleted_state, released-stands, released-counts}
use Rattle.myi_blocks.proofs.StepLemmas.{below-reached, step-done, step-full, stepped, end-of, has-holes}
use Rattle.myi_blocks.proofs.RowLemmas.{standing-of}

-- ---- where it is made

pub row-there : (s : TableState) (at : ℕ) (r : StoredRow) → row_at at s.rows ≡ Some r → lacks_row s (delete at) ≡ None
row-there s at r here = ap (λ (o : Option StoredRow). if_absent at o) here

deleted_place : (d : Defs) (s : TableState) (at : ℕ) (r : StoredRow) → row_at at s.rows ≡ Some r → (accepted d s (delete at)).at ≡ at
unfolding accepted
deleted_place d s at r here = ap (λ (o : Option StoredRow). (without_row d s at o).at) here

deleted_end : (d : Defs) (s : TableState) (at : ℕ) (r : StoredRow) → d.format ≡ Dynamic → row_at at s.rows ≡ Some r → (accepted d s (delete at)).state.space.end ≡ s.space.end
deleted_end d s at r dynamic here = ap (λ (t : TableState). t.space.end) (deleted_state d s at r dynamic here)

-- ---- the numbers

risen_to : (n k m : ℕ) → m ≡ n + k → m ≤ 2 ^ 41 → risen n k ≡ m
risen_to n k m e le = omega (arith, e, le)

without_counts : (d : Defs) (s : TableState) (at : ℕ) (r : StoredRow) (freed : Freed) → IsSound d → d.format ≡ Dynamic → IsState d s → row_at at s.rows ≡ Some r → s.space.end ≤ 2 ^ 40 → CountsFreed r.blocks s.space.holes freed → counts_without freed (first_or (release_all r.blocks s.space.holes) None) (counts_of s) ≡ freed_counts r.blocks (release_all r.blocks s.space.holes) (counts_of s)
unfolding counts_of
without_counts d s at r freed sound dynamic i here short t =
    let own = r.blocks in
    let holes = s.space.holes in
    let others = row_areas (rows_without at s.rows) in
    let end = s.space.end in
    let then : IsState d (behind_delete s at r) = subst (IsState d) (deleted_state d s at r dynamic here) (accepted-kept d s (delete at) sound tt i) in
    let few = state-few d (behind_delete s at r) sound then in
    let bytes = all-split (λ (a : Area). 0 < a.size) (row_areas s.rows) holes (state-bytes d s sound i) in
    let parts = row_parts (λ (a : Area). 0 < a.size) at s.rows r here bytes.0 in
    let freed_bytes = all-join (λ (a : Area). 0 < a.size) own holes parts.0 bytes.1 in
    let whole = tiled_bytes end others (own ++ holes) (all-join (λ (a : Area). 0 < a.size) others (own ++ holes) parts.1 freed_bytes) (others-tile end at s.rows holes r here i.tile) in
    let both = total_both own holes in
    let size : freed.bytes ≡ total_bytes own = omega (arith, t.bytes, whole, both, short) in
    same-counts _ _ _ _ _ _ _ _ _ _ _ _
    refl
    (risen_to (length holes) freed.more (length (release_all own holes)) t.holes_are (omega (arith, few.holes, short)))
    (ap (λ (n : ℕ). length (row_areas s.rows) - n) t.blocks)
    (risen_to (total_bytes holes) freed.bytes (total_bytes holes + total_bytes own) (omega (arith, size)) (omega (arith, whole, both, short)))
    refl
    refl

-- ---- the step

delete_steps : (f g : SlotFile) (at : ℕ) (freed : Freed) (m n : Holding) → IsSound f.defs → f.defs.format ≡ Dynamic → RowIsFreed (list_in f) (list_in g) at m n → TalliesFreed (list_in f) at freed m → g ≡ record f { counts = counts_without freed g.counts.dellink f.counts } → is_addressable f.defs f.counts.length ≡ true → StepsRow (delete at) at f g m n
delete_steps f g at freed m n sound dynamic frees tallies object room s r k here =
    let d = f.defs in
    let x = bytes_of f.name m in
    let e = bytes_of f.name n in
    let holes = s.space.holes in
    let dyn = dynamic-of d s x dynamic k.stands in
    let has = has-holes f s m dynamic k in
    let w = standing-of d s x at r sound dynamic dyn here in
    let listed = (all-split _ _ holes w.listed).0 in
    let left : LeavesFreed (list_in g) r.blocks holes x e = subst (λ (own : List Area). LeavesFreed (list_in g) own holes x e) w.areas (frees _ w.blocks holes has w.stands listed) in
    let t : CountsFreed r.blocks holes freed = subst (λ (own : List Area). CountsFreed own holes freed) w.areas (tallies _ w.blocks holes has w.stands listed) in
    let end = end-of f s m k in
    let short : s.space.end ≤ 2 ^ 40 = omega (arith, below-reached d f.counts.length dynamic room, end) in
    let numbers : g.counts ≡ counts_of (accepted d s (delete at)).state =
    ap (λ (h : SlotFile). h.counts) object
    ∙ ap (λ (o : Option ℕ). counts_without freed o f.counts) left.holes_are.head
    ∙ ap (λ (c : Counts). counts_without freed (first_or (release_all r.blocks holes) None) c) k.counts
    ∙ without_counts d s at r freed sound dynamic dyn.state here short t
    ∙ sym (released-counts d s at r sound dynamic dyn.state here) in
    stepped f g (delete at) s (accepted d s (delete at)) at n
    (step-done d s (delete at) f.counts.length (row-there s at r here) (deleted_end d s at r dynamic here ∙ sym end) room)
    (deleted_place d s at r here) (ap (λ (h : SlotFile). h.name) object) (ap (λ (h : SlotFile). h.defs) object) numbers
    (released-stands d s x e at r sound dynamic k.stands here left.holes_are.list left.keeps left.long)

pub delete-ok : (f g : SlotFile) (at : ℕ) (freed : Freed) (old new : Option Holding) → IsSound f.defs → f.defs.format ≡ Dynamic → Told old new (RowIsFreed (list_in f) (list_in g) at) → IfTold old (TalliesFreed (list_in f) at freed) → g ≡ record f { counts = counts_without freed g.counts.dellink f.counts } → is_addressable f.defs f.counts.length ≡ true → Told old new (StepsRow (delete at) at f g)
delete-ok f g at freed old new sound dynamic frees tallies object room =
    told_more old new (RowIsFreed (list_in f) (list_in g) at) (StepsRow (delete at) at f g) frees
    (λ m n held w. delete_steps f g at freed m n sound dynamic w (tallies m held) object room)

-- ---- what is refused

delete_full : (f : SlotFile) (at : ℕ) (m : Holding) → f.defs.format ≡ Dynamic → is_addressable f.defs f.counts.length ≡ false → (s : TableState) (r : StoredRow) → IsFileOf f s m → row_at at s.rows ≡ Some r → (step f.defs s (delete at)).reply ≡ Err full
delete_full f at m dynamic past s r k here =
    step-full f.defs s (delete at) f.counts.length (row-there s at r here) (deleted_end f.defs s at r dynamic here ∙ sym (end-of f s m k)) past

never_damaged : (f : SlotFile) (at p : ℕ) (m : Holding) → IsSound f.defs → f.defs.format ≡ Dynamic → FindsRowBad f at p m → (s : TableState) (r : StoredRow) → IsFileOf f s m → row_at at s.rows ≡ Some r → ⊥
never_damaged f at p m sound dynamic bad s r k here =
    let x = bytes_of f.name m in
    let holes = s.space.holes in
    let w = standing-of f.defs s x at r sound dynamic (dynamic-of f.defs s x dynamic k.stands) here in
    freed-sound (list_in f) at p m _ w.blocks holes (has-holes f s m dynamic k) w.stands (all-split _ _ holes w.listed).0 bad

pub delete-refused : (f : SlotFile) (at : ℕ) (old : Option Holding) (e : DataFault) → IsSound f.defs → f.defs.format ≡ Dynamic → ByCause Never (is_addressable f.defs f.counts.length ≡ false) (λ p. IfTold old (FindsRowBad f at p)) e → IfTold old (RefusesRow (delete at) at f e)
delete-refused f at old (fault.NoRow p) sound dynamic cause = absurd cause
delete-refused f at old fault.Full sound dynamic cause = λ m held s r k here. delete_full f at m dynamic cause s r k here
delete-refused f at old (fault.Damaged p) sound dynamic cause = λ m held s r k here. absurd (never_damaged f at p m sound dynamic (cause m held) s r k here)
delete-refused f at old fault.File sound dynamic cause = λ m held s r k here. tt
delete-refused f at old fault.Memory sound dynamic cause = λ m held s r k here. tt

-- ---- as the deleted list tells it

-- the list of a file that row pointers reach
pub list-is : (l : ListState) (f : SlotFile) → l.name ≡ f.name → l.head ≡ f.counts.dellink → l.end ≡ f.counts.length → l.end_below ≡ end_limit f.defs → l ≡ list_in f
list-is l f name head end below =
    ap (λ (x : List ℕ). record { name = x; head = l.head; end = l.end; end_below = l.end_below }) name
    ∙ ap (λ (x : Option ℕ). record { name = f.name; head = x; end = l.end; end_below = l.end_below }) head
    ∙ ap (λ (x : ℕ). record { name = f.name; head = f.counts.dellink; end = x; end_below = l.end_below }) end
    ∙ ap (λ (x : ℕ). record { name = f.name; head = f.counts.dellink; end = f.counts.length; end_below = x }) below

pub freed-told : (old new : Option Holding) (l k lf kf : ListState) (at : ℕ) → l ≡ lf → k ≡ kf → Told old new (RowIsFreed l k at) → Told old new (RowIsFreed lf kf at)
freed-told old new l k lf kf at same then t = subst (λ (x : ListState). Told old new (RowIsFreed lf x at)) then (subst (λ (x : ListState). Told old new (RowIsFreed x k at)) same t)

pub freed-tallied : (old : Option Holding) (l lf : ListState) (at : ℕ) (freed : Freed) → l ≡ lf → IfTold old (TalliesFreed l at freed) → IfTold old (TalliesFreed lf at freed)
freed-tallied old l lf at freed same t = subst (λ (x : ListState). IfTold old (TalliesFreed x at freed)) same t

pub freed-refused : (f : SlotFile) (l : ListState) (at : ℕ) (old : Option Holding) (e : FreeFault) → l ≡ list_in f → IfDamaged e (λ p. IfTold old (RowFindsBad l at p)) → IsNotFull e → ByCause Never (is_addressable f.defs f.counts.length ≡ false) (λ p. IfTold old (FindsRowBad f at p)) (data_fault e)
freed-refused f l at old free.Full same bad room = absurd room
freed-refused f l at old (free.Damaged p) same bad room = λ m held. subst (λ (x : ListState). RowFindsBad x at p m) same (bad m held)
freed-refused f l at old free.File same bad room = tt
freed-refused f l at old free.Memory same bad room = tt
