-- What is put is a step of the state that the file stood for, and so is what is refused.
use Rattle.std.proofs.Common.{◌≡◌, ℕ, ◌-◌, ◌%◌, ◌^◌, ◌<◌, ◌≤◌, Bool, true, false, List, [], length, Option, Some, None, Ok, Err, refl, sym, ap, subst, ◌∙◌, arith}
use Rattle.std.specs.Prelude.{◌&&◌, nat_le, nat_lt}
use Rattle.std.specs.List.{AllByRecursion}
use Rattle.std.proofs.lemmas.Bool.{le-leb, lt-ltb, ltb-true, leb-true}
use Rattle.myi_base.specs.Holding.{Holding, bytes_of}
use Rattle.myi_defs.specs.declared.types.RowFormat.{RowFormat}
use Rattle.myi_defs.specs.declared.types.RowFormat.TheVariants.{Static, Dynamic}
use Rattle.myi_defs.specs.declared.types.Defs.{Defs}
use Rattle.myi_defs.specs.Addressable.{is_addressable, pointers}
use Rattle.myi_defs.specs.Sound.{IsSound}
use Rattle.myi_pack.specs.Packed.{Values}
use Rattle.myi_pack.specs.Spelling.{spelling, fits}
use Rattle.myi_data.proofs.CallerLemmas.{spelling_some}
use Rattle.myi_dellist.specs.declared.rows.Put.{Put}
use Rattle.myi_dellist.specs.Areas.{Area, HaveBytes}
use Rattle.myi_dellist.specs.Releasing.{IsHole, IsFreeable}
use Rattle.myi_dellist.specs.Placing.{Space, Placing, areas_of, place, place_at_end, place_of, next_place}
use Rattle.myi_dellist.specs.RowBlocks.{row_blocks, HoldRow}
use Rattle.myi_dellist.specs.Standing.{first_or}
use Rattle.myi_dellist.specs.FreeList.{HasHoles}
use Rattle.myi_dellist.specs.Rows.{AreListedBehind, PutsRow, PutsNew, PutsAtEnd, Tallies, TalliesNew, TalliesAtEnd}
use Rattle.myi_dellist.proofs.CallerLemmas.{update-holds, end-holds, place-new, end-place, never-bad, long-placed}
use Rattle.myi_state.specs.declared.counts.Counts.{Counts}
use Rattle.myi_state.specs.State.{TableState, row_areas, taken_of, take_next, take_behind}
use Rattle.myi_state.specs.Changes.{Change, insert, insert_at_end, full, Changed, Step, with_row, accepted, lacks_row, if_long, step}
use Rattle.myi_state.specs.Sound.{IsState}
use Rattle.myi_state.specs.Numbers.{counts_of}
use Rattle.myi_state.specs.Standing.{StandsFor}
use Rattle.myi_state.proofs.CallerLemmas.{accepted-kept, room-refused, none-refused, IsAligned, next-takes, behind-takes, none-own, state-aligned}
use Rattle.myi_slots.specs.SlotFile.{SlotFile, IsFileOf, Steps}
use Rattle.myi_blocks.specs.BlockFile.{end_limit, list_in, end_with, FindsBad, LacksRoom, counts_with}
use Rattle.myi_blocks.proofs.StandLemmas.{all-split, all-more, dynamic-of, listed-behind}
use Rattle.myi_blocks.proofs.PutLemmas.{IsPlaced, put-stands}
use Rattle.myi_blocks.proofs.CountLemmas.{put-counts}

-- ---- how far row pointers reach

pointers_are : (f : RowFormat) (size n : ℕ) → f ≡ Dynamic → pointers f size n ≡ n
pointers_are Static size n e = absurd cc
pointers_are Dynamic size n e = refl

reach_is : (d : Defs) (n : ℕ) → d.format ≡ Dynamic → is_addressable d n ≡ (nat_le n (2 ^ 40) && nat_lt n (256 ^ d.rec_ref - 1))
unfolding is_addressable
reach_is d n dynamic = ap (λ (k : ℕ). nat_le n (2 ^ 40) && nat_lt k (256 ^ d.rec_ref - 1)) (pointers_are d.format d.slot_length n dynamic)

both_true : (a b : Bool) → a ≡ true → b ≡ true → (a && b) ≡ true
both_true true b e f = f
both_true false b e f = e

halves : (a b : Bool) → (a && b) ≡ true → (a ≡ true) × (b ≡ true)
halves true b e = (refl, e)
halves false b e = absurd cc

pub reached-below : (d : Defs) (n : ℕ) → d.format ≡ Dynamic → n < end_limit d → is_addressable d n ≡ true
reached-below d n dynamic lt = reach_is d n dynamic ∙ both_true (nat_le n (2 ^ 40)) (nat_lt n (256 ^ d.rec_ref - 1)) (le-leb _ _ (omega (arith, lt))) (lt-ltb _ _ (omega (arith, lt)))

pub below-reached : (d : Defs) (n : ℕ) → d.format ≡ Dynamic → is_addressable d n ≡ true → n < end_limit d
below-reached d n dynamic e =
    let t = halves (nat_le n (2 ^ 40)) (nat_lt n (256 ^ d.rec_ref - 1)) (sym (reach_is d n dynamic) ∙ e) in
    omega (arith, leb-true _ _ t.0, ltb-true _ _ t.1)

pub not-reached : (d : Defs) (n : ℕ) → d.format ≡ Dynamic → end_limit d ≤ n → is_addressable d n ≡ false
not-reached d n dynamic le = by_test (is_addressable d n) refl
  where
    by_test : (t : Bool) → is_addressable d n ≡ t → t ≡ false
    by_test true e = absurd (omega (arith, below-reached d n dynamic e, le))
    by_test false e = refl

pub never-reached : (d : Defs) (n more : ℕ) → d.format ≡ Dynamic → is_addressable d n ≡ false → n ≤ more → is_addressable d more ≡ false
never-reached d n more dynamic past le = by_test (is_addressable d more) refl
  where
    never : true ≡ false → ⊥
    never e = absurd cc

    by_test : (t : Bool) → is_addressable d more ≡ t → t ≡ false
    by_test true e = absurd (never (sym (reached-below d n dynamic (omega (arith, below-reached d more dynamic e, le))) ∙ past))
    by_test false e = refl

-- ---- steps

pub step-done : (d : Defs) (s : TableState) (c : Change) (end : ℕ) → lacks_row s c ≡ None → (accepted d s c).state.space.end ≡ end → is_addressable d end ≡ true → step d s c ≡ record { reply = Ok (accepted d s c).at; state = (accepted d s c).state }
step-done d s c end row e room = none-refused d s c row (ap (λ (n : ℕ). if_long (is_addressable d n)) e ∙ ap (λ (b : Bool). if_long b) room)

pub step-full : (d : Defs) (s : TableState) (c : Change) (end : ℕ) → lacks_row s c ≡ None → (accepted d s c).state.space.end ≡ end → is_addressable d end ≡ false → (step d s c).reply ≡ Err full
step-full d s c end row e room = room-refused d s c row full (ap (λ (n : ℕ). if_long (is_addressable d n)) e ∙ ap (λ (b : Bool). if_long b) room)

pub stepped : (f g : SlotFile) (c : Change) (s : TableState) (q : Changed) (at : ℕ) (n : Holding) → step f.defs s c ≡ record { reply = Ok q.at; state = q.state } → q.at ≡ at → g.name ≡ f.name → g.defs ≡ f.defs → g.counts ≡ counts_of q.state → StandsFor f.defs q.state (bytes_of f.name n) → ((step f.defs s c).reply ≡ Ok at) × IsFileOf g (step f.defs s c).state n
stepped f g c s q at n done here name defs numbers stands =
    let t = q.state in
    let h = subst (λ (x : List ℕ). StandsFor f.defs t (bytes_of x n)) (sym name) stands in (
      ap (λ (r : Step). r.reply) done ∙ ap (λ (k : ℕ). Ok k) here,
      subst (λ (r : Step). IsFileOf g r.state n) (sym done) (record { counts = numbers; stands = subst (λ (e : Defs). StandsFor e t (bytes_of g.name n)) (sym defs) h }),
    )

-- the end and the head that the object knows are those of the state
pub end-of : (f : SlotFile) (s : TableState) (m : Holding) → IsFileOf f s m → f.counts.length ≡ s.space.end
unfolding counts_of
end-of f s m k = ap (λ (c : Counts). c.length) k.counts

pub head-of : (f : SlotFile) (s : TableState) (m : Holding) → IsFileOf f s m → f.counts.dellink ≡ first_or s.space.holes None
unfolding counts_of
head-of f s m k = ap (λ (c : Counts). c.dellink) k.counts

-- ---- what a row takes

pub freeable_bytes : (areas : List Area) → AllByRecursion IsFreeable areas → HaveBytes areas
freeable_bytes areas all = all-more IsFreeable (λ (a : Area). 0 < a.size) areas (λ a f. omega (arith, f.least)) all

pub hole_bytes : (holes : List Area) → AllByRecursion IsHole holes → HaveBytes holes
hole_bytes holes all = all-more IsHole (λ (a : Area). 0 < a.size) holes (λ a f. omega (arith, f.least)) all

aligned_by : (f : RowFormat) (end : ℕ) → f ≡ Dynamic → IsAligned f end → end % 4 ≡ 0
aligned_by Static end e a = absurd cc
aligned_by Dynamic end e a = a

pub aligned-end : (d : Defs) (s : TableState) → d.format ≡ Dynamic → IsState d s → s.space.end % 4 ≡ 0
aligned-end d s dynamic i = aligned_by d.format s.space.end dynamic (state-aligned d s i)

new_placed : (d : Defs) (s : TableState) (row : List ℕ) → 0 < length row → s.space.end % 4 ≡ 0 → AllByRecursion IsHole s.space.holes → IsPlaced d s [] (place s.space [] (length row)) (next_place s.space.holes s.space.end) row
new_placed d s row some aligned holes =
    let t = next-takes Dynamic d.slot_length s.space (length row) some aligned holes in
    record {
      takes = t;
      own_bytes = freeable_bytes (areas_of (place s.space [] (length row)).pieces) t.blocks;
      hole_bytes = hole_bytes (place s.space [] (length row)).space.holes t.holes;
      place = place-new s.space (length row) some;
      hold = subst (λ (p : Placing). HoldRow (place_of p.pieces) row (row_blocks p.pieces row)) (none-own s.space (length row)) (update-holds s.space [] row some aligned tt holes);
    }

end_placed : (d : Defs) (s : TableState) (row : List ℕ) → 0 < length row → s.space.end % 4 ≡ 0 → AllByRecursion IsHole s.space.holes → IsPlaced d s [] (place_at_end s.space (length row)) s.space.end row
end_placed d s row some aligned holes =
    let t = behind-takes Dynamic d.slot_length s.space (length row) some aligned holes in
    record {
      takes = t;
      own_bytes = freeable_bytes (areas_of (place_at_end s.space (length row)).pieces) t.blocks;
      hole_bytes = hole_bytes s.space.holes t.holes;
      place = end-place s.space (length row) some;
      hold = end-holds s.space row some aligned;
    }

next_dynamic : (f : RowFormat) (d : Defs) (s : TableState) (at : ℕ) (values : Values) (len : ℕ) → f ≡ Dynamic → with_row at values (take_next f d.slot_length s.space len) s.rows ≡ with_row at values (taken_of (place s.space [] len)) s.rows
next_dynamic Static d s at values len e = absurd cc
next_dynamic Dynamic d s at values len e = refl

behind_dynamic : (f : RowFormat) (d : Defs) (s : TableState) (at : ℕ) (values : Values) (len : ℕ) → f ≡ Dynamic → with_row at values (take_behind f d.slot_length s.space len) s.rows ≡ with_row at values (taken_of (place_at_end s.space len)) s.rows
behind_dynamic Static d s at values len e = absurd cc
behind_dynamic Dynamic d s at values len e = refl

pub inserted-state : (d : Defs) (s : TableState) (values : Values) → d.format ≡ Dynamic → accepted d s (insert values) ≡ with_row (next_place s.space.holes s.space.end) values (taken_of (place s.space [] (length (spelling d values)))) s.rows
unfolding accepted
inserted-state d s values dynamic = next_dynamic d.format d s (next_place s.space.holes s.space.end) values (length (spelling d values)) dynamic

pub appended-state : (d : Defs) (s : TableState) (values : Values) → d.format ≡ Dynamic → accepted d s (insert_at_end values) ≡ with_row s.space.end values (taken_of (place_at_end s.space (length (spelling d values)))) s.rows
unfolding accepted
appended-state d s values dynamic = behind_dynamic d.format d s s.space.end values (length (spelling d values)) dynamic

-- ---- a row that was put

some_is : {a b : ℕ} → Some a ≡ Some b → a ≡ b
some_is e = cc

-- The object behind a row that was put, where it was placed so.
put_steps : (f g : SlotFile) (c : Change) (s : TableState) (values : Values) (row : List ℕ) (p : Placing) (place at : ℕ) (put : Put) (m n : Holding) → IsSound f.defs → f.defs.format ≡ Dynamic → fits f.defs values ≡ true → row ≡ spelling f.defs values → IsFileOf f s m → IsState f.defs (accepted f.defs s c).state → accepted f.defs s c ≡ with_row place values (taken_of p) s.rows → lacks_row s c ≡ None → IsPlaced f.defs s [] p place row → Tallies s.space.holes p put → PutsRow (list_in g) s.space.holes p row at (bytes_of f.name m) (bytes_of f.name n) → g ≡ record f { counts = counts_with put g.counts.length g.counts.dellink f.counts } → is_addressable f.defs g.counts.length ≡ true → ((step f.defs s c).reply ≡ Ok at) × IsFileOf g (step f.defs s c).state n
put_steps f g c s values row p place at put m n sound dynamic fit packed k kept done none i tallies puts object room =
    let d = f.defs in
    let q = with_row place values (taken_of p) s.rows in
    let state : IsState d q.state = subst (λ (r : Changed). IsState d r.state) done kept in
    let dyn = dynamic-of d s (bytes_of f.name m) dynamic k.stands in
    let same : place ≡ at = some_is (sym i.place ∙ puts.place_is) in
    let stands = put-stands d s (bytes_of f.name m) (bytes_of f.name n) (list_in g) p place values row sound dynamic fit packed dyn i state (subst (λ (w : ℕ). PutsRow (list_in g) s.space.holes p row w (bytes_of f.name m) (bytes_of f.name n)) (sym same) puts) in
    let end : g.counts.length ≡ p.space.end = puts.end_is in
    let short : p.space.end ≤ 2 ^ 40 = omega (arith, below-reached d g.counts.length dynamic room, end) in
    let counts = put-counts d s p place values row put sound dynamic dyn.state i state tallies short in
    let numbers : g.counts ≡ counts_of q.state =
    ap (λ (h : SlotFile). h.counts) object
    ∙ ap (λ (x : ℕ). counts_with put x g.counts.dellink f.counts) end
    ∙ ap (λ (o : Option ℕ). counts_with put p.space.end o f.counts) puts.holes_are.head
    ∙ ap (λ (x : Counts). counts_with put p.space.end (first_or p.space.holes None) x) k.counts
    ∙ sym counts in
    stepped f g c s q at n (step-done d s c g.counts.length none (ap (λ (r : Changed). r.state.space.end) done ∙ sym end) room ∙ ap (λ (r : Changed). record { reply = Ok r.at; state = r.state }) done) same
    (ap (λ (h : SlotFile). h.name) object) (ap (λ (h : SlotFile). h.defs) object) numbers stands

-- the deleted list of a state
pub has-holes : (f : SlotFile) (s : TableState) (m : Holding) → f.defs.format ≡ Dynamic → IsFileOf f s m → HasHoles (list_in f) s.space.holes (bytes_of f.name m)
has-holes f s m dynamic k = record { head = head-of f s m k; list = (dynamic-of f.defs s (bytes_of f.name m) dynamic k.stands).list }

pub holes-listed : (f : SlotFile) (s : TableState) (m : Holding) → IsSound f.defs → f.defs.format ≡ Dynamic → IsFileOf f s m → AreListedBehind s.space.holes s.space.holes (bytes_of f.name m)
holes-listed f s m sound dynamic k =
    let x = bytes_of f.name m in
    (all-split _ (row_areas s.rows) s.space.holes (listed-behind f.defs s x sound (dynamic-of f.defs s x dynamic k.stands))).1

pub space_is : (s : TableState) (end : ℕ) → end ≡ s.space.end → (record { holes = s.space.holes; end = end }) ≡ s.space
space_is s end e = ap (λ (x : ℕ). record { holes = s.space.holes; end = x }) e

pub insert-steps : (f g : SlotFile) (values : Values) (row : List ℕ) (at : ℕ) (put : Put) (m n : Holding) → IsSound f.defs → f.defs.format ≡ Dynamic → fits f.defs values ≡ true → row ≡ spelling f.defs values → PutsNew (list_in f) (list_in g) row at m n → TalliesNew (list_in f) (length row) put m → g ≡ record f { counts = counts_with put g.counts.length g.counts.dellink f.counts } → is_addressable f.defs g.counts.length ≡ true → Steps (insert values) f g at m n
insert-steps f g values row at put m n sound dynamic fit packed puts tallies object room s k =
    let d = f.defs in
    let x = bytes_of f.name m in
    let dyn = dynamic-of d s x dynamic k.stands in
    let has = has-holes f s m dynamic k in
    let listed = holes-listed f s m sound dynamic k in
    let long = end-of f s m k in
    let even = aligned-end d s dynamic dyn.state in
    let aligned : f.counts.length % 4 ≡ 0 = omega (arith, long, even) in
    let some : 0 < length row = subst (λ (y : List ℕ). 0 < length y) (sym packed) (spelling_some d values sound fit) in
    let space = space_is s f.counts.length long in
    let p = place s.space [] (length row) in
    let put_is = subst (λ (w : Space). PutsRow (list_in g) s.space.holes (place w [] (length row)) row at x (bytes_of f.name n)) space (puts s.space.holes aligned has listed) in
    let tally = subst (λ (w : Space). Tallies s.space.holes (place w [] (length row)) put) space (tallies s.space.holes aligned has listed) in
    let done = inserted-state d s values dynamic ∙ ap (λ (y : List ℕ). with_row (next_place s.space.holes s.space.end) values (taken_of (place s.space [] (length y))) s.rows) (sym packed) in
    put_steps f g (insert values) s values row p (next_place s.space.holes s.space.end) at put m n sound dynamic fit packed k (accepted-kept d s (insert values) sound fit dyn.state) done refl (new_placed d s row some even dyn.holes) tally put_is object room

pub append-steps : (f g : SlotFile) (values : Values) (row : List ℕ) (at : ℕ) (put : Put) (m n : Holding) → IsSound f.defs → f.defs.format ≡ Dynamic → fits f.defs values ≡ true → row ≡ spelling f.defs values → PutsAtEnd (list_in f) (list_in g) row at m n → TalliesAtEnd (list_in f) (length row) put → g ≡ record f { counts = counts_with put g.counts.length g.counts.dellink f.counts } → is_addressable f.defs g.counts.length ≡ true → Steps (insert_at_end values) f g at m n
append-steps f g values row at put m n sound dynamic fit packed puts tallies object room s k =
    let d = f.defs in
    let x = bytes_of f.name m in
    let dyn = dynamic-of d s x dynamic k.stands in
    let has = has-holes f s m dynamic k in
    let long = end-of f s m k in
    let even = aligned-end d s dynamic dyn.state in
    let aligned : f.counts.length % 4 ≡ 0 = omega (arith, long, even) in
    let some : 0 < length row = subst (λ (y : List ℕ). 0 < length y) (sym packed) (spelling_some d values sound fit) in
    let space = space_is s f.counts.length long in
    let p = place_at_end s.space (length row) in
    let put_is = subst (λ (w : Space). PutsRow (list_in g) s.space.holes (place_at_end w (length row)) row at x (bytes_of f.name n)) space (puts s.space.holes aligned has) in
    let tally = subst (λ (w : Space). Tallies s.space.holes (place_at_end w (length row)) put) space (tallies s.space.holes) in
    let done = appended-state d s values dynamic ∙ ap (λ (y : List ℕ). with_row s.space.end values (taken_of (place_at_end s.space (length y))) s.rows) (sym packed) in
    put_steps f g (insert_at_end values) s values row p s.space.end at put m n sound dynamic fit packed k (accepted-kept d s (insert_at_end values) sound fit dyn.state) done refl (end_placed d s row some even dyn.holes) tally put_is object room

-- ---- what is refused

-- a file that row pointers do not reach is full for each row
pub insert-full : (f : SlotFile) (values : Values) (row : List ℕ) (m : Holding) → IsSound f.defs → f.defs.format ≡ Dynamic → fits f.defs values ≡ true → row ≡ spelling f.defs values → is_addressable f.defs f.counts.length ≡ false → (s : TableState) → IsFileOf f s m → (step f.defs s (insert values)).reply ≡ Err full
insert-full f values row m sound dynamic fit packed past s k =
    let d = f.defs in
    let dyn = dynamic-of d s (bytes_of f.name m) dynamic k.stands in
    let even = aligned-end d s dynamic dyn.state in
    let some : 0 < length row = subst (λ (y : List ℕ). 0 < length y) (sym packed) (spelling_some d values sound fit) in
    let p = new_placed d s row some even dyn.holes in
    let done = inserted-state d s values dynamic ∙ ap (λ (y : List ℕ). with_row (next_place s.space.holes s.space.end) values (taken_of (place s.space [] (length y))) s.rows) (sym packed) in
    step-full d s (insert values) (place s.space [] (length row)).space.end refl (ap (λ (r : Changed). r.state.space.end) done)
    (never-reached d f.counts.length (place s.space [] (length row)).space.end dynamic past (omega (arith, end-of f s m k, p.takes.grows)))

-- and so is one where the list ends before the row does, and the end would be too far
pub insert-long : (f : SlotFile) (values : Values) (row : List ℕ) (m : Holding) → IsSound f.defs → f.defs.format ≡ Dynamic → fits f.defs values ≡ true → row ≡ spelling f.defs values → LacksRoom f (length row) m → (s : TableState) → IsFileOf f s m → (step f.defs s (insert values)).reply ≡ Err full
insert-long f values row m sound dynamic fit packed lacks s k =
    let d = f.defs in
    let some : 0 < length row = subst (λ (y : List ℕ). 0 < length y) (sym packed) (spelling_some d values sound fit) in
    let done = inserted-state d s values dynamic ∙ ap (λ (y : List ℕ). with_row (next_place s.space.holes s.space.end) values (taken_of (place s.space [] (length y))) s.rows) (sym packed) in
    let far = long-placed (list_in f) s.space.holes (bytes_of f.name m) (length row) (end_limit d) some (has-holes f s m dynamic k) lacks in
    let space = space_is s f.counts.length (end-of f s m k) in
    let le : end_limit d ≤ (place s.space [] (length row)).space.end = subst (λ (w : Space). end_limit d ≤ (place w [] (length row)).space.end) space far in
    step-full d s (insert values) (place s.space [] (length row)).space.end refl (ap (λ (r : Changed). r.state.space.end) done) (not-reached d (place s.space [] (length row)).space.end dynamic le)

pub append-full : (f : SlotFile) (values : Values) (row : List ℕ) (m : Holding) → f.defs.format ≡ Dynamic → row ≡ spelling f.defs values → is_addressable f.defs (end_with f (length row)) ≡ false → (s : TableState) → IsFileOf f s m → (step f.defs s (insert_at_end values)).reply ≡ Err full
append-full f values row m dynamic packed past s k =
    let d = f.defs in
    let done = appended-state d s values dynamic ∙ ap (λ (y : List ℕ). with_row s.space.end values (taken_of (place_at_end s.space (length y))) s.rows) (sym packed) in
    let end : end_with f (length row) ≡ (place_at_end s.space (length row)).space.end = ap (λ (x : ℕ). (place_at_end (record { holes = []; end = x }) (length row)).space.end) (end-of f s m k) in
    step-full d s (insert_at_end values) (place_at_end s.space (length row)).space.end refl (ap (λ (r : Changed). r.state.space.end) done) (ap (λ (x : ℕ). is_addressable d x) (sym end) ∙ past)

-- past block is found damaged
pub never-damaged : (f : SlotFile) (len at : ℕ) (m : Holding) → IsSound f.defs → f.defs.format ≡ Dynamic → FindsBad f len at m → (s : TableState) → IsFileOf f s m → ⊥
never-damaged f len at m sound dynamic bad s k = never-bad (list_in f) s.space.holes (bytes_of f.name m) len at (has-holes f s m dynamic k) (holes-listed f s m sound dynamic k) bad
