-- A row that was put in the place of another: the step of each state that has it.
use Rattle.std.proofs.Common.{◌≡◌, ℕ, ◌%◌, ◌^◌, ◌<◌, ◌≤◌, ◌⊎◌, inl, inr, true, false, List, [], ◌∷◌, ◌++◌, length, Option, Some, None, Ok, Err, refl, sym, ap, subst, ◌∙◌, arith}
use Rattle.std.specs.List.{AllByRecursion}
use Rattle.myi_base.specs.Holding.{Holding, Told, IfTold, bytes_of}
use Rattle.myi_base.proofs.CallerLemmas.{told_more}
use Rattle.myi_defs.specs.declared.types.RowFormat.{RowFormat}
use Rattle.myi_defs.specs.declared.types.RowFormat.TheVariants.{Static, Dynamic}
use Rattle.myi_defs.specs.declared.types.Defs.{Defs}
use Rattle.myi_defs.specs.Addressable.{is_addressable}
use Rattle.myi_defs.specs.Sound.{IsSound}
use Rattle.myi_pack.specs.Packed.{Values}
use Rattle.myi_pack.specs.Spelling.{spelling, fits}
use Rattle.myi_data.proofs.CallerLemmas.{spelling_some}
use Rattle.myi_dellist.specs.declared.fault.FreeFault.{FreeFault}
use Rattle.myi_dellist.specs.declared.fault.FreeFault.TheVariants as free
use Rattle.myi_dellist.specs.declared.pieces.Piece.{Piece}
use Rattle.myi_dellist.specs.declared.rows.Replaced.{Replaced}
use Rattle.myi_dellist.specs.Areas.{Area}
use Rattle.myi_dellist.specs.Releasing.{IsHole, IsFreeable}
use Rattle.myi_dellist.specs.Placing.{Space, Placing, areas_of, sizes_of, place_of}
use Rattle.myi_dellist.specs.Placing as placing
use Rattle.myi_dellist.specs.Standing.{first_or}
use Rattle.myi_dellist.specs.Freeing.{IfDamaged}
use Rattle.myi_dellist.specs.FreeList.{ListState}
use Rattle.myi_dellist.specs.FreeList as list
use Rattle.myi_dellist.specs.Rows.{PutsRow, IfFull, most_end}
use Rattle.myi_dellist.specs.Chains.{areas_in}
use Rattle.myi_dellist.specs.Replacing.{PutsAgain, CountsReplaced, TalliesReplaced, RewriteFindsBad, RewriteIsLong, OwnLong}
use Rattle.myi_dellist.proofs.CallerLemmas.{update-grows, update-tile, update-holes, update-freeable, update-place, update-holds, rewrite-sound, rewrite-long}
use Rattle.myi_state.specs.declared.counts.Counts.{Counts}
use Rattle.myi_state.specs.State.{StoredRow, TableState, row_at, row_areas, rows_without, taken_of, take_again}
use Rattle.myi_state.specs.Changes.{Changed, full, accepted, if_absent, lacks_row, step, with_row, with_values}
use Rattle.myi_state.specs.Changes as change
use Rattle.myi_state.specs.Sound.{IsState}
use Rattle.myi_state.specs.Numbers.{total_bytes, counts_of}
use Rattle.myi_state.specs.Standing.{StandsInBlocks}
use Rattle.myi_state.proofs.CallerLemmas.{accepted-kept, others-tile, state-bytes, state-few, same-counts, without-all, put-rows, put-areas, gone-rows, gone-areas}
use Rattle.myi_slots.specs.declared.fault.DataFault.{DataFault}
use Rattle.myi_slots.specs.declared.fault.DataFault.TheVariants as fault
use Rattle.myi_slots.specs.SlotFile.{SlotFile, IsFileOf, ByCause, Never, data_fault}
use Rattle.myi_blocks.specs.BlockFile.{list_in, counts_again, FindsOtherBad, LacksOtherRoom}
use Rattle.myi_blocks.specs.Standing.{StepsRow, RefusesRow}
use Rattle.myi_blocks.proofs.StandLemmas.{all-split, all-join, IsDynamic, dynamic-of}
use Rattle.myi_blocks.proofs.PutLemmas.{IsPlaced, AreOthers, put-over}
use Rattle.myi_blocks.proofs.CountLemmas.{area_count, area_bytes, tiled_bytes, total_both}
use Rattle.myi_blocks.proofs.FreedLemmas.{row_parts}
use Rattle.myi_blocks.proofs.StepLemmas.{not-reached, never-reached, below-reached, step-done, step-full, stepped, end-of, has-holes, aligned-end, freeable_bytes, hole_bytes, space_is}
use Rattle.myi_blocks.proofs.RowLemmas.{IsStanding, standing-of}

-- ---- what the row takes

first_of : (ps : List Piece) (p : ℕ) → place_of ps ≡ Some p → first_or (areas_of ps) None ≡ Some p
first_of [] p e = absurd cc
first_of (x ∷ ps) p e = e

again_place : (s : Space) (own : List Area) (len at : ℕ) → first_or own None ≡ Some at → place_of (placing.update s own len).pieces ≡ Some at
again_place s [] len at here = absurd cc
again_place s (a ∷ own) len at here = update-place s a own len ∙ here

pub again_placed : (d : Defs) (s : TableState) (own : List Area) (row : List ℕ) (at : ℕ) → 0 < length row → s.space.end % 4 ≡ 0 → AllByRecursion IsFreeable own → AllByRecursion IsHole s.space.holes → first_or own None ≡ Some at → IsPlaced d s own (placing.update s.space own (length row)) at row
again_placed d s own row at some aligned free holes here =
    let len = length row in
    let p = placing.update s.space own len in
    let place = again_place s.space own len at here in
    let blocks = update-freeable s.space own len some aligned free holes in
    let left = update-holes s.space own len some aligned free holes in
    record {
      takes = record {
        grows = update-grows s.space own len free holes;
        tile = λ others tile. update-tile s.space own others len free holes tile;
        blocks = blocks;
        holes = left;
        place = first_of p.pieces at place;
      };
      own_bytes = freeable_bytes (areas_of p.pieces) blocks;
      hole_bytes = hole_bytes p.space.holes left;
      place = place;
      hold = update-holds s.space own row some aligned free holes;
    }

-- ---- the other rows

others_of : (d : Defs) (s : TableState) (x : List ℕ) (at : ℕ) (r : StoredRow) → IsSound d → IsDynamic d s x → row_at at s.rows ≡ Some r → AreOthers d s x r.blocks (rows_without at s.rows)
others_of d s x at r sound k here =
    let holes = s.space.holes in
    let bytes = all-split (λ (a : Area). 0 < a.size) (row_areas s.rows) holes (state-bytes d s sound k.state) in
    let parts = row_parts (λ (a : Area). 0 < a.size) at s.rows r here bytes.0 in
    record {
      row_bytes = parts.1;
      free_bytes = all-join (λ (a : Area). 0 < a.size) r.blocks holes parts.0 bytes.1;
      tile = others-tile s.space.end at s.rows holes r here k.state.tile;
      stand = without-all (StandsInBlocks d x) at s.rows k.stand;
    }

-- ---- the numbers

again_counts : (d : Defs) (s : TableState) (x : List ℕ) (at : ℕ) (r : StoredRow) (p : Placing) (values : Values) (row : List ℕ) (rep : Replaced) → IsSound d → IsState d s → row_at at s.rows ≡ Some r → AreOthers d s x r.blocks (rows_without at s.rows) → IsPlaced d s r.blocks p at row → IsState d (with_row at values (taken_of p) (rows_without at s.rows)).state → CountsReplaced r.blocks s.space.holes p rep → p.space.end ≤ 2 ^ 40 → counts_of (with_row at values (taken_of p) (rows_without at s.rows)).state ≡ counts_again rep p.space.end (first_or p.space.holes None) (counts_of s)
unfolding counts_of
again_counts d s x at r p values row rep sound was here o i now t short =
    let rows = rows_without at s.rows in
    let others = row_areas rows in
    let holes = s.space.holes in
    let own = r.blocks in
    let new = areas_of p.pieces in
    let left = p.space.holes in
    let q : StoredRow = record { at = at; values = values; blocks = new } in
    let few = state-few d (with_row at values (taken_of p) rows).state sound now in
    let old = state-few d s sound was in
    let grows = i.takes.grows in
    let before = tiled_bytes s.space.end others (own ++ holes) (all-join (λ (a : Area). 0 < a.size) others (own ++ holes) o.row_bytes o.free_bytes) o.tile in
    let after = tiled_bytes p.space.end others (new ++ left) (all-join (λ (a : Area). 0 < a.size) others (new ++ left) o.row_bytes (all-join (λ (a : Area). 0 < a.size) new left i.own_bytes i.hole_bytes)) (i.takes.tile others o.tile) in
    let both = total_both own holes in
    let then = total_both new left in
    let sizes = area_bytes p.pieces in
    let n = put-rows q rows in
    let gone = gone-rows at s.rows r here in
    let a = put-areas q rows in
    let less = gone-areas at s.rows r here in
    let c = area_count p.pieces in
    let bytes : rep.put.bytes ≡ sizes_of p.pieces = omega (arith, t.bytes, after, then, sizes, short) in
    let had : rep.bytes ≡ total_bytes own = omega (arith, t.had_bytes, before, both, grows, short) in
    same-counts _ _ _ _ _ _ _ _ _ _ _ _
    (omega (arith, n, gone))
    (omega (arith, t.holes_are, t.few, old.holes, few.holes, grows, short))
    (a ∙ omega (arith, c, t.blocks, t.had, less, few.areas, old.areas, a, grows, short))
    (omega (arith, before, after, both, then, sizes, bytes, had, grows, short))
    refl
    refl

-- ---- the step

pub other-there : (s : TableState) (at : ℕ) (values : Values) (r : StoredRow) → row_at at s.rows ≡ Some r → lacks_row s (change.update at values) ≡ None
other-there s at values r here = ap (λ (o : Option StoredRow). if_absent at o) here

again_dynamic : (f : RowFormat) (s : Space) (own : List Area) (len : ℕ) → f ≡ Dynamic → take_again f s own len ≡ taken_of (placing.update s own len)
again_dynamic Static s own len e = absurd cc
again_dynamic Dynamic s own len e = refl

updated_state : (d : Defs) (s : TableState) (at : ℕ) (values : Values) (r : StoredRow) → d.format ≡ Dynamic → row_at at s.rows ≡ Some r → accepted d s (change.update at values) ≡ with_row at values (taken_of (placing.update s.space r.blocks (length (spelling d values)))) (rows_without at s.rows)
unfolding accepted
updated_state d s at values r dynamic here =
    ap (λ (o : Option StoredRow). with_values d s at values o) here
    ∙ ap (λ t. with_row at values t (rows_without at s.rows)) (again_dynamic d.format s.space r.blocks (length (spelling d values)) dynamic)

-- what is known of a state and of a row in the place of one that it has
record IsChanged (f : SlotFile) (at : ℕ) (values : Values) (row : List ℕ) (m : Holding) (s : TableState) (r : StoredRow) : Type 0 where
  dyn : IsDynamic f.defs s (bytes_of f.name m)
  standing : IsStanding s (bytes_of f.name m) at r
  some : 0 < length row
  aligned : f.counts.length % 4 ≡ 0
  space : (record { holes = s.space.holes; end = f.counts.length }) ≡ s.space
  placed : IsPlaced f.defs s r.blocks (placing.update s.space r.blocks (length row)) at row
  done : accepted f.defs s (change.update at values) ≡ with_row at values (taken_of (placing.update s.space r.blocks (length row))) (rows_without at s.rows)

changed_of : (f : SlotFile) (at : ℕ) (values : Values) (row : List ℕ) (m : Holding) (s : TableState) (r : StoredRow) → IsSound f.defs → f.defs.format ≡ Dynamic → fits f.defs values ≡ true → row ≡ spelling f.defs values → IsFileOf f s m → row_at at s.rows ≡ Some r → IsChanged f at values row m s r
changed_of f at values row m s r sound dynamic fit packed k here =
    let d = f.defs in
    let x = bytes_of f.name m in
    let dyn = dynamic-of d s x dynamic k.stands in
    let w = standing-of d s x at r sound dynamic dyn here in
    let long = end-of f s m k in
    let even = aligned-end d s dynamic dyn.state in
    let some : 0 < length row = subst (λ (y : List ℕ). 0 < length y) (sym packed) (spelling_some d values sound fit) in
    record {
      dyn = dyn;
      standing = w;
      some = some;
      aligned = omega (arith, long, even);
      space = space_is s f.counts.length long;
      placed = again_placed d s r.blocks row at some even w.free dyn.holes w.place;
      done = updated_state d s at values r dynamic here ∙ ap (λ (y : List ℕ). with_row at values (taken_of (placing.update s.space r.blocks (length y))) (rows_without at s.rows)) (sym packed);
    }

update_steps : (f g : SlotFile) (at : ℕ) (values : Values) (row : List ℕ) (rep : Replaced) (m n : Holding) → IsSound f.defs → f.defs.format ≡ Dynamic → fits f.defs values ≡ true → row ≡ spelling f.defs values → PutsAgain (list_in f) (list_in g) at row m n → TalliesReplaced (list_in f) at (length row) rep m → g ≡ record f { counts = counts_again rep g.counts.length g.counts.dellink f.counts } → is_addressable f.defs g.counts.length ≡ true → StepsRow (change.update at values) at f g m n
update_steps f g at values row rep m n sound dynamic fit packed puts tallies object room s r k here =
    let d = f.defs in
    let x = bytes_of f.name m in
    let e = bytes_of f.name n in
    let len = length row in
    let holes = s.space.holes in
    let rows = rows_without at s.rows in
    let c = change.update at values in
    let h = changed_of f at values row m s r sound dynamic fit packed k here in
    let w = h.standing in
    let has = has-holes f s m dynamic k in
    let p = placing.update s.space r.blocks len in
    let put : PutsRow (list_in g) (r.blocks ++ holes) p row at x e =
    subst (λ (own : List Area). PutsRow (list_in g) (own ++ holes) (placing.update s.space own len) row at x e) w.areas
    (subst (λ (z : Space). PutsRow (list_in g) (areas_in w.blocks ++ holes) (placing.update z (areas_in w.blocks) len) row at x e) h.space (puts _ w.blocks holes h.aligned has w.stands w.listed)) in
    let tally : CountsReplaced r.blocks holes p rep =
    subst (λ (own : List Area). CountsReplaced own holes (placing.update s.space own len) rep) w.areas
    (subst (λ (z : Space). CountsReplaced (areas_in w.blocks) holes (placing.update z (areas_in w.blocks) len) rep) h.space (tallies _ w.blocks holes h.aligned has w.stands w.listed)) in
    let q = with_row at values (taken_of p) rows in
    let state : IsState d q.state = subst (λ (t : Changed). IsState d t.state) h.done (accepted-kept d s c sound fit h.dyn.state) in
    let others = others_of d s x at r sound h.dyn here in
    let stands = put-over d s rows r.blocks x e (list_in g) p at values row sound dynamic fit packed others h.placed state put in
    let end : g.counts.length ≡ p.space.end = put.end_is in
    let short : p.space.end ≤ 2 ^ 40 = omega (arith, below-reached d g.counts.length dynamic room, end) in
    let counts = again_counts d s x at r p values row rep sound h.dyn.state here others h.placed state tally short in
    let numbers : g.counts ≡ counts_of q.state =
    ap (λ (z : SlotFile). z.counts) object
    ∙ ap (λ (y : ℕ). counts_again rep y g.counts.dellink f.counts) end
    ∙ ap (λ (o : Option ℕ). counts_again rep p.space.end o f.counts) put.holes_are.head
    ∙ ap (λ (y : Counts). counts_again rep p.space.end (first_or p.space.holes None) y) k.counts
    ∙ sym counts in
    stepped f g c s q at n (step-done d s c g.counts.length (other-there s at values r here) (ap (λ (t : Changed). t.state.space.end) h.done ∙ sym end) room ∙ ap (λ (t : Changed). record { reply = Ok t.at; state = t.state }) h.done) refl
    (ap (λ (z : SlotFile). z.name) object) (ap (λ (z : SlotFile). z.defs) object) numbers stands

pub update-ok : (f g : SlotFile) (at : ℕ) (values : Values) (row : List ℕ) (rep : Replaced) (old new : Option Holding) → IsSound f.defs → f.defs.format ≡ Dynamic → fits f.defs values ≡ true → row ≡ spelling f.defs values → Told old new (PutsAgain (list_in f) (list_in g) at row) → IfTold old (TalliesReplaced (list_in f) at (length row) rep) → g ≡ record f { counts = counts_again rep g.counts.length g.counts.dellink f.counts } → is_addressable f.defs g.counts.length ≡ true → Told old new (StepsRow (change.update at values) at f g)
update-ok f g at values row rep old new sound dynamic fit packed puts tallies object room =
    told_more old new (PutsAgain (list_in f) (list_in g) at row) (StepsRow (change.update at values) at f g) puts
    (λ m n held w. update_steps f g at values row rep m n sound dynamic fit packed w (tallies m held) object room)

-- ---- what is refused

update_full : (f : SlotFile) (at : ℕ) (values : Values) (row : List ℕ) (m : Holding) → IsSound f.defs → f.defs.format ≡ Dynamic → fits f.defs values ≡ true → row ≡ spelling f.defs values → is_addressable f.defs f.counts.length ≡ false → (s : TableState) (r : StoredRow) → IsFileOf f s m → row_at at s.rows ≡ Some r → (step f.defs s (change.update at values)).reply ≡ Err full
update_full f at values row m sound dynamic fit packed past s r k here =
    let d = f.defs in
    let h = changed_of f at values row m s r sound dynamic fit packed k here in
    let end = (placing.update s.space r.blocks (length row)).space.end in
    step-full d s (change.update at values) end (other-there s at values r here) (ap (λ (t : Changed). t.state.space.end) h.done)
    (never-reached d f.counts.length end dynamic past (omega (arith, end-of f s m k, h.placed.takes.grows)))

update_long : (f : SlotFile) (at : ℕ) (values : Values) (row : List ℕ) (m : Holding) → IsSound f.defs → f.defs.format ≡ Dynamic → fits f.defs values ≡ true → row ≡ spelling f.defs values → LacksOtherRoom f at (length row) m → (s : TableState) (r : StoredRow) → IsFileOf f s m → row_at at s.rows ≡ Some r → (step f.defs s (change.update at values)).reply ≡ Err full
update_long f at values row m sound dynamic fit packed lacks s r k here =
    let d = f.defs in
    let len = length row in
    let h = changed_of f at values row m s r sound dynamic fit packed k here in
    let w = h.standing in
    let end = (placing.update s.space r.blocks len).space.end in
    let long : length (bytes_of f.name m) ≡ f.counts.length = h.dyn.long ∙ sym (end-of f s m k) in
    let far = rewrite-long (list_in f) at len m _ w.blocks s.space.holes h.some long (has-holes f s m dynamic k) w.stands lacks in
    let le : most_end (list_in f) ≤ end =
    subst (λ (own : List Area). most_end (list_in f) ≤ (placing.update s.space own len).space.end) w.areas
    (subst (λ (z : Space). most_end (list_in f) ≤ (placing.update z (areas_in w.blocks) len).space.end) h.space far) in
    step-full d s (change.update at values) end (other-there s at values r here) (ap (λ (t : Changed). t.state.space.end) h.done) (not-reached d end dynamic (omega (arith, le)))

never_damaged : (f : SlotFile) (at : ℕ) (values : Values) (row : List ℕ) (p : ℕ) (m : Holding) → IsSound f.defs → f.defs.format ≡ Dynamic → fits f.defs values ≡ true → row ≡ spelling f.defs values → FindsOtherBad f at (length row) p m → (s : TableState) (r : StoredRow) → IsFileOf f s m → row_at at s.rows ≡ Some r → ⊥
never_damaged f at values row p m sound dynamic fit packed bad s r k here =
    let h = changed_of f at values row m s r sound dynamic fit packed k here in
    let w = h.standing in
    let long : length (bytes_of f.name m) ≡ f.counts.length = h.dyn.long ∙ sym (end-of f s m k) in
    rewrite-sound (list_in f) at (length row) p m _ w.blocks s.space.holes h.some long (has-holes f s m dynamic k) w.stands w.listed bad

pub update-refused : (f : SlotFile) (at : ℕ) (values : Values) (row : List ℕ) (old : Option Holding) (e : DataFault) → IsSound f.defs → f.defs.format ≡ Dynamic → fits f.defs values ≡ true → row ≡ spelling f.defs values → ByCause Never ((is_addressable f.defs f.counts.length ≡ false) ⊎ IfTold old (LacksOtherRoom f at (length row))) (λ p. IfTold old (FindsOtherBad f at (length row) p)) e → IfTold old (RefusesRow (change.update at values) at f e)
update-refused f at values row old (fault.NoRow p) sound dynamic fit packed cause = absurd cause
update-refused f at values row old fault.Full sound dynamic fit packed (inl past) = λ m held s r k here. update_full f at values row m sound dynamic fit packed past s r k here
update-refused f at values row old fault.Full sound dynamic fit packed (inr lacks) = λ m held s r k here. update_long f at values row m sound dynamic fit packed (lacks m held) s r k here
update-refused f at values row old (fault.Damaged p) sound dynamic fit packed cause = λ m held s r k here. absurd (never_damaged f at values row p m sound dynamic fit packed (cause m held) s r k here)
update-refused f at values row old fault.File sound dynamic fit packed cause = λ m held s r k here. tt
update-refused f at values row old fault.Memory sound dynamic fit packed cause = λ m held s r k here. tt

-- ---- as the deleted list tells it

pub again-told : (old new : Option Holding) (l k lf kf : ListState) (at : ℕ) (row : List ℕ) → l ≡ lf → k ≡ kf → Told old new (PutsAgain l k at row) → Told old new (PutsAgain lf kf at row)
again-told old new l k lf kf at row same then t = subst (λ (x : ListState). Told old new (PutsAgain lf x at row)) then (subst (λ (x : ListState). Told old new (PutsAgain x k at row)) same t)

pub again-tallied : (old : Option Holding) (l lf : ListState) (at len : ℕ) (rep : Replaced) → l ≡ lf → IfTold old (TalliesReplaced l at len rep) → IfTold old (TalliesReplaced lf at len rep)
again-tallied old l lf at len rep same t = subst (λ (x : ListState). IfTold old (TalliesReplaced x at len rep)) same t

pub again-refused : (f : SlotFile) (l : ListState) (at len : ℕ) (old : Option Holding) (e : FreeFault) → l ≡ list_in f → IfTold old (list.IsLong l) → IfDamaged e (λ p. IfTold old (RewriteFindsBad l at len p)) → IfFull e (IfTold old (RewriteIsLong l at len)) → ByCause Never ((is_addressable f.defs f.counts.length ≡ false) ⊎ IfTold old (LacksOtherRoom f at len)) (λ p. IfTold old (FindsOtherBad f at len p)) (data_fault e)
again-refused f l at len old free.Full same long bad far = inr (λ m held. subst (λ (x : ListState). OwnLong x at len m) same (far m held (long m held)))
again-refused f l at len old (free.Damaged p) same long bad far = λ m held. subst (λ (x : ListState). RewriteFindsBad x at len p m) same (bad m held)
again-refused f l at len old free.File same long bad far = tt
again-refused f l at len old free.Memory same long bad far = tt
