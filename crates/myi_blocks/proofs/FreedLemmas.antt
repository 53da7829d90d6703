-- A row whose blocks were released leaves a file that stands for the state without it.
use Rattle.std.proofs.Common.{◌≡◌, ◌∙◌, ℕ, ◌<◌, Bool, true, false, cond, List, [], ◌∷◌, ◌++◌, length, Option, Some, refl, sym, ap, subst, arith}
use Rattle.std.specs.Prelude.{◌==◌}
use Rattle.std.specs.List.{AllByRecursion}
use Rattle.myi_defs.specs.declared.types.RowFormat.{RowFormat}
use Rattle.myi_defs.specs.declared.types.RowFormat.TheVariants.{Dynamic}
use Rattle.myi_defs.specs.declared.types.Defs.{Defs}
use Rattle.myi_defs.specs.Sound.{IsSound}
use Rattle.myi_dellist.specs.Areas.{Area}
use Rattle.myi_dellist.specs.Releasing.{release_all}
use Rattle.myi_dellist.specs.Standing.{HasList}
use Rattle.myi_dellist.specs.Rows.{KeepsApart}
use Rattle.myi_state.specs.State.{StoredRow, TableState, row_areas, row_at, rows_without, give_back}
use Rattle.myi_state.specs.Changes.{delete, accepted, without_row}
use Rattle.myi_state.specs.Numbers.{counts_of}
use Rattle.myi_state.specs.Sound.{IsState}
use Rattle.myi_state.specs.Standing.{StandsInBlocks, StandsFor}
use Rattle.myi_state.proofs.CallerLemmas.{accepted-kept, others-tile, state-bytes, without-all, same-counts, gone-rows, gone-areas}
use Rattle.myi_blocks.proofs.StandLemmas.{all-split, all-join, dynamic-of, stands-by}
use Rattle.myi_blocks.specs.BlockFile.{freed_counts}
use Rattle.myi_blocks.proofs.PutLemmas.{rows-stay, far-across}
use Rattle.myi_blocks.proofs.CountLemmas.{tiled_bytes, total_both}

-- what holds of the areas of all rows holds of those of one, and of the others
pub row_parts : (P : Area → Type 0) (at : ℕ) (rows : List StoredRow) (r : StoredRow) → row_at at rows ≡ Some r → AllByRecursion P (row_areas rows) → AllByRecursion P r.blocks × AllByRecursion P (row_areas (rows_without at rows))
row_parts P at [] r e all = absurd cc
row_parts P at (q ∷ qs) r e all = by_test (q.at == at) e (row_parts P at qs r) (all-split P q.blocks (row_areas qs) all)
  where
    by_test : (b : Bool) → cond b (Some q) (row_at at qs) ≡ Some r → (row_at at qs ≡ Some r → AllByRecursion P (row_areas qs) → AllByRecursion P r.blocks × AllByRecursion P (row_areas (rows_without at qs))) → AllByRecursion P q.blocks × AllByRecursion P (row_areas qs) → AllByRecursion P r.blocks × AllByRecursion P (row_areas (cond b qs (q ∷ rows_without at qs)))
    by_test true f ih both = let same : q ≡ r = cc in (subst (λ (z : StoredRow). AllByRecursion P z.blocks) same both.0, both.1)
    by_test false f ih both = let t = ih f both.1 in (t.0, all-join P q.blocks (row_areas (rows_without at qs)) both.0 t.1)

abbrev pub behind_delete : TableState → ℕ → StoredRow → TableState
behind_delete s at r = record { rows = rows_without at s.rows; space = record { holes = release_all r.blocks s.space.holes; end = s.space.end } }

pub deleted_state : (d : Defs) (s : TableState) (at : ℕ) (r : StoredRow) → d.format ≡ Dynamic → row_at at s.rows ≡ Some r → (accepted d s (delete at)).state ≡ behind_delete s at r
unfolding accepted
deleted_state d s at r dynamic here =
    ap (λ (o : Option StoredRow). (without_row d s at o).state) here
    ∙ ap (λ (f : RowFormat). record { rows = rows_without at s.rows; space = give_back f s.space r.blocks }) dynamic

pub released-stands : (d : Defs) (s : TableState) (x e : List ℕ) (at : ℕ) (r : StoredRow) → IsSound d → d.format ≡ Dynamic → StandsFor d s x → row_at at s.rows ≡ Some r → HasList e (release_all r.blocks s.space.holes) → KeepsApart (r.blocks ++ s.space.holes) x e → length e ≡ length x → StandsFor d (accepted d s (delete at)).state e
released-stands d s x e at r sound dynamic k here list keeps long =
    let q = dynamic-of d s x dynamic k in
    let others = row_areas (rows_without at s.rows) in
    let own = r.blocks in
    let holes = s.space.holes in
    let bytes = all-split (λ (a : Area). 0 < a.size) (row_areas s.rows) holes (state-bytes d s sound q.state) in
    let parts = row_parts (λ (a : Area). 0 < a.size) at s.rows r here bytes.0 in
    let freed = all-join (λ (a : Area). 0 < a.size) own holes parts.0 bytes.1 in
    let far = far-across s.space.end others (own ++ holes) parts.1 freed (others-tile s.space.end at s.rows holes r here q.state.tile) in
    let stand = rows-stay d (own ++ holes) x e (rows_without at s.rows) keeps far (without-all (StandsInBlocks d x) at s.rows q.stand) in
    let same = deleted_state d s at r dynamic here in
    let state = subst (IsState d) same (accepted-kept d s (delete at) sound tt q.state) in
    subst (λ (t : TableState). StandsFor d t e) (sym same) (stands-by d (behind_delete s at r) e dynamic state (long ∙ q.long) stand list)

-- the numbers of the state without the row
pub released-counts : (d : Defs) (s : TableState) (at : ℕ) (r : StoredRow) → IsSound d → d.format ≡ Dynamic → IsState d s → row_at at s.rows ≡ Some r → counts_of (accepted d s (delete at)).state ≡ freed_counts r.blocks (release_all r.blocks s.space.holes) (counts_of s)
unfolding counts_of
released-counts d s at r sound dynamic i here =
    let all = row_areas s.rows in
    let others = row_areas (rows_without at s.rows) in
    let own = r.blocks in
    let holes = s.space.holes in
    let left = release_all own holes in
    let end = s.space.end in
    let same = deleted_state d s at r dynamic here in
    let then : IsState d (behind_delete s at r) = subst (IsState d) same (accepted-kept d s (delete at) sound tt i) in
    let bytes = all-split (λ (a : Area). 0 < a.size) all holes (state-bytes d s sound i) in
    let parts = row_parts (λ (a : Area). 0 < a.size) at s.rows r here bytes.0 in
    let freed = all-join (λ (a : Area). 0 < a.size) own holes parts.0 bytes.1 in
    let before = tiled_bytes end others (own ++ holes) (all-join (λ (a : Area). 0 < a.size) others (own ++ holes) parts.1 freed) (others-tile end at s.rows holes r here i.tile) in
    let after = tiled_bytes end others left (state-bytes d (behind_delete s at r) sound then) then.tile in
    ap counts_of same
    ∙ same-counts _ _ _ _ _ _ _ _ _ _ _ _
    (omega (arith, gone-rows at s.rows r here))
    refl
    (omega (arith, gone-areas at s.rows r here))
    (omega (arith, before, after, total_both own holes))
    refl
    refl
