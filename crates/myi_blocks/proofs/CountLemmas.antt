-- The numbers of a state behind a row that was put.
use Rattle.std.proofs.Common.{◌≡◌, ℕ, ◌+◌, ◌-◌, ◌^◌, ◌<◌, ◌≤◌, List, [], ◌∷◌, ◌++◌, length, None, refl, sym, ap, ◌∙◌, arith}
use Rattle.std.specs.Prelude.{min}
use Rattle.std.proofs.lemmas.List.Sums.{sum_by-cons}
use Rattle.myi_defs.specs.declared.types.RowFormat.TheVariants.{Dynamic}
use Rattle.myi_defs.specs.declared.types.Defs.{Defs}
use Rattle.myi_defs.specs.Sound.{IsSound}
use Rattle.myi_pack.specs.Packed.{Values}
use Rattle.myi_dellist.specs.declared.pieces.Piece.{Piece}
use Rattle.myi_dellist.specs.declared.rows.Put.{Put}
use Rattle.myi_dellist.specs.Areas.{Area, Tile, HaveBytes}
use Rattle.myi_dellist.specs.Placing.{Placing, areas_of, sizes_of}
use Rattle.myi_dellist.specs.Standing.{first_or}
use Rattle.myi_dellist.specs.Rows.{Tallies}
use Rattle.myi_dellist.proofs.CallerLemmas.{tile-inside}
use Rattle.myi_state.specs.State.{StoredRow, TableState, row_areas, taken_of}
use Rattle.myi_state.specs.Changes.{with_row}
use Rattle.myi_state.specs.Sound.{IsState}
use Rattle.myi_state.specs.Numbers.{total_bytes, counts_of}
use Rattle.myi_state.proofs.CallerLemmas.{below-both, state-bytes, same-counts, put-rows, put-areas, bytes-inside, halves-of, state-few}
use Rattle.myi_slots.specs.SlotFile.{risen}
use Rattle.myi_blocks.specs.BlockFile.{counts_with}
use Rattle.myi_blocks.proofs.StandLemmas.{all-join}
use Rattle.myi_blocks.proofs.PutLemmas.{IsPlaced}

pub area_count : (ps : List Piece) → length (areas_of ps) ≡ length ps
area_count [] = refl
area_count (p ∷ ps) = omega (arith, area_count ps)

pub area_bytes : (ps : List Piece) → total_bytes (areas_of ps) ≡ sizes_of ps
area_bytes [] = refl
area_bytes (p ∷ ps) = sum_by-cons (λ (a : Area). a.size) (record { at = p.at; size = p.size }) (areas_of ps) ∙ ap (λ (n : ℕ). p.size + n) (area_bytes ps)

-- areas that tile a file have all its bytes
pub tiled_bytes : (end : ℕ) (xs ys : List Area) → HaveBytes (xs ++ ys) → Tile end (xs ++ ys) → total_bytes xs + total_bytes ys ≡ end
tiled_bytes end xs ys some tile =
    let h = halves-of end xs ys some (tile-inside end (xs ++ ys) some tile) in
    omega (arith, tile end, below-both end xs ys, bytes-inside end xs h.0.1, bytes-inside end ys h.1.1)

pub total_both : (xs ys : List Area) → total_bytes (xs ++ ys) ≡ total_bytes xs + total_bytes ys
total_both [] ys = omega arith
total_both (x ∷ xs) ys = omega (arith, sum_by-cons (λ (a : Area). a.size) x (xs ++ ys), sum_by-cons (λ (a : Area). a.size) x xs, total_both xs ys)

risen_is : (n k : ℕ) → n + k ≤ 2 ^ 41 → risen n k ≡ n + k
risen_is n k le = omega (arith, le)

min_is : (n : ℕ) → n ≤ 2 ^ 41 → min n (2 ^ 64 - 1) ≡ n
min_is n le = omega (arith, le)

pub put-counts : (d : Defs) (s : TableState) (p : Placing) (at : ℕ) (values : Values) (row : List ℕ) (put : Put) → IsSound d → d.format ≡ Dynamic → IsState d s → IsPlaced d s [] p at row → IsState d (with_row at values (taken_of p) s.rows).state → Tallies s.space.holes p put → p.space.end ≤ 2 ^ 40 → counts_of (with_row at values (taken_of p) s.rows).state ≡ counts_with put p.space.end (first_or p.space.holes None) (counts_of s)
unfolding counts_of
put-counts d s p at values row put sound dynamic was i now t short =
    let others = row_areas s.rows in
    let holes = s.space.holes in
    let own = areas_of p.pieces in
    let left = p.space.holes in
    let r : StoredRow = record { at = at; values = values; blocks = own } in
    let few = state-few d (with_row at values (taken_of p) s.rows).state sound now in
    let old = state-few d s sound was in
    let grows = i.takes.grows in
    let some = halves-of s.space.end others holes (state-bytes d s sound was) (tile-inside s.space.end (others ++ holes) (state-bytes d s sound was) was.tile) in
    let before = tiled_bytes s.space.end others holes (state-bytes d s sound was) was.tile in
    let after = tiled_bytes p.space.end others (own ++ left) (all-join (λ (a : Area). 0 < a.size) others (own ++ left) some.0.0 (all-join (λ (a : Area). 0 < a.size) own left i.own_bytes i.hole_bytes)) (i.takes.tile others was.tile) in
    let both = total_both own left in
    let sizes = area_bytes p.pieces in
    let n = put-rows r s.rows in
    let a = put-areas r s.rows in
    let c = area_count p.pieces in
    let bytes : put.bytes ≡ sizes_of p.pieces = t.bytes ∙ min_is (sizes_of p.pieces) (omega (arith, after, both, sizes, short)) in
    same-counts _ _ _ _ _ _ _ _ _ _ _ _
    (n ∙ sym (risen_is (length s.rows) 1 (omega (arith, few.rows, short, n))))
    (omega (arith, t.holes_are, t.few, old.holes, grows, short))
    (a ∙ omega (arith, c, t.blocks, few.areas, a, short))
    (omega (arith, before, after, both, sizes, bytes, grows, short, old.bytes))
    refl
    refl
