-- The numbers of a state of a static table behind each change.
use Rattle.std.proofs.Common.{◌≡◌, ℕ, ◌+◌, ◌^◌, ◌≤◌, List, ◌∷◌, length, Option, Some, None, sym, ap, ◌∙◌, arith}
use Rattle.std.proofs.lemmas.List.Sums.{sum_by-cons}
use Rattle.myi_dellist.specs.Areas.{Area}
use Rattle.myi_dellist.specs.Standing.{first_or}
use Rattle.myi_state.specs.State.{StoredRow, TableState, row_areas, put_row, row_at, rows_without}
use Rattle.myi_state.specs.Numbers.{total_bytes, counts_of}
use Rattle.myi_state.proofs.CallerLemmas.{AreFew, same-counts, put-rows, put-areas, gone-rows, gone-areas}
use Rattle.myi_slots.specs.SlotFile.{risen, appended_counts, filled_counts, freed_counts}

risen_is : (n k : ℕ) → n + k ≤ 2 ^ 40 → risen n k ≡ n + k
risen_is n k le = omega (arith, le)

-- ---- behind a change

pub row-appended : (s t : TableState) (r : StoredRow) (size : ℕ) → AreFew t → t.space.end ≤ 2 ^ 40 → t.rows ≡ put_row r s.rows → length r.blocks ≡ 1 → t.space.holes ≡ s.space.holes → t.space.end ≡ s.space.end + size → counts_of t ≡ appended_counts (s.space.end + size) (counts_of s)
unfolding counts_of
row-appended s t r size few short rows one holes end =
    let n : length t.rows ≡ length s.rows + 1 = ap (λ (q : List StoredRow). length q) rows ∙ put-rows r s.rows in
    let a : length (row_areas t.rows) ≡ length (row_areas s.rows) + 1 = ap (λ (q : List StoredRow). length (row_areas q)) rows ∙ omega (arith, put-areas r s.rows, one) in
    same-counts _ _ _ _ _ _ _ _ _ _ _ _
    (n ∙ sym (risen_is (length s.rows) 1 (omega (arith, few.rows, short, n))))
    (ap (λ (q : List Area). length q) holes)
    (a ∙ sym (risen_is (length (row_areas s.rows)) 1 (omega (arith, few.areas, short, a))))
    (ap (λ (q : List Area). total_bytes q) holes)
    end
    (ap (λ (q : List Area). first_or q None) holes)

pub row-filled : (s t : TableState) (r : StoredRow) (h : Area) (size : ℕ) (next : Option ℕ) → AreFew t → t.space.end ≤ 2 ^ 40 → t.rows ≡ put_row r s.rows → length r.blocks ≡ 1 → s.space.holes ≡ h ∷ t.space.holes → h.size ≡ size → first_or t.space.holes None ≡ next → t.space.end ≡ s.space.end → counts_of t ≡ filled_counts size next (counts_of s)
unfolding counts_of
row-filled s t r h size next few short rows one holes sized first end =
    let n : length t.rows ≡ length s.rows + 1 = ap (λ (q : List StoredRow). length q) rows ∙ put-rows r s.rows in
    let a : length (row_areas t.rows) ≡ length (row_areas s.rows) + 1 = ap (λ (q : List StoredRow). length (row_areas q)) rows ∙ omega (arith, put-areas r s.rows, one) in
    let l : length s.space.holes ≡ length t.space.holes + 1 = ap (λ (q : List Area). length q) holes ∙ omega arith in
    let b : total_bytes s.space.holes ≡ h.size + total_bytes t.space.holes = ap (λ (q : List Area). total_bytes q) holes ∙ sum_by-cons (λ (x : Area). x.size) h t.space.holes in
    same-counts _ _ _ _ _ _ _ _ _ _ _ _
    (n ∙ sym (risen_is (length s.rows) 1 (omega (arith, few.rows, short, n))))
    (omega (arith, l))
    (a ∙ sym (risen_is (length (row_areas s.rows)) 1 (omega (arith, few.areas, short, a))))
    (omega (arith, b, sized))
    end
    first

pub row-freed : (s t : TableState) (r : StoredRow) (a : Area) (at size : ℕ) → AreFew t → t.space.end ≤ 2 ^ 40 → row_at at s.rows ≡ Some r → t.rows ≡ rows_without at s.rows → length r.blocks ≡ 1 → t.space.holes ≡ a ∷ s.space.holes → a.at ≡ at → a.size ≡ size → t.space.end ≡ s.space.end → counts_of t ≡ freed_counts size at (counts_of s)
unfolding counts_of
row-freed s t r a at size few short e rows one holes there sized end =
    let n : length s.rows ≡ length t.rows + 1 = gone-rows at s.rows r e ∙ ap (λ (q : List StoredRow). length q + 1) (sym rows) in
    let m : length (row_areas s.rows) ≡ length r.blocks + length (row_areas t.rows) = gone-areas at s.rows r e ∙ ap (λ (q : List StoredRow). length r.blocks + length (row_areas q)) (sym rows) in
    let l : length t.space.holes ≡ length s.space.holes + 1 = ap (λ (q : List Area). length q) holes ∙ omega arith in
    let b : total_bytes t.space.holes ≡ total_bytes s.space.holes + size = ap (λ (q : List Area). total_bytes q) holes ∙ sum_by-cons (λ (x : Area). x.size) a s.space.holes ∙ omega (arith, sized) in
    same-counts _ _ _ _ _ _ _ _ _ _ _ _
    (omega (arith, n))
    (l ∙ sym (risen_is (length s.space.holes) 1 (omega (arith, few.holes, short, l))))
    (omega (arith, m, one))
    (b ∙ sym (risen_is (total_bytes s.space.holes) size (omega (arith, few.bytes, short, b))))
    end
    (ap (λ (q : List Area). first_or q None) holes ∙ ap (λ (p : ℕ). Some p) there)
