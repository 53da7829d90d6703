-- Rows that were put behind the end of a table, one more at a time.
use Rattle.std.proofs.Common.{◌≡◌, ℕ, ◌+◌, Bool, true, false, cond, List, [], ◌∷◌, ◌++◌, length, Option, Some, None, refl, sym, ap, ◌∙◌, arith, append_assoc}
use Rattle.std.specs.Prelude.{sum_by}
use Rattle.std.specs.List.{flat_map}
use Rattle.std.proofs.lemmas.List.{append-nil, map-append}
use Rattle.std.proofs.lemmas.List.Concat.{flat_map-append}
use Rattle.std.proofs.lemmas.List.Sums.{sum_by-cons, sum_by_push}
use Rattle.myi_base.specs.Numbers.{AreBytes}
use Rattle.myi_defs.specs.declared.types.RowFormat.{RowFormat}
use Rattle.myi_defs.specs.declared.types.RowFormat.TheVariants.{Static, Dynamic}
use Rattle.myi_defs.specs.declared.types.Defs.{Defs}
use Rattle.myi_defs.specs.Sound.{IsSound}
use Rattle.myi_pack.specs.Packed.{Values}
use Rattle.myi_pack.specs.Spelling.{spelling, fits}
use Rattle.myi_dellist.specs.Areas.{Area}
use Rattle.myi_dellist.specs.Placing.{Space}
use Rattle.myi_state.specs.State.{StoredRow, TableState, take_behind}
use Rattle.myi_state.specs.Changes.{insert_at_end, accepted, behind_taken}
use Rattle.myi_state.specs.Sound.{IsState}
use Rattle.myi_state.proofs.CallerLemmas.{accepted-kept}
use Rattle.myi_tablestate.specs.Keyed.{holder}
use Rattle.myi_pair.specs.FirstRows.{repeats_key}
use Rattle.myi_tail.specs.Rows.{row_words}
use Rattle.myi_snapshots.specs.Appended.{with_rows, AllFit, AllAreBytes}
use Rattle.myi_snapshots.specs.Known.{packed_rows, words_of_rows, size_of, end_with}
use Rattle.myi_snapshots.proofs.CallerLemmas.{last, ends}
use Rattle.myi_inserter.specs.Put.{ends_at, stored_at, stored_behind}

-- ---- where they stand

pub end_one : (d : Defs) (s : TableState) (row : Values) → (with_rows d s (row ∷ [])).space.end ≡ s.space.end + size_of d (spelling d row)
end_one d s row =
    let sum : sum_by (size_of d) (spelling d row ∷ []) ≡ size_of d (spelling d row) + 0 = sum_by-cons (size_of d) (spelling d row) [] in
    let one : s.space.end + sum_by (size_of d) (spelling d row ∷ []) ≡ s.space.end + size_of d (spelling d row) = omega (arith, sum) in
    ends d s (row ∷ []) ∙ one

blocks_by : (format : RowFormat) (size len : ℕ) (s : Space) → (take_behind format size s len).blocks ≡ (take_behind format size (ends_at s.end) len).blocks
blocks_by Static size len s = refl
blocks_by Dynamic size len s = refl

pub stored : (d : Defs) (s : TableState) (rows : List Values) → IsSound d → IsState d s → AllFit d rows → (with_rows d s rows).rows ≡ s.rows ++ stored_behind d s.space.end rows
stored d s [] sound i fit = sym (append-nil s.rows)
stored d s (x ∷ xs) sound i fit =
    let next : TableState = (accepted d s (insert_at_end x)).state in
    let r : StoredRow = record { at = s.space.end; values = x; blocks = (behind_taken d s.space x).blocks } in
    let blocks : (behind_taken d s.space x).blocks ≡ (behind_taken d (ends_at s.space.end) x).blocks = blocks_by d.format d.slot_length (length (spelling d x)) s.space in
    stored d next xs sound (accepted-kept d s (insert_at_end x) sound fit.0 i) fit.1
    ∙ ap (λ (l : List StoredRow). l ++ stored_behind d next.space.end xs) (last d s x sound i)
    ∙ append_assoc s.rows (r ∷ []) (stored_behind d next.space.end xs)
    ∙ ap (λ (n : ℕ). s.rows ++ r ∷ stored_behind d n xs) (end_one d s x)
    ∙ ap (λ (b : List Area). s.rows ++ record { at = s.space.end; values = x; blocks = b } ∷ stored_behind d (s.space.end + size_of d (spelling d x)) xs) blocks

-- ---- one more

pub end_more : (d : Defs) (end : ℕ) (rows : List Values) (row : Values) → end_with d end (packed_rows d (rows ++ row ∷ [])) ≡ end_with d end (packed_rows d rows) + size_of d (spelling d row)
end_more d end rows row =
    let sum : sum_by (size_of d) (packed_rows d (rows ++ row ∷ [])) ≡ sum_by (size_of d) (packed_rows d rows) + size_of d (spelling d row) =
    ap (sum_by (size_of d)) (map-append (spelling d) rows (row ∷ [])) ∙ sum_by_push (size_of d) (packed_rows d rows) (spelling d row) in
    let all : end + sum_by (size_of d) (packed_rows d (rows ++ row ∷ [])) ≡ (end + sum_by (size_of d) (packed_rows d rows)) + size_of d (spelling d row) = omega (arith, sum) in
    all

end_cons : (d : Defs) (end : ℕ) (x : Values) (xs : List Values) → end_with d (end + size_of d (spelling d x)) (packed_rows d xs) ≡ end_with d end (packed_rows d (x ∷ xs))
end_cons d end x xs =
    let sum : sum_by (size_of d) (packed_rows d (x ∷ xs)) ≡ size_of d (spelling d x) + sum_by (size_of d) (packed_rows d xs) = sum_by-cons (size_of d) (spelling d x) (packed_rows d xs) in
    let all : (end + size_of d (spelling d x)) + sum_by (size_of d) (packed_rows d xs) ≡ end + sum_by (size_of d) (packed_rows d (x ∷ xs)) = omega (arith, sum) in
    all

pub stored_more : (d : Defs) (end : ℕ) (rows : List Values) (row : Values) → stored_behind d end (rows ++ row ∷ []) ≡ stored_behind d end rows ++ stored_at d (end_with d end (packed_rows d rows)) row ∷ []
stored_more d end [] row = let none : end ≡ end + 0 = omega arith in ap (λ (n : ℕ). stored_at d n row ∷ []) none
stored_more d end (x ∷ xs) row =
    ap (λ (l : List StoredRow). stored_at d end x ∷ l)
    (stored_more d (end + size_of d (spelling d x)) xs row ∙ ap (λ (n : ℕ). stored_behind d (end + size_of d (spelling d x)) xs ++ stored_at d n row ∷ []) (end_cons d end x xs))

pub words_more : (d : Defs) (rows : List Values) (row : Values) → words_of_rows d (rows ++ row ∷ []) ≡ words_of_rows d rows ++ row_words (spelling d row)
words_more d rows row =
    ap (flat_map row_words) (map-append (spelling d) rows (row ∷ [])) ∙ flat_map-append row_words (packed_rows d rows) (spelling d row ∷ [])
    ∙ ap (λ (l : List ℕ). words_of_rows d rows ++ l) (append-nil (row_words (spelling d row)))

pub fit_more : (d : Defs) (rows : List Values) (row : Values) → AllFit d rows → fits d row ≡ true → AllFit d (rows ++ row ∷ [])
fit_more d [] row all one = (one, tt)
fit_more d (x ∷ xs) row all one = (all.0, fit_more d xs row all.1 one)

pub bytes_more : (d : Defs) (rows : List Values) (row : Values) → AllAreBytes d rows → AreBytes (spelling d row) → AllAreBytes d (rows ++ row ∷ [])
bytes_more d [] row all one = (one, tt)
bytes_more d (x ∷ xs) row all one = (all.0, bytes_more d xs row all.1 one)

-- ---- which of them has a key

-- the first of two that is there
abbrev pub or_else : Option ℕ → Option ℕ → Option ℕ
or_else None other = other
or_else (Some at) other = Some at

pub holder_both : (d : Defs) (values : Values) (k : ℕ) (xs ys : List StoredRow) → holder d values k (xs ++ ys) ≡ or_else (holder d values k xs) (holder d values k ys)
holder_both d values k [] ys = refl
holder_both d values k (x ∷ xs) ys = by (repeats_key d values x.values k) (holder_both d values k xs ys)
  where
    by : (b : Bool) → holder d values k (xs ++ ys) ≡ or_else (holder d values k xs) (holder d values k ys) → cond b (Some x.at) (holder d values k (xs ++ ys)) ≡ or_else (cond b (Some x.at) (holder d values k xs)) (holder d values k ys)
    by true more = refl
    by false more = more
