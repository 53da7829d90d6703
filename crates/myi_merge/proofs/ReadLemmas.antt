-- What was read of one table of a list: the rows that were answered, and the next one.
use Rattle.std.proofs.Common.{◌≡◌, ℕ, suc, true, Option, Some, None, List, [], ◌∷◌, ◌++◌, map, refl, sym, ap, subst, ◌∙◌, append_assoc}
use Rattle.std.specs.List.{AllByRecursion}
use Rattle.std.proofs.lemmas.List.{append-nil, map-append}
use Rattle.myi_base.specs.Holding.{Holding}
use Rattle.myi_defs.specs.declared.types.Defs.{Defs}
use Rattle.myi_defs.specs.Sound.{IsSound}
use Rattle.myi_keylist.specs.declared.pair.Pair.{Pair}
use Rattle.myi_data.specs.Keys.{key_of}
use Rattle.myi_state.specs.State.{StoredRow, TableState, row_at}
use Rattle.myi_state.specs.Sound.{IsRow}
use Rattle.myi_state.proofs.CallerLemmas.{found-is}
use Rattle.myi_tablestate.specs.Keyed.{IsTable}
use Rattle.myi_tablestate.specs.Listed.{pair_of_row}
use Rattle.myi_tablestate.specs.Matching.{Bounds, AreMatching}
use Rattle.myi_ranges.specs.declared.ranges.RangeRows.{RangeRows}
use Rattle.myi_pack.specs.Packed.{Values}
use Rattle.myi_pack.specs.Spelling.{fits}
use Rattle.myi_ranges.specs.Ranges.{begin_at, coming, Answers}
use Rattle.myi_table.specs.declared.ranges.Range.{Range}
use Rattle.myi_table.specs.Reading.{IsSameReading, begun, bounds_of}
use Rattle.myi_merge.specs.declared.ranges.Head.{Head}
use Rattle.myi_merge.specs.declared.ranges.Reading.{Reading}
use Rattle.myi_merge.specs.Merging.{IsNextOf, IsThere, Stands, GoesOn, Reads}

same_key : (b r : RangeRows) → IsSameReading b r → r.key ≡ b.key
same_key b r same = ap (λ (q : RangeRows). q.key) same

next_head : (d : Defs) (s : TableState) (b old new : RangeRows) (came : List StoredRow) (head : Option Head) → AllByRecursion (IsRow d) s.rows → old.key ≡ b.key
    → coming d b s.rows ≡ map (pair_of_row d (suc b.key)) came ++ coming d old s.rows → IsNextOf d s old new head → GoesOn d s b new came head
next_head d s b old new came None all same so next = so ∙ ap (λ (q : List Pair). map (pair_of_row d (suc b.key)) came ++ q) next.answers ∙ append-nil (map (pair_of_row d (suc b.key)) came)
next_head d s b old new came (Some h) all same so next =
    let a = next.answers in
    let here : a.0.at ≡ h.at = (found-is (IsRow d) h.at s.rows a.0 a.1 all).1 in (
      record {
        row = a.0;
        there = subst (λ (p : ℕ). row_at p s.rows ≡ Some a.0) (sym here) a.1;
        at = here;
        values = a.2;
        key = next.key ∙ ap (λ (k : ℕ). key_of d (suc k) h.row) same;
      },
      so ∙ ap (λ (q : List Pair). map (pair_of_row d (suc b.key)) came ++ q) (a.3 ∙ ap (λ (k : ℕ). pair_of_row d (suc k) a.0 ∷ coming d new s.rows) same),
    )

-- files that would tell what cannot be tell nothing
pub untold : (o : Option Holding) → ((m : Holding) → o ≡ Some m → ⊥) → o ≡ None
untold None never = refl
untold (Some m) never = absurd (never m refl)

-- a row of a table fits
pub fits_row : (d : Defs) (s : TableState) (old new : RangeRows) (at : ℕ) (row : Values) → AllByRecursion (λ (r : StoredRow). fits d r.values ≡ true) s.rows → Answers d s old new (Some (at, row)) → fits d row ≡ true
fits_row d s old new at row all a = subst (λ (v : Values). fits d v ≡ true) a.2 (found-is (λ (r : StoredRow). fits d r.values ≡ true) at s.rows a.0 a.1 all).0

-- a reading begins
pub reads_none : (d : Defs) (s : TableState) (b new : RangeRows) (head : Option Head) → AllByRecursion (IsRow d) s.rows → IsSameReading b new → IsNextOf d s b new head → Reads d s b (record { rows = new; head = head }) []
reads_none d s b new head all same next = record { same = same; there = tt; goes_on = next_head d s b b new [] head all refl refl next }

there_more : (s : TableState) (came : List StoredRow) (r : StoredRow) → AllByRecursion (IsThere s) came → IsThere s r → AllByRecursion (IsThere s) (came ++ r ∷ [])
there_more s [] r all is = (is, tt)
there_more s (q ∷ came) r all is = (all.0, there_more s came r all.1 is)

-- the next row came, and the one behind it is the next
pub reads_more : (d : Defs) (s : TableState) (b : RangeRows) (old new : Reading) (came : List StoredRow) (h : Head) → AllByRecursion (IsRow d) s.rows → old.head ≡ Some h → Reads d s b old came
    → IsSameReading old.rows new.rows → IsNextOf d s old.rows new.rows new.head → (q : StoredRow) × (q.at ≡ h.at) × (q.values ≡ h.row) × (h.key ≡ key_of d (suc b.key) q.values) × Reads d s b new (came ++ q ∷ [])
reads_more d s b old new came h all is was same next =
    let g : GoesOn d s b old.rows came (Some h) = subst (λ (o : Option Head). GoesOn d s b old.rows came o) is was.goes_on in
    let n : Stands d s (suc b.key) h = g.0 in
    let pair : StoredRow → Pair = pair_of_row d (suc b.key) in
    let so : coming d b s.rows ≡ map pair (came ++ n.row ∷ []) ++ coming d old.rows s.rows =
    g.1 ∙ sym (append_assoc (map pair came) (pair n.row ∷ []) (coming d old.rows s.rows)) ∙ ap (λ (q : List Pair). q ++ coming d old.rows s.rows) (sym (map-append pair came (n.row ∷ []))) in (
      n.row,
      n.at,
      n.values,
      n.key ∙ ap (key_of d (suc b.key)) (sym n.values),
      record {
        same = same ∙ ap (λ (q : RangeRows). record q { reached = new.rows.reached }) was.same;
        there = there_more s came n.row was.there n.there;
        goes_on = next_head d s b old.rows new.rows (came ++ n.row ∷ []) new.head all (same_key b old.rows was.same) so next;
      },
    )

-- the rows of all pairs to come match
abbrev pub RowsMatch : Type 0
RowsMatch = (d : Defs) (s : TableState) (key : ℕ) (b : Bounds) (found : List StoredRow) → IsSound d → IsTable d s → AllByRecursion (λ (r : StoredRow). row_at r.at s.rows ≡ Some r) found
    → map (pair_of_row d (suc key)) found ≡ coming d (record { key = key; to = b.to; reached = begin_at b.from }) s.rows → AreMatching d (suc key) b s.rows found

-- all rows came
pub reads_all : RowsMatch → (d : Defs) (s : TableState) (range : Range) (r : Reading) (came : List StoredRow) → IsSound d → IsTable d s → r.head ≡ None → Reads d s (begun range) r came → AreMatching d (suc range.key) (bounds_of range) s.rows came
reads_all law d s range r came sound table none was =
    law d s range.key (bounds_of range) came sound table was.there (sym (subst (λ (o : Option Head). GoesOn d s (begun range) r.rows came o) none was.goes_on))
