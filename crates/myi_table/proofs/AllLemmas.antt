-- All rows between bounds, by a reading that is run to its end.
use Rattle.std.proofs.Common.{◌≡◌, ◌≢◌, ℕ, zero, suc, ◌+◌, ◌*◌, ◌<◌, ◌≤◌, Bool, true, false, Option, Some, None, List, [], ◌∷◌, ◌++◌, length, map, refl, sym, ap, subst, ◌∙◌, arith, append_assoc}
use Rattle.std.specs.Prelude.{nat_lt, IfSome, MatchOption}
use Rattle.std.specs.List.{AllByRecursion}
use Rattle.std.proofs.lemmas.Bool.Decides.{nat_tests}
use Rattle.std.proofs.lemmas.List.{append-nil, map-append, length_push}
use Rattle.std.proofs.lemmas.List.Sums.{sum_by_push}
use Rattle.myi_base.specs.Holding.{Holding, Told, OthersStay}
use Rattle.myi_base.proofs.CallerLemmas.{told_then}
use Rattle.myi_defs.specs.declared.types.Defs.{Defs}
use Rattle.myi_defs.specs.Sound.{IsSound}
use Rattle.myi_pack.specs.Packed.{Values}
use Rattle.myi_keys.specs.declared.values.KeySeg.{KeySeg}
use Rattle.myi_keylist.specs.declared.pair.Pair.{Pair}
use Rattle.myi_state.specs.State.{StoredRow, TableState, row_at}
use Rattle.myi_state.specs.Sound.{IsRow}
use Rattle.myi_state.proofs.CallerLemmas.{found-is}
use Rattle.myi_tablestate.specs.Keyed.{IsTable}
use Rattle.myi_tablestate.specs.Listed.{placed, pair_of_row, listed}
use Rattle.myi_tablestate.specs.Matching.{Bounds, AreMatching}
use Rattle.myi_ranges.specs.declared.ranges.RangeRows.{RangeRows}
use Rattle.myi_ranges.specs.Ranges.{begin_at, searches, coming, ReadsAhead, Answers, RoseBySearches, ReadInFew, IsFirstToCome, FailsInFew, row_cost_by, row_cost}
use Rattle.myi_opening.specs.Names.{index_file}
use Rattle.myi_keyedrows.specs.declared.keyed_rows.KeyedRows.{KeyedRows}
use Rattle.myi_keyedrows.specs.KeyedRows.{IsLeft}
use Rattle.myi_table.specs.declared.ranges.Range.{Range}
use Rattle.myi_table.specs.declared.fault.Cause.{Cause}
use Rattle.myi_table.specs.declared.fault.ReadFault.{ReadFault}
use Rattle.myi_table.specs.declared.fault.ReadFault.TheVariants as reading
use Rattle.myi_table.specs.Faults.{NeverDamaged, IsBrokenFor}
use Rattle.myi_table.specs.Table.{OpenTable, defs_in, IfHolds, StillHolds, IsSame}
use Rattle.myi_table.specs.Reading.{IsAhead, IsSameReading, IfBroken, begun, bounds_of, cost_of, AnswersRange, ReadsInRange}

-- ---- all rows

-- each row is the one at its position
abbrev pub IsThere : TableState → StoredRow → Type 0
IsThere s r = row_at r.at s.rows ≡ Some r

-- These rows came so far, the first of those that were to come, and the others are still to come. Of the searches that they and two more may
-- take some are left.
pub record Came (d : Defs) (s : TableState) (begin now : RangeRows) (before after : ℕ) (came : List (ℕ × Values)) : Type 0 where
  pub found : List StoredRow
  pub rows : came ≡ map placed found
  pub there : AllByRecursion (IsThere s) found
  pub coming : coming d begin s.rows ≡ map (pair_of_row d (suc begin.key)) found ++ coming d now s.rows
  pub times : ℕ
  pub left : times + searches now.reached ≤ length found + 2
  pub few : RoseBySearches times (length (listed d (suc begin.key) s.rows)) (cost_of d found) before after

two_at_most : (range : Range) → searches (begun range).reached ≤ 2
two_at_most range = by range.from
  where
    by : (o : Option (List KeySeg)) → searches (begin_at o) ≤ 2
    by None = omega arith
    by (Some low) = omega arith

pub came_none : (d : Defs) (s : TableState) (range : Range) (at : ℕ) → Came d s (begun range) (begun range) at at []
came_none d s range at = record {
  found = [];
  rows = refl;
  there = tt;
  coming = refl;
  times = 0;
  left = let two = two_at_most range in omega (arith, two);
  few = record { levels = 0; fit = omega arith; few = omega arith };
}

-- one count after the other
rose_both : (t u pairs x y before mid after : ℕ) → RoseBySearches t pairs x before mid → RoseBySearches u pairs y mid after → RoseBySearches (t + u) pairs (x + y) before after
rose_both t u pairs x y before mid after one two = by (nat_lt one.levels two.levels) refl
  where
    more : (n a b : ℕ) → a ≤ b → n * (a + 1) ≤ n * (b + 1)
    more zero a b le = omega arith
    more (suc n) a b le = let rest = more n a b le in omega (arith, rest, le)

    both : (n k l : ℕ) → (n + k) * (l + 1) ≡ n * (l + 1) + k * (l + 1)
    both zero k l = omega arith
    both (suc n) k l = let rest = both n k l in omega (arith, rest)

    by : (b : Bool) → nat_lt one.levels two.levels ≡ b → RoseBySearches (t + u) pairs (x + y) before after
    by true e =
        let less : one.levels ≤ two.levels = grind (arith, nat_tests, e) in
        let grown = more t one.levels two.levels less in
        let sum = both t u two.levels in
        record { levels = two.levels; fit = two.fit; few = let first = one.few in let then = two.few in omega (arith, first, then, grown, sum) }
    by false e =
        let less : two.levels ≤ one.levels = grind (arith, nat_tests, e) in
        let grown = more u two.levels one.levels less in
        let sum = both t u one.levels in
        record { levels = one.levels; fit = one.fit; few = let first = one.few in let then = two.few in omega (arith, first, then, grown, sum) }

rose_less : (t u pairs x before after : ℕ) → t ≤ u → RoseBySearches t pairs x before after → RoseBySearches u pairs x before after
rose_less t u pairs x before after le r = record { levels = r.levels; fit = r.fit; few = let grown = more t u (r.levels + 1) le in let few = r.few in omega (arith, grown, few) }
  where
    more : (a b n : ℕ) → a ≤ b → a * n ≤ b * n
    more zero b n le = omega arith
    more (suc a) zero n le = absurd (omega (arith, le))
    more (suc a) (suc b) n le = let rest = more a b n (omega (arith, le)) in omega (arith, rest)

there_more : (s : TableState) (found : List StoredRow) (r : StoredRow) → AllByRecursion (IsThere s) found → IsThere s r → AllByRecursion (IsThere s) (found ++ r ∷ [])
there_more s [] r all is = (is, tt)
there_more s (q ∷ found) r all is = (all.0, there_more s found r all.1 is)

pub came_more : (d : Defs) (s : TableState) (begin now next : RangeRows) (before mid after : ℕ) (rows : List (ℕ × Values)) (at : ℕ) (values : Values) → AllByRecursion (IsRow d) s.rows → now.key ≡ begin.key → searches next.reached ≤ 1 → Came d s begin now before mid rows
    → Answers d s now next (Some (at, values)) → ReadInFew d s now (Some (at, values)) mid after → Came d s begin next before after (rows ++ (at, values) ∷ [])
came_more d s begin now next before mid after rows at values all key one c (r, there, is, order) few =
    let here : r.at ≡ at = (found-is (IsRow d) at s.rows r there all).1 in
    let pair : (ℕ × Values) = (at, values) in
    record {
      found = c.found ++ r ∷ [];
      rows = ap (λ (p : ℕ). rows ++ (p, values) ∷ []) (sym here) ∙ ap (λ (v : Values). rows ++ (r.at, v) ∷ []) (sym is) ∙ ap (λ (q : List (ℕ × Values)). q ++ placed r ∷ []) c.rows ∙ sym (map-append placed c.found (r ∷ []));
      there = there_more s c.found r c.there (subst (λ (p : ℕ). row_at p s.rows ≡ Some r) (sym here) there);
      coming = c.coming ∙ ap (λ (q : List Pair). map (pair_of_row d (suc begin.key)) c.found ++ q) (order ∙ ap (λ (k : ℕ). pair_of_row d (suc k) r ∷ coming d next s.rows) key)
          ∙ sym (append_assoc (map (pair_of_row d (suc begin.key)) c.found) (pair_of_row d (suc begin.key) r ∷ []) (coming d next s.rows)) ∙ ap (λ (q : List Pair). q ++ coming d next s.rows) (sym (map-append (pair_of_row d (suc begin.key)) c.found (r ∷ [])));
      times = c.times + searches now.reached;
      left = let left = c.left in let long = length_push c.found r in omega (arith, left, long, one);
      few =
          let one_more = subst (λ (k : ℕ). RoseBySearches (searches now.reached) (length (listed d (suc k) s.rows)) (row_cost d (row_at at s.rows)) mid after) key few in
          let cost = subst (λ (o : Option StoredRow). RoseBySearches (searches now.reached) (length (listed d (suc begin.key) s.rows)) (row_cost d o) mid after) there one_more in
          let sum : cost_of d (c.found ++ r ∷ []) ≡ cost_of d c.found + row_cost_by d.format d.slot_length r = sum_by_push (λ (q : StoredRow). row_cost_by d.format d.slot_length q) c.found r in
          subst (λ (n : ℕ). RoseBySearches (c.times + searches now.reached) (length (listed d (suc begin.key) s.rows)) n before after) (sym sum)
          (rose_both c.times (searches now.reached) (length (listed d (suc begin.key) s.rows)) (cost_of d c.found) (row_cost_by d.format d.slot_length r) before mid after c.few cost);
    }

-- the rows of all pairs to come match
abbrev pub RowsMatch : Type 0
RowsMatch = (d : Defs) (s : TableState) (key : ℕ) (b : Bounds) (found : List StoredRow) → IsSound d → IsTable d s → AllByRecursion (λ (r : StoredRow). row_at r.at s.rows ≡ Some r) found
    → map (pair_of_row d (suc key)) found ≡ coming d (record { key = key; to = b.to; reached = begin_at b.from }) s.rows → AreMatching d (suc key) b s.rows found

pub came_all : (d : Defs) (s : TableState) (range : Range) (now next : RangeRows) (before mid after : ℕ) (rows : List (ℕ × Values)) → RowsMatch → IsSound d → IsTable d s → now.key ≡ range.key → Came d s (begun range) now before mid rows → Answers d s now next None → ReadInFew d s now None mid after
    → AnswersRange d s range before after rows
came_all d s range now next before mid after rows law sound table key c none few = record {
  found = c.found;
  rows = c.rows;
  matching = law d s range.key (bounds_of range) c.found sound table c.there (sym (append-nil (map (pair_of_row d (suc range.key)) c.found)) ∙ ap (λ (q : List Pair). map (pair_of_row d (suc range.key)) c.found ++ q) (sym none) ∙ sym c.coming);
  few =
      let last = subst (λ (k : ℕ). RoseBySearches (searches now.reached) (length (listed d (suc k) s.rows)) 0 mid after) key few in
      let all = rose_both c.times (searches now.reached) (length (listed d (suc range.key) s.rows)) (cost_of d c.found) 0 before mid after c.few last in
      let same : cost_of d c.found + 0 ≡ cost_of d c.found = omega arith in
      rose_less (c.times + searches now.reached) (length c.found + 2) (length (listed d (suc range.key) s.rows)) (cost_of d c.found) before after c.left (subst (λ (n : ℕ). RoseBySearches (c.times + searches now.reached) (length (listed d (suc range.key) s.rows)) n before after) same all);
}

-- ---- one call after another

pub same_begun : (range : Range) (r : RangeRows) → r ≡ begun range → IsSameReading (begun range) r
same_begun range r is = is ∙ ap (λ (q : RangeRows). record (begun range) { reached = q.reached }) (sym is)

pub begun_ahead : (range : Range) (t : OpenTable) (s : TableState) → IsAhead t (begun range) s
begun_ahead range t s = by range.from
  where
    by : (o : Option (List KeySeg)) → ReadsAhead (begin_at o) (listed (defs_in t) (suc range.key) s.rows)
    by None = tt
    by (Some low) = tt

pub same_reading_then : (a b c : RangeRows) → IsSameReading a b → IsSameReading b c → IsSameReading a c
same_reading_then a b c one two = two ∙ ap (λ (q : RangeRows). record q { reached = c.reached }) one

pub still_then : (told mid next : Option Holding) (old half new : OpenTable) → StillHolds told mid old half → StillHolds mid next half new → StillHolds told next old new
still_then told mid next old half new one two = λ m held s h. let then = one m held s h in two then.0 then.1 s then.2

pub left_then : (old half new : KeyedRows) → IsLeft old half → IsLeft half new → IsLeft old new
left_then old half new one two = record { file = two.file ∙ one.file; places = two.places ∙ one.places; room = two.room ∙ one.room }

pub others_stay_then : (told mid next : Option Holding) (old half : List ℕ) → half ≡ old → Told told mid (OthersStay (index_file old)) → Told mid next (OthersStay (index_file half)) → Told told next (OthersStay (index_file old))
others_stay_then told mid next old half same one two =
    let stay = OthersStay (index_file old) in
    told_then told mid next stay stay stay one (subst (λ (name : List ℕ). Told mid next (OthersStay (index_file name))) same two) (λ m n k first second q other. second q other ∙ first q other)

untold_before : (told mid : Option Holding) (P : Holding → Holding → Type 0) → Told told mid P → mid ≡ None → told ≡ None
untold_before None mid P is none = refl
untold_before (Some m) mid P is none = absurd (let then = is.told m refl in let e : ◌≡◌ {A = Option Holding} None (Some then.0) = sym none ∙ then.1 in cc)

pub never_before : (told mid : Option Holding) (P : Holding → Holding → Type 0) (f : ReadFault) → Told told mid P → NeverDamaged mid f → NeverDamaged told f
never_before told mid P (reading.Broken by) is never = tt
never_before told mid P (reading.Damaged at) is never = untold_before told mid P is never
never_before told mid P reading.File is never = tt
never_before told mid P reading.Memory is never = tt

pub broken_before : (old half : Option Cause) (f : ReadFault) → half ≡ old → IsBrokenFor half f → IsBrokenFor old f
broken_before old half f same is = subst (λ (o : Option Cause). IsBrokenFor o f) same is

-- a table that is not broken does not refuse a reading for that
pub not_for_broken : (broken : Option Cause) (P : Type 0) (f : ReadFault) → broken ≡ None → IsBrokenFor broken f → IfBroken f P
not_for_broken broken P (reading.Broken by) none is = absurd (let e : ◌≡◌ {A = Option Cause} None (Some by) = sym none ∙ is in cc)
not_for_broken broken P (reading.Damaged at) none is = tt
not_for_broken broken P reading.File none is = tt
not_for_broken broken P reading.Memory none is = tt

-- a row more was answered
pub came_next : (told mid : Option Holding) (old half : OpenTable) (range : Range) (now next : RangeRows) (before middle after : ℕ) (rows : List (ℕ × Values)) (answer : Option (ℕ × Values)) (row : ℕ × Values)
    → answer ≡ Some row → IsSame old half → IsSameReading (begun range) now → IfSome answer (λ found. searches next.reached ≤ 1) → StillHolds told mid old half → IfHolds told old (λ m s. Came (defs_in old) s (begun range) now before middle rows)
    → IfHolds mid half (λ m s. Answers (defs_in half) s now next answer) → IfHolds mid half (λ m s. ReadInFew (defs_in half) s now answer middle after)
    → IfHolds told old (λ m s. Came (defs_in old) s (begun range) next before after (rows ++ row ∷ []))
came_next told mid old half range now next before middle after rows answer row is same reading onward still came answers few = λ m held s h.
    let then = still m held s h in
    let one : searches next.reached ≤ 1 = subst (λ (o : Option (ℕ × Values)). IfSome o (λ found. searches next.reached ≤ 1)) is onward in
    let answered = subst (λ (d : Defs). Answers d s now next (Some row)) same.defs (subst (λ (o : Option (ℕ × Values)). Answers (defs_in half) s now next o) is (answers then.0 then.1 s then.2)) in
    let cheap = subst (λ (d : Defs). ReadInFew d s now (Some row) middle after) same.defs (subst (λ (o : Option (ℕ × Values)). ReadInFew (defs_in half) s now o middle after) is (few then.0 then.1 s then.2)) in
    came_more (defs_in old) s (begun range) now next before middle after rows row.0 row.1 h.files.table.table.state.rows (ap (λ (q : RangeRows). q.key) reading) one (came m held s h) answered cheap

-- none is to come any more
pub came_end : (told mid : Option Holding) (old half : OpenTable) (range : Range) (now next : RangeRows) (before middle after : ℕ) (rows : List (ℕ × Values)) (answer : Option (ℕ × Values))
    → answer ≡ None → RowsMatch → IsSound (defs_in old) → IsSame old half → IsSameReading (begun range) now → StillHolds told mid old half → IfHolds told old (λ m s. Came (defs_in old) s (begun range) now before middle rows)
    → IfHolds mid half (λ m s. Answers (defs_in half) s now next answer) → IfHolds mid half (λ m s. ReadInFew (defs_in half) s now answer middle after)
    → IfHolds told old (λ m s. AnswersRange (defs_in old) s range before after rows)
came_end told mid old half range now next before middle after rows answer is law sound same reading still came answers few = λ m held s h.
    let then = still m held s h in
    let answered = subst (λ (d : Defs). Answers d s now next None) same.defs (subst (λ (o : Option (ℕ × Values)). Answers (defs_in half) s now next o) is (answers then.0 then.1 s then.2)) in
    let cheap = subst (λ (d : Defs). ReadInFew d s now None middle after) same.defs (subst (λ (o : Option (ℕ × Values)). ReadInFew (defs_in half) s now o middle after) is (few then.0 then.1 s then.2)) in
    came_all (defs_in old) s range now next before middle after rows law sound h.files.table.table (ap (λ (q : RangeRows). q.key) reading) (came m held s h) answered cheap

-- ---- how often the files are read, whatever is answered

pub reads_none : (d : Defs) (s : TableState) (range : Range) (at : ℕ) → ReadsInRange d s range at at
reads_none d s range at = record {
  read = [];
  others = coming d (begun range) s.rows;
  first = refl;
  few = record { levels = 0; fit = omega arith; few = omega arith };
}

reads_so_far : (d : Defs) (s : TableState) (range : Range) (now : RangeRows) (before at : ℕ) (rows : List (ℕ × Values)) → Came d s (begun range) now before at rows → ReadsInRange d s range before at
reads_so_far d s range now before at rows c = record {
  read = c.found;
  others = coming d now s.rows;
  first = c.coming;
  few = rose_less c.times (length c.found + 2) (length (listed d (suc range.key) s.rows)) (cost_of d c.found) before at (let left = c.left in omega (arith, left)) c.few;
}

-- and those that a call which answers no row may count for
reads_failed : (d : Defs) (s : TableState) (range : Range) (now : RangeRows) (before mid after : ℕ) (rows : List (ℕ × Values)) → now.key ≡ range.key → Came d s (begun range) now before mid rows → FailsInFew d s now mid after → ReadsInRange d s range before after
reads_failed d s range now before mid after rows key c failed = by failed.next failed.comes (subst (λ (k : ℕ). RoseBySearches (searches now.reached) (length (listed d (suc k) s.rows)) (row_cost d failed.next) mid after) key failed.few)
  where
    by : (o : Option StoredRow) → MatchOption o (Unit {0}) (IsFirstToCome d s now) → RoseBySearches (searches now.reached) (length (listed d (suc range.key) s.rows)) (row_cost d o) mid after → ReadsInRange d s range before after
    by None none few =
        let all = rose_both c.times (searches now.reached) (length (listed d (suc range.key) s.rows)) (cost_of d c.found) 0 before mid after c.few few in
        let same : cost_of d c.found + 0 ≡ cost_of d c.found = omega arith in
        record {
          read = c.found;
          others = coming d now s.rows;
          first = c.coming;
          few = rose_less (c.times + searches now.reached) (length c.found + 2) (length (listed d (suc range.key) s.rows)) (cost_of d c.found) before after c.left (subst (λ (n : ℕ). RoseBySearches (c.times + searches now.reached) (length (listed d (suc range.key) s.rows)) n before after) same all);
        }
    by (Some r) (there, others, order) few =
        let all = rose_both c.times (searches now.reached) (length (listed d (suc range.key) s.rows)) (cost_of d c.found) (row_cost_by d.format d.slot_length r) before mid after c.few few in
        let sum : cost_of d (c.found ++ r ∷ []) ≡ cost_of d c.found + row_cost_by d.format d.slot_length r = sum_by_push (λ (q : StoredRow). row_cost_by d.format d.slot_length q) c.found r in
        record {
          read = c.found ++ r ∷ [];
          others = others;
          first = c.coming ∙ ap (λ (q : List Pair). map (pair_of_row d (suc range.key)) c.found ++ q) (order ∙ ap (λ (k : ℕ). pair_of_row d (suc k) r ∷ others) key)
              ∙ sym (append_assoc (map (pair_of_row d (suc range.key)) c.found) (pair_of_row d (suc range.key) r ∷ []) others) ∙ ap (λ (q : List Pair). q ++ others) (sym (map-append (pair_of_row d (suc range.key)) c.found (r ∷ [])));
          few = rose_less (c.times + searches now.reached) (length (c.found ++ r ∷ []) + 2) (length (listed d (suc range.key) s.rows)) (cost_of d (c.found ++ r ∷ [])) before after (let left = c.left in let long = length_push c.found r in omega (arith, left, long))
              (subst (λ (n : ℕ). RoseBySearches (c.times + searches now.reached) (length (listed d (suc range.key) s.rows)) n before after) (sym sum) all);
        }

pub reads_now : (told : Option Holding) (old : OpenTable) (range : Range) (now : RangeRows) (before at : ℕ) (rows : List (ℕ × Values)) → IfHolds told old (λ m s. Came (defs_in old) s (begun range) now before at rows) → IfHolds told old (λ m s. ReadsInRange (defs_in old) s range before at)
reads_now told old range now before at rows came = λ m held s h. reads_so_far (defs_in old) s range now before at rows (came m held s h)

pub reads_fail : (told mid : Option Holding) (old half : OpenTable) (range : Range) (now : RangeRows) (before middle after : ℕ) (rows : List (ℕ × Values)) → IsSame old half → IsSameReading (begun range) now → StillHolds told mid old half
    → IfHolds told old (λ m s. Came (defs_in old) s (begun range) now before middle rows) → IfHolds mid half (λ m s. FailsInFew (defs_in half) s now middle after) → IfHolds told old (λ m s. ReadsInRange (defs_in old) s range before after)
reads_fail told mid old half range now before middle after rows same reading still came failed = λ m held s h.
    let then = still m held s h in
    reads_failed (defs_in old) s range now before middle after rows (ap (λ (q : RangeRows). q.key) reading) (came m held s h) (subst (λ (d : Defs). FailsInFew d s now middle after) same.defs (failed then.0 then.1 s then.2))

pub reads_end : (told mid : Option Holding) (old half : OpenTable) (range : Range) (now : RangeRows) (before middle after : ℕ) (rows : List (ℕ × Values)) (answer : Option (ℕ × Values)) → answer ≡ None → IsSame old half → IsSameReading (begun range) now → StillHolds told mid old half
    → IfHolds told old (λ m s. Came (defs_in old) s (begun range) now before middle rows) → IfHolds mid half (λ m s. ReadInFew (defs_in half) s now answer middle after) → IfHolds told old (λ m s. ReadsInRange (defs_in old) s range before after)
reads_end told mid old half range now before middle after rows answer is same reading still came few =
    reads_fail told mid old half range now before middle after rows same reading still came (λ m held s h. record { next = None; comes = tt; few = subst (λ (o : Option (ℕ × Values)). ReadInFew (defs_in half) s now o middle after) is (few m held s h) })
