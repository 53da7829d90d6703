-- Reading the rows of the base between bounds, one after the other.
use Rattle.std.proofs.Common.{◌≡◌, ℕ, zero, suc, ◌+◌, ◌*◌, ◌<◌, ◌≤◌, Bool, true, false, Option, Some, None, Err, List, [], ◌∷◌, ◌++◌, length, map, slice_index_or, refl, sym, ap, subst, ◌∙◌, arith, append_assoc}
use Rattle.std.specs.Prelude.{nat_lt, MatchOption}
use Rattle.std.specs.List.{AllByRecursion}
use Rattle.std.proofs.lemmas.Bool.Decides.{nat_tests}
use Rattle.std.proofs.lemmas.List.{append-nil, map-append, length_push}
use Rattle.std.proofs.lemmas.List.Sums.{sum_by_push}
use Rattle.std.proofs.lemmas.Option.{same_Some}
use Rattle.myi_base.specs.Holding.{Holding, IfTold}
use Rattle.myi_base.specs.Causes.{HasCause}
use Rattle.myi_defs.specs.declared.types.Defs.{Defs}
use Rattle.myi_defs.specs.Sound.{IsSound}
use Rattle.myi_pack.specs.Packed.{Values}
use Rattle.myi_pack.specs.Spelling.{fits}
use Rattle.myi_keys.specs.declared.values.KeySeg.{KeySeg}
use Rattle.myi_keylist.specs.declared.pair.Pair.{Pair}
use Rattle.myi_btree.specs.declared.fault.TreeFault.TheVariants as tree
use Rattle.myi_slots.specs.declared.fault.DataFault.TheVariants as read
use Rattle.myi_state.specs.State.{StoredRow, TableState, row_at}
use Rattle.myi_state.specs.Sound.{IsRow}
use Rattle.myi_state.proofs.CallerLemmas.{found-is}
use Rattle.myi_blocks.specs.Places.{NotedFile}
use Rattle.myi_pair.specs.FirstRows.{numbers_from}
use Rattle.myi_keytrees.specs.Trees.{Trees}
use Rattle.myi_keytrees.specs.Standing.{list_of, Stand, StillStand}
use Rattle.myi_tablestate.specs.Keyed.{IsTable}
use Rattle.myi_tablestate.specs.Listed.{placed, pair_of_row, listed}
use Rattle.myi_tablestate.specs.Matching.{Bounds, AreMatching}
use Rattle.myi_rowtrees.specs.RowLists.{lists_of}
use Rattle.myi_ranges.specs.declared.fault.RangeFault.{RangeFault}
use Rattle.myi_ranges.specs.declared.fault.RangeFault.TheVariants as range
use Rattle.myi_ranges.specs.declared.ranges.RangeRows.{RangeRows}
use Rattle.myi_ranges.specs.Ranges.{begin_at, searches, coming, ReadsAhead, Answers, HasTable, RoseBySearches, ReadInFew, IsFirstToCome, FailsInFew, row_cost_by, row_cost}
use Rattle.myi_ranges.specs.Ranges as ranges
use Rattle.myi_keyedrows.specs.declared.keyed_rows.KeyedRows.{KeyedRows}
use Rattle.myi_keyedrows.specs.KeyedRows.{defs_of, HoldTable}
use Rattle.myi_table.specs.declared.ranges.Range.{Range}
use Rattle.myi_table.specs.Reading.{IsSameReading, begun, bounds_of, cost_of, AnswersRange, ReadsInRange}
use Rattle.myi_readers.specs.declared.fault.SeenFault.{SeenFault}
use Rattle.myi_readers.specs.declared.fault.SeenFault.TheVariants as seen
use Rattle.myi_readers.specs.Faults.{of_range}
use Rattle.myi_readers.specs.Ranges.{HoldRange, NeverDamaged, IsUnfit}

-- ---- the table of a reading

nth : (f : ℕ → List Pair) (at n k : ℕ) → k < n → slice_index_or (map f (numbers_from at n)) k [] ≡ f (at + k)
nth f at zero k lt = absurd (omega (arith, lt))
nth f at (suc n) zero lt = let e : at ≡ at + 0 = omega arith in ap f e
nth f at (suc n) (suc k) lt = let e : suc at + k ≡ at + suc k = omega arith in nth f (suc at) n k (omega (arith, lt)) ∙ ap f e

-- the list of a key
list_at : (d : Defs) (rows : List StoredRow) (k : ℕ) → k < length d.keys → list_of (lists_of d rows) k ≡ listed d (suc k) rows
list_at d rows k lt = let e : 1 + k ≡ suc k = omega arith in nth (λ (j : ℕ). listed d j rows) 1 (length d.keys) k lt ∙ ap (λ (j : ℕ). listed d j rows) e

-- the table of a reading, by the same definitions
pub has_table : (d : Defs) (r : RangeRows) (k : KeyedRows) (own : ℕ → ℕ) (s : TableState) (m : Holding) → defs_of k ≡ d → r.key < length d.keys → HoldRange d r k own s m → HasTable d r k.trees k.rows.file s m
has_table d r k own s m same key h = record {
  table = subst (λ (e : Defs). IsTable e s) same h.table.table;
  file = h.table.rows.0;
  own = own;
  lists = lists_of (defs_of k) s.rows;
  stand = h.table.trees;
  pairs = ap (λ (e : Defs). list_of (lists_of e s.rows) r.key) same ∙ list_at d s.rows r.key key;
  ahead = h.ahead;
}

-- the pages that are kept are written, and the trees were searched: the object stands for the table as before
pub searched_holds : (k : KeyedRows) (rows : NotedFile) (trees : Trees) (own : ℕ → ℕ) (s : TableState) (m : Holding) (told next : Option Holding) → told ≡ Some m → next ≡ told → rows ≡ k.rows → StillStand told next k.trees trees → HoldTable k own s m → HoldTable (record { rows = rows; trees = trees }) own s m
searched_holds k rows trees own s m told next held same left still h =
    let then = still m held own (lists_of (defs_of k) s.rows) h.trees in
    let here : then.now ≡ m = same_Some then.now m (sym then.held ∙ same ∙ held) in
    subst (λ (f : NotedFile). HoldTable (record { rows = f; trees = trees }) own s m) (sym left) (record {
      table = h.table;
      rows = h.rows;
      trees = subst (λ (q : Holding). Stand trees q own (lists_of (defs_of k) s.rows)) here then.stand;
    })

-- a row of a table fits
pub row_fits : (d : Defs) (s : TableState) (old new : RangeRows) (at : ℕ) (values : Values) → IsTable d s → Answers d s old new (Some (at, values)) → fits d values ≡ true
row_fits d s old new at values table (r, there, is, order) =
    ap (fits d) (sym is) ∙ (found-is (λ (q : StoredRow). fits d q.values ≡ true) at s.rows r there table.fit).0

-- ---- refusals

pub never_damaged : (told : Option Holding) (f : RangeFault) → ranges.NeverDamaged told f → NeverDamaged told (of_range f)
never_damaged told (range.Index (tree.Damaged at)) never = never
never_damaged told (range.Index tree.File) never = tt
never_damaged told (range.Index tree.Memory) never = tt
never_damaged told (range.Data (read.NoRow at)) never = absurd never
never_damaged told (range.Data read.Full) never = absurd never
never_damaged told (range.Data (read.Damaged at)) never = never
never_damaged told (range.Data read.File) never = tt
never_damaged told (range.Data read.Memory) never = tt

pub cause_range : {T U : Type 0} (before now : ℕ) (f : RangeFault) → HasCause {T = T} {E = RangeFault} (range.Index tree.File) before now (Err f) → HasCause {T = T} {E = RangeFault} (range.Data read.File) before now (Err f) → HasCause {T = U} {E = SeenFault} seen.File before now (Err (of_range f))
cause_range before now (range.Index (tree.Damaged at)) one two = record { later = one.later; cause = λ e. absurd cc }
cause_range before now (range.Index tree.File) one two = record { later = one.later; cause = λ e. one.cause refl }
cause_range before now (range.Index tree.Memory) one two = record { later = one.later; cause = λ e. absurd cc }
cause_range before now (range.Data (read.NoRow at)) one two = record { later = one.later; cause = λ e. absurd cc }
cause_range before now (range.Data read.Full) one two = record { later = one.later; cause = λ e. absurd cc }
cause_range before now (range.Data (read.Damaged at)) one two = record { later = one.later; cause = λ e. absurd cc }
cause_range before now (range.Data read.File) one two = record { later = one.later; cause = λ e. two.cause refl }
cause_range before now (range.Data read.Memory) one two = record { later = one.later; cause = λ e. absurd cc }

-- a row that does not fit is met only where files tell nothing
pub unfit_untold : (told : Option Holding) (d : Defs) (row : ℕ × Values) (f : SeenFault) → IfTold told (λ m. fits d row.1 ≡ true) → IsUnfit d row f → NeverDamaged told f
unfit_untold None d row (seen.Damaged at) fit unfit = refl
unfit_untold (Some m) d row (seen.Damaged at) fit unfit = let good = fit m refl in let e : ◌≡◌ {A = Bool} true false = sym good ∙ unfit in absurd cc
unfit_untold told d row seen.File fit unfit = absurd unfit
unfit_untold told d row seen.Memory fit unfit = tt

-- ---- all rows

-- each row is the one at its position
abbrev pub IsThere : TableState → StoredRow → Type 0
IsThere s r = row_at r.at s.rows ≡ Some r

-- These rows came so far, the first of those that were to come, and the others are still to come. Of the searches that they and two more may
-- take some are left.
pub record Came (d : Defs) (s : TableState) (begin now : RangeRows) (before after : ℕ) (came : List (ℕ × Values)) : Type 0 where
  pub found : List StoredRow
  pub rows : came ≡ map placed found
  pub there : AllByRecursion (IsThere s) found
  pub coming : coming d begin s.rows ≡ map (pair_of_row d (suc begin.key)) found ++ coming d now s.rows
  pub times : ℕ
  pub left : times + searches now.reached ≤ length found + 2
  pub few : RoseBySearches times (length (listed d (suc begin.key) s.rows)) (cost_of d found) before after

two_at_most : (range : Range) → searches (begun range).reached ≤ 2
two_at_most range = by range.from
  where
    by : (o : Option (List KeySeg)) → searches (begin_at o) ≤ 2
    by None = omega arith
    by (Some low) = omega arith

pub came_none : (d : Defs) (s : TableState) (range : Range) (at : ℕ) → Came d s (begun range) (begun range) at at []
came_none d s range at = record {
  found = [];
  rows = refl;
  there = tt;
  coming = refl;
  times = 0;
  left = let two = two_at_most range in omega (arith, two);
  few = record { levels = 0; fit = omega arith; few = omega arith };
}

-- one count after the other
rose_both : (t u pairs x y before mid after : ℕ) → RoseBySearches t pairs x before mid → RoseBySearches u pairs y mid after → RoseBySearches (t + u) pairs (x + y) before after
rose_both t u pairs x y before mid after one two = by (nat_lt one.levels two.levels) refl
  where
    more : (n a b : ℕ) → a ≤ b → n * (a + 1) ≤ n * (b + 1)
    more zero a b le = omega arith
    more (suc n) a b le = let rest = more n a b le in omega (arith, rest, le)

    both : (n k l : ℕ) → (n + k) * (l + 1) ≡ n * (l + 1) + k * (l + 1)
    both zero k l = omega arith
    both (suc n) k l = let rest = both n k l in omega (arith, rest)

    by : (b : Bool) → nat_lt one.levels two.levels ≡ b → RoseBySearches (t + u) pairs (x + y) before after
    by true e =
        let less : one.levels ≤ two.levels = grind (arith, nat_tests, e) in
        let grown = more t one.levels two.levels less in
        let sum = both t u two.levels in
        record { levels = two.levels; fit = two.fit; few = let first = one.few in let then = two.few in omega (arith, first, then, grown, sum) }
    by false e =
        let less : two.levels ≤ one.levels = grind (arith, nat_tests, e) in
        let grown = more u two.levels one.levels less in
        let sum = both t u one.levels in
        record { levels = one.levels; fit = one.fit; few = let first = one.few in let then = two.few in omega (arith, first, then, grown, sum) }

rose_less : (t u pairs x before after : ℕ) → t ≤ u → RoseBySearches t pairs x before after → RoseBySearches u pairs x before after
rose_less t u pairs x before after le r = record { levels = r.levels; fit = r.fit; few = let grown = more t u (r.levels + 1) le in let few = r.few in omega (arith, grown, few) }
  where
    more : (a b n : ℕ) → a ≤ b → a * n ≤ b * n
    more zero b n le = omega arith
    more (suc a) zero n le = absurd (omega (arith, le))
    more (suc a) (suc b) n le = let rest = more a b n (omega (arith, le)) in omega (arith, rest)

there_more : (s : TableState) (found : List StoredRow) (r : StoredRow) → AllByRecursion (IsThere s) found → IsThere s r → AllByRecursion (IsThere s) (found ++ r ∷ [])
there_more s [] r all is = (is, tt)
there_more s (q ∷ found) r all is = (all.0, there_more s found r all.1 is)

pub came_more : (d : Defs) (s : TableState) (begin now next : RangeRows) (before mid after : ℕ) (rows : List (ℕ × Values)) (at : ℕ) (values : Values) → AllByRecursion (IsRow d) s.rows → now.key ≡ begin.key → searches next.reached ≤ 1 → Came d s begin now before mid rows
    → Answers d s now next (Some (at, values)) → ReadInFew d s now (Some (at, values)) mid after → Came d s begin next before after (rows ++ (at, values) ∷ [])
came_more d s begin now next before mid after rows at values all key one c (r, there, is, order) few =
    let here : r.at ≡ at = (found-is (IsRow d) at s.rows r there all).1 in
    let pair : (ℕ × Values) = (at, values) in
    record {
      found = c.found ++ r ∷ [];
      rows = ap (λ (p : ℕ). rows ++ (p, values) ∷ []) (sym here) ∙ ap (λ (v : Values). rows ++ (r.at, v) ∷ []) (sym is) ∙ ap (λ (q : List (ℕ × Values)). q ++ placed r ∷ []) c.rows ∙ sym (map-append placed c.found (r ∷ []));
      there = there_more s c.found r c.there (subst (λ (p : ℕ). row_at p s.rows ≡ Some r) (sym here) there);
      coming = c.coming ∙ ap (λ (q : List Pair). map (pair_of_row d (suc begin.key)) c.found ++ q) (order ∙ ap (λ (k : ℕ). pair_of_row d (suc k) r ∷ coming d next s.rows) key)
          ∙ sym (append_assoc (map (pair_of_row d (suc begin.key)) c.found) (pair_of_row d (suc begin.key) r ∷ []) (coming d next s.rows)) ∙ ap (λ (q : List Pair). q ++ coming d next s.rows) (sym (map-append (pair_of_row d (suc begin.key)) c.found (r ∷ [])));
      times = c.times + searches now.reached;
      left = let left = c.left in let long = length_push c.found r in omega (arith, left, long, one);
      few =
          let one_more = subst (λ (k : ℕ). RoseBySearches (searches now.reached) (length (listed d (suc k) s.rows)) (row_cost d (row_at at s.rows)) mid after) key few in
          let cost = subst (λ (o : Option StoredRow). RoseBySearches (searches now.reached) (length (listed d (suc begin.key) s.rows)) (row_cost d o) mid after) there one_more in
          let sum : cost_of d (c.found ++ r ∷ []) ≡ cost_of d c.found + row_cost_by d.format d.slot_length r = sum_by_push (λ (q : StoredRow). row_cost_by d.format d.slot_length q) c.found r in
          subst (λ (n : ℕ). RoseBySearches (c.times + searches now.reached) (length (listed d (suc begin.key) s.rows)) n before after) (sym sum)
          (rose_both c.times (searches now.reached) (length (listed d (suc begin.key) s.rows)) (cost_of d c.found) (row_cost_by d.format d.slot_length r) before mid after c.few cost);
    }

-- the rows of all pairs to come match
abbrev pub RowsMatch : Type 0
RowsMatch = (d : Defs) (s : TableState) (key : ℕ) (b : Bounds) (found : List StoredRow) → IsSound d → IsTable d s → AllByRecursion (λ (r : StoredRow). row_at r.at s.rows ≡ Some r) found
    → map (pair_of_row d (suc key)) found ≡ coming d (record { key = key; to = b.to; reached = begin_at b.from }) s.rows → AreMatching d (suc key) b s.rows found

pub came_all : (d : Defs) (s : TableState) (range : Range) (now next : RangeRows) (before mid after : ℕ) (rows : List (ℕ × Values)) → RowsMatch → IsSound d → IsTable d s → now.key ≡ range.key → Came d s (begun range) now before mid rows → Answers d s now next None → ReadInFew d s now None mid after
    → AnswersRange d s range before after rows
came_all d s range now next before mid after rows law sound table key c none few = record {
  found = c.found;
  rows = c.rows;
  matching = law d s range.key (bounds_of range) c.found sound table c.there (sym (append-nil (map (pair_of_row d (suc range.key)) c.found)) ∙ ap (λ (q : List Pair). map (pair_of_row d (suc range.key)) c.found ++ q) (sym none) ∙ sym c.coming);
  few =
      let last = subst (λ (k : ℕ). RoseBySearches (searches now.reached) (length (listed d (suc k) s.rows)) 0 mid after) key few in
      let all = rose_both c.times (searches now.reached) (length (listed d (suc range.key) s.rows)) (cost_of d c.found) 0 before mid after c.few last in
      let same : cost_of d c.found + 0 ≡ cost_of d c.found = omega arith in
      rose_less (c.times + searches now.reached) (length c.found + 2) (length (listed d (suc range.key) s.rows)) (cost_of d c.found) before after c.left (subst (λ (n : ℕ). RoseBySearches (c.times + searches now.reached) (length (listed d (suc range.key) s.rows)) n before after) same all);
}

-- ---- how often the files are read, whatever is answered

pub reads_none : (d : Defs) (s : TableState) (range : Range) (at : ℕ) → ReadsInRange d s range at at
reads_none d s range at = record {
  read = [];
  others = coming d (begun range) s.rows;
  first = refl;
  few = record { levels = 0; fit = omega arith; few = omega arith };
}

pub reads_so_far : (d : Defs) (s : TableState) (range : Range) (now : RangeRows) (before at : ℕ) (rows : List (ℕ × Values)) → Came d s (begun range) now before at rows → ReadsInRange d s range before at
reads_so_far d s range now before at rows c = record {
  read = c.found;
  others = coming d now s.rows;
  first = c.coming;
  few = rose_less c.times (length c.found + 2) (length (listed d (suc range.key) s.rows)) (cost_of d c.found) before at (let left = c.left in omega (arith, left)) c.few;
}

-- and those that a call which answers no row may count for
pub reads_failed : (d : Defs) (s : TableState) (range : Range) (now : RangeRows) (before mid after : ℕ) (rows : List (ℕ × Values)) → now.key ≡ range.key → Came d s (begun range) now before mid rows → FailsInFew d s now mid after → ReadsInRange d s range before after
reads_failed d s range now before mid after rows key c failed = by failed.next failed.comes (subst (λ (k : ℕ). RoseBySearches (searches now.reached) (length (listed d (suc k) s.rows)) (row_cost d failed.next) mid after) key failed.few)
  where
    by : (o : Option StoredRow) → MatchOption o (Unit {0}) (IsFirstToCome d s now) → RoseBySearches (searches now.reached) (length (listed d (suc range.key) s.rows)) (row_cost d o) mid after → ReadsInRange d s range before after
    by None none few =
        let all = rose_both c.times (searches now.reached) (length (listed d (suc range.key) s.rows)) (cost_of d c.found) 0 before mid after c.few few in
        let same : cost_of d c.found + 0 ≡ cost_of d c.found = omega arith in
        record {
          read = c.found;
          others = coming d now s.rows;
          first = c.coming;
          few = rose_less (c.times + searches now.reached) (length c.found + 2) (length (listed d (suc range.key) s.rows)) (cost_of d c.found) before after c.left (subst (λ (n : ℕ). RoseBySearches (c.times + searches now.reached) (length (listed d (suc range.key) s.rows)) n before after) same all);
        }
    by (Some r) (there, others, order) few =
        let all = rose_both c.times (searches now.reached) (length (listed d (suc range.key) s.rows)) (cost_of d c.found) (row_cost_by d.format d.slot_length r) before mid after c.few few in
        let sum : cost_of d (c.found ++ r ∷ []) ≡ cost_of d c.found + row_cost_by d.format d.slot_length r = sum_by_push (λ (q : StoredRow). row_cost_by d.format d.slot_length q) c.found r in
        record {
          read = c.found ++ r ∷ [];
          others = others;
          first = c.coming ∙ ap (λ (q : List Pair). map (pair_of_row d (suc range.key)) c.found ++ q) (order ∙ ap (λ (k : ℕ). pair_of_row d (suc k) r ∷ others) key)
              ∙ sym (append_assoc (map (pair_of_row d (suc range.key)) c.found) (pair_of_row d (suc range.key) r ∷ []) others) ∙ ap (λ (q : List Pair). q ++ others) (sym (map-append (pair_of_row d (suc range.key)) c.found (r ∷ [])));
          few = rose_less (c.times + searches now.reached) (length (c.found ++ r ∷ []) + 2) (length (listed d (suc range.key) s.rows)) (cost_of d (c.found ++ r ∷ [])) before after (let left = c.left in let long = length_push c.found r in omega (arith, left, long))
              (subst (λ (n : ℕ). RoseBySearches (c.times + searches now.reached) (length (listed d (suc range.key) s.rows)) n before after) (sym sum) all);
        }

-- ---- one call after another

pub same_begun : (range : Range) (r : RangeRows) → r ≡ begun range → IsSameReading (begun range) r
same_begun range r is = is ∙ ap (λ (q : RangeRows). record (begun range) { reached = q.reached }) (sym is)

pub begun_ahead : (range : Range) (d : Defs) (s : TableState) → ReadsAhead (begun range).reached (listed d (suc range.key) s.rows)
begun_ahead range d s = by range.from
  where
    by : (o : Option (List KeySeg)) → ReadsAhead (begin_at o) (listed d (suc range.key) s.rows)
    by None = tt
    by (Some low) = tt

pub same_reading_then : (a b c : RangeRows) → IsSameReading a b → IsSameReading b c → IsSameReading a c
same_reading_then a b c one two = two ∙ ap (λ (q : RangeRows). record q { reached = c.reached }) one
