-- How often files were read for the rows that came of each table.
use Rattle.std.proofs.Common.{◌≡◌, ◌≢◌, ℕ, zero, suc, ◌+◌, ◌*◌, ◌<◌, ◌≤◌, Bool, true, false, Option, Some, None, List, [], ◌∷◌, ◌++◌, length, map, set, slice_get, refl, sym, ap, subst, ◌∙◌, arith}
use Rattle.std.specs.Prelude.{nat_lt}
use Rattle.std.specs.List.{AllByRecursion}
use Rattle.std.proofs.lemmas.Bool.Decides.{nat_tests}
use Rattle.std.proofs.lemmas.List.{length_push}
use Rattle.std.proofs.lemmas.List.Sums.{sum_by_push}
use Rattle.std.proofs.lemmas.Option.{same_Some}
use Rattle.myi_defs.specs.declared.types.Defs.{Defs}
use Rattle.myi_keys.specs.declared.values.KeySeg.{KeySeg}
use Rattle.myi_state.specs.State.{StoredRow, TableState, row_at}
use Rattle.myi_tablestate.specs.Listed.{listed}
use Rattle.myi_ranges.specs.declared.ranges.RangeRows.{RangeRows}
use Rattle.myi_ranges.specs.Ranges.{begin_at, searches, row_cost, row_cost_by, RoseBySearches, ReadInFew}
use Rattle.myi_table.specs.declared.ranges.Range.{Range}
use Rattle.myi_table.specs.Table.{OpenTable, defs_in}
use Rattle.myi_table.specs.Reading.{begun, cost_of}
use Rattle.myi_merge.specs.declared.ranges.Head.{Head}
use Rattle.myi_merge.specs.declared.ranges.Reading.{Reading}
use Rattle.myi_merge.specs.Reading.{MergedRow, of_table, RoseByEach}
use Rattle.myi_merge.specs.Merging.{answer_of, head_cost, ReadInFewEach}
use Rattle.myi_merge.proofs.MergeLemmas.{table_same, table_other}

-- ---- counts

-- one count after the other
rose_both : (t u pairs x y before mid after : ℕ) → RoseBySearches t pairs x before mid → RoseBySearches u pairs y mid after → RoseBySearches (t + u) pairs (x + y) before after
rose_both t u pairs x y before mid after one two = by (nat_lt one.levels two.levels) refl
  where
    more : (n a b : ℕ) → a ≤ b → n * (a + 1) ≤ n * (b + 1)
    more zero a b le = omega arith
    more (suc n) a b le = let rest = more n a b le in omega (arith, rest, le)

    both : (n k l : ℕ) → (n + k) * (l + 1) ≡ n * (l + 1) + k * (l + 1)
    both zero k l = omega arith
    both (suc n) k l = let rest = both n k l in omega (arith, rest)

    by : (b : Bool) → nat_lt one.levels two.levels ≡ b → RoseBySearches (t + u) pairs (x + y) before after
    by true e =
        let less : one.levels ≤ two.levels = grind (arith, nat_tests, e) in
        let grown = more t one.levels two.levels less in
        let sum = both t u two.levels in
        record { levels = two.levels; fit = two.fit; few = let first = one.few in let then = two.few in omega (arith, first, then, grown, sum) }
    by false e =
        let less : two.levels ≤ one.levels = grind (arith, nat_tests, e) in
        let grown = more u two.levels one.levels less in
        let sum = both t u one.levels in
        record { levels = one.levels; fit = one.fit; few = let first = one.few in let then = two.few in omega (arith, first, then, grown, sum) }

rose_less : (t u pairs x before after : ℕ) → t ≤ u → RoseBySearches t pairs x before after → RoseBySearches u pairs x before after
rose_less t u pairs x before after le r = record { levels = r.levels; fit = r.fit; few = let grown = more t u (r.levels + 1) le in let few = r.few in omega (arith, grown, few) }
  where
    more : (a b n : ℕ) → a ≤ b → a * n ≤ b * n
    more zero b n le = omega arith
    more (suc a) zero n le = absurd (omega (arith, le))
    more (suc a) (suc b) n le = let rest = more a b n (omega (arith, le)) in omega (arith, rest)

rose_is : (t u pairs x y before after : ℕ) → t ≡ u → x ≡ y → RoseBySearches t pairs x before after → RoseBySearches u pairs y before after
rose_is t u pairs x y before after times more r = subst (λ (n : ℕ). RoseBySearches n pairs y before after) times (subst (λ (n : ℕ). RoseBySearches t pairs n before after) more r)

-- and from that much more on
rose_on : (k t pairs x before after : ℕ) → RoseBySearches t pairs x before after → RoseBySearches t pairs x (before + k) (after + k)
rose_on k t pairs x before after r = record { levels = r.levels; fit = r.fit; few = let few = r.few in omega (arith, few) }

-- ---- one row

two_at_most : (range : Range) → searches (begun range).reached ≤ 2
two_at_most range = by range.from
  where
    by : (o : Option (List KeySeg)) → searches (begin_at o) ≤ 2
    by None = omega arith
    by (Some low) = omega arith

-- the row that is read ahead was read in few
few_of : (d : Defs) (s : TableState) (old : RangeRows) (head : Option Head) (times key before after : ℕ) → searches old.reached ≤ times → old.key ≡ key → ReadInFew d s old (answer_of head) before after → RoseBySearches times (length (listed d (suc key) s.rows)) (head_cost d s head) before after
few_of d s old None times key before after le same few =
    rose_less (searches old.reached) times (length (listed d (suc key) s.rows)) 0 before after le (subst (λ (k : ℕ). RoseBySearches (searches old.reached) (length (listed d (suc k) s.rows)) 0 before after) same few)
few_of d s old (Some h) times key before after le same few =
    rose_less (searches old.reached) times (length (listed d (suc key) s.rows)) (row_cost d (row_at h.at s.rows)) before after le
    (subst (λ (k : ℕ). RoseBySearches (searches old.reached) (length (listed d (suc k) s.rows)) (row_cost d (row_at h.at s.rows)) before after) same few)

pub few_first : (d : Defs) (s : TableState) (range : Range) (head : Option Head) (before after : ℕ) → ReadInFew d s (begun range) (answer_of head) before after → RoseBySearches 2 (length (listed d (suc range.key) s.rows)) (head_cost d s head) before after
few_first d s range head before after few = few_of d s (begun range) head 2 range.key before after (two_at_most range) refl few

pub few_next : (d : Defs) (s : TableState) (old : RangeRows) (head : Option Head) (key before after : ℕ) → searches old.reached ≤ 1 → old.key ≡ key → ReadInFew d s old (answer_of head) before after → RoseBySearches 1 (length (listed d (suc key) s.rows)) (head_cost d s head) before after
few_next d s old head key before after once same few = few_of d s old head 1 key before after once same few

-- ---- all tables

few_shift : (range : Range) (n : ℕ) (ts : List OpenTable) (ss : List TableState) (rs : List Reading) (found : List MergedRow) (a b k c : ℕ) → c ≤ b + k → ReadInFewEach range n ts ss rs found a b → ReadInFewEach range n ts ss rs found (a + k) c
few_shift range n [] [] [] found a b k c le few = omega (arith, few, le)
few_shift range n [] [] (r ∷ rs) found a b k c le few = elim few [ ]
few_shift range n [] (s ∷ ss) rs found a b k c le few = elim few [ ]
few_shift range n (t ∷ ts) [] rs found a b k c le few = elim few [ ]
few_shift range n (t ∷ ts) (s ∷ ss) [] found a b k c le few = elim few [ ]
few_shift range n (t ∷ ts) (s ∷ ss) (r ∷ rs) found a b k c le few =
    let d : Defs = defs_in t in
    let came : List StoredRow = of_table n found in (
      few.0 + k,
      rose_on k (length came + 2) (length (listed d (suc range.key) s.rows)) (cost_of d came + head_cost d s r.head) a few.0 few.1,
      few_shift range (n + 1) ts ss rs found few.0 b k c le few.2,
    )

-- of tables behind the one whose row came
few_others : (range : Range) (n m : ℕ) (ts : List OpenTable) (ss : List TableState) (rs : List Reading) (found : List MergedRow) (q : StoredRow) (a b : ℕ) → m < n → ReadInFewEach range n ts ss rs found a b → ReadInFewEach range n ts ss rs (found ++ record { table = m; row = q } ∷ []) a b
few_others range n m [] [] [] found q a b lt few = few
few_others range n m [] [] (r ∷ rs) found q a b lt few = few
few_others range n m [] (s ∷ ss) rs found q a b lt few = few
few_others range n m (t ∷ ts) [] rs found q a b lt few = few
few_others range n m (t ∷ ts) (s ∷ ss) [] found q a b lt few = few
few_others range n m (t ∷ ts) (s ∷ ss) (r ∷ rs) found q a b lt few =
    let d : Defs = defs_in t in (
      few.0,
      subst (λ (came : List StoredRow). RoseBySearches (length came + 2) (length (listed d (suc range.key) s.rows)) (cost_of d came + head_cost d s r.head) a few.0) (sym (table_other n m found q (λ same. absurd (omega (arith, lt, same))))) few.1,
      few_others range (n + 1) m ts ss rs found q few.0 b (omega (arith, lt)) few.2,
    )

-- one more reading begins
pub few_push : (range : Range) (n : ℕ) (ts : List OpenTable) (ss : List TableState) (rs : List Reading) (t : OpenTable) (s : TableState) (r : Reading) (a b c : ℕ) → ReadInFewEach range n ts ss rs [] a b → RoseBySearches 2 (length (listed (defs_in t) (suc range.key) s.rows)) (head_cost (defs_in t) s r.head) b c
    → ReadInFewEach range n (ts ++ t ∷ []) (ss ++ s ∷ []) (rs ++ r ∷ []) [] a c
few_push range n [] [] [] t s r a b c few one =
    let cost : ℕ = head_cost (defs_in t) s r.head in
    let from : RoseBySearches 2 (length (listed (defs_in t) (suc range.key) s.rows)) (0 + cost) a c = record { levels = one.levels; fit = one.fit; few = let more = one.few in omega (arith, few, more) } in
    (c, from, omega arith)
few_push range n [] [] (p ∷ rs) t s r a b c few one = elim few [ ]
few_push range n [] (u ∷ ss) rs t s r a b c few one = elim few [ ]
few_push range n (u ∷ ts) [] rs t s r a b c few one = elim few [ ]
few_push range n (u ∷ ts) (v ∷ ss) [] t s r a b c few one = elim few [ ]
few_push range n (u ∷ ts) (v ∷ ss) (p ∷ rs) t s r a b c few one = (few.0, few.1, few_push range (n + 1) ts ss rs t s r few.0 b c few.2 one)

-- the row that was read ahead came, and the next one is read ahead
pub few_set : (range : Range) (n i : ℕ) (ts : List OpenTable) (ss : List TableState) (rs : List Reading) (found : List MergedRow) (t : OpenTable) (s : TableState) (old new : Reading) (h : Head) (q : StoredRow) (a b c : ℕ)
    → slice_get ts i ≡ Some t → slice_get ss i ≡ Some s → slice_get rs i ≡ Some old → old.head ≡ Some h → row_at h.at s.rows ≡ Some q → RoseBySearches 1 (length (listed (defs_in t) (suc range.key) s.rows)) (head_cost (defs_in t) s new.head) b c
    → ReadInFewEach range n ts ss rs found a b → ReadInFewEach range n ts ss (set rs i new) (found ++ record { table = n + i; row = q } ∷ []) a c
few_set range n i [] [] [] found t s old new h q a b c at_t at_s at is there one few = absurd cc
few_set range n i [] [] (r ∷ rs) found t s old new h q a b c at_t at_s at is there one few = elim few [ ]
few_set range n i [] (v ∷ ss) rs found t s old new h q a b c at_t at_s at is there one few = elim few [ ]
few_set range n i (u ∷ ts) [] rs found t s old new h q a b c at_t at_s at is there one few = elim few [ ]
few_set range n i (u ∷ ts) (v ∷ ss) [] found t s old new h q a b c at_t at_s at is there one few = elim few [ ]
few_set range n zero (u ∷ ts) (v ∷ ss) (r ∷ rs) found t s old new h q a b c at_t at_s at is there one few =
    let d : Defs = defs_in u in
    let here : n + 0 ≡ n = omega arith in
    let table : t ≡ u = sym (same_Some u t at_t) in
    let state : s ≡ v = sym (same_Some v s at_s) in
    let came : List StoredRow = of_table n found in
    let pairs : ℕ = length (listed d (suc range.key) v.rows) in
    let next : ℕ = head_cost d v new.head in
    let head : head_cost d v r.head ≡ row_cost_by d.format d.slot_length q =
    ap (λ (p : Reading). head_cost d v p.head) (same_Some r old at) ∙ ap (head_cost d v) is ∙ ap (λ (w : TableState). row_cost d (row_at h.at w.rows)) (sym state) ∙ ap (row_cost d) there in
    let then : RoseBySearches 1 pairs next b c = subst (λ (w : TableState). RoseBySearches 1 (length (listed d (suc range.key) w.rows)) (head_cost d w new.head) b c) state
    (subst (λ (w : OpenTable). RoseBySearches 1 (length (listed (defs_in w) (suc range.key) s.rows)) (head_cost (defs_in w) s new.head) b c) table one) in
    let k : ℕ = 1 * (then.levels + 1) + next in
    let mid : ℕ = few.0 + k in
    let moved : RoseBySearches 1 pairs next few.0 mid = record { levels = then.levels; fit = then.fit; few = omega arith } in
    let both = rose_both (length came + 2) 1 pairs (cost_of d came + head_cost d v r.head) next a few.0 mid few.1 moved in
    let long : length (came ++ q ∷ []) ≡ length came + 1 = length_push came q in
    let more : cost_of d (came ++ q ∷ []) ≡ cost_of d came + row_cost_by d.format d.slot_length q = sum_by_push (λ (p : StoredRow). row_cost_by d.format d.slot_length p) came q in
    let now = rose_is (length came + 2 + 1) (length (came ++ q ∷ []) + 2) pairs (cost_of d came + head_cost d v r.head + next) (cost_of d (came ++ q ∷ []) + next) a mid (omega (arith, long)) (omega (arith, more, head)) both in
    let rest : ReadInFewEach range (n + 1) ts ss rs (found ++ record { table = n; row = q } ∷ []) mid c = few_others range (n + 1) n ts ss rs found q mid c (omega arith)
    (few_shift range (n + 1) ts ss rs found few.0 b k c (let last = then.few in omega (arith, last)) few.2) in
    subst (λ (m : ℕ). ReadInFewEach range n (u ∷ ts) (v ∷ ss) (new ∷ rs) (found ++ record { table = m; row = q } ∷ []) a c) (sym here)
    (mid, subst (λ (l : List StoredRow). RoseBySearches (length l + 2) pairs (cost_of d l + next) a mid) (sym (table_same n found q)) now, rest)
few_set range n (suc i) (u ∷ ts) (v ∷ ss) (r ∷ rs) found t s old new h q a b c at_t at_s at is there one few =
    let d : Defs = defs_in u in
    let next : n + 1 + i ≡ n + suc i = omega arith in
    let off : n + suc i ≢ n = λ same. absurd (omega (arith, same)) in (
      few.0,
      subst (λ (came : List StoredRow). RoseBySearches (length came + 2) (length (listed d (suc range.key) v.rows)) (cost_of d came + head_cost d v r.head) a few.0) (sym (table_other n (n + suc i) found q off)) few.1,
      subst (λ (m : ℕ). ReadInFewEach range (n + 1) ts ss (set rs i new) (found ++ record { table = m; row = q } ∷ []) few.0 c) next (few_set range (n + 1) i ts ss rs found t s old new h q few.0 b c at_t at_s at is there one few.2),
    )

-- no row is read ahead any more
pub few_end : (range : Range) (n : ℕ) (ts : List OpenTable) (ss : List TableState) (rs : List Reading) (found : List MergedRow) (a b : ℕ) → AllByRecursion (λ (r : Reading). r.head ≡ None) rs → ReadInFewEach range n ts ss rs found a b → RoseByEach range n ts ss found a b
few_end range n [] [] [] found a b none few = few
few_end range n [] [] (r ∷ rs) found a b none few = elim few [ ]
few_end range n [] (s ∷ ss) rs found a b none few = elim few [ ]
few_end range n (t ∷ ts) [] rs found a b none few = elim few [ ]
few_end range n (t ∷ ts) (s ∷ ss) [] found a b none few = elim few [ ]
few_end range n (t ∷ ts) (s ∷ ss) (r ∷ rs) found a b none few =
    let d : Defs = defs_in t in
    let came : List StoredRow = of_table n found in
    let nothing : head_cost d s r.head ≡ 0 = ap (head_cost d s) none.0 in (
      few.0,
      rose_is (length came + 2) (length came + 2) (length (listed d (suc range.key) s.rows)) (cost_of d came + head_cost d s r.head) (cost_of d came) a few.0 refl (omega (arith, nothing)) few.1,
      few_end range (n + 1) ts ss rs found few.0 b none.1 few.2,
    )
