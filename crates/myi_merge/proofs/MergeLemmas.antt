-- The rows of several tables that were answered so far, least first.
use Rattle.std.proofs.Common.{◌≡◌, ◌≢◌, ℕ, zero, suc, ◌+◌, ◌<◌, ◌==◌, Bool, true, false, cond, Option, Some, None, List, [], ◌∷◌, ◌++◌, length, map, filter, set, slice_get, refl, sym, ap, subst, ◌∙◌, arith, IsPermutation}
use Rattle.std.specs.Prelude.{⊤, IsSome, IfSome, nat_lt}
use Rattle.std.specs.List.{AllByRecursion}
use Rattle.std.specs.Ordering.{is_lt, nat_cmp, ordering_then, match_ordering, ordering_reverse}
use Rattle.std.specs.declared.cmp.Ordering.{Ordering}
use Rattle.std.specs.declared.cmp.Ordering.TheVariants.{Less, Equal, Greater}
use Rattle.std.proofs.lemmas.Bool.Decides.{nat_tests}
use Rattle.std.proofs.lemmas.Option.{same_Some}
use Rattle.std.proofs.lemmas.List.{append-nil, map-append}
use Rattle.std.proofs.lemmas.List.Sorted.{IsPermutation-refl, IsPermutation-trans, IsPermutation-map, IsPermutation-append_left, IsPermutation-append_right}
use Rattle.myi_defs.specs.declared.types.Defs.{Defs}
use Rattle.myi_pack.specs.Packed.{Values}
use Rattle.myi_keys.specs.declared.values.KeySeg.{KeySeg}
use Rattle.myi_keys.specs.Order.{key_cmp}
use Rattle.myi_keys.specs.OrderLaws.{key_total}
use Rattle.myi_keylist.specs.PairOrder.{pair_cmp}
use Rattle.myi_data.specs.Keys.{key_of, segments_of, seg_of}
use Rattle.myi_state.specs.State.{StoredRow, TableState}
use Rattle.myi_state.specs.Sound.{IsRow}
use Rattle.myi_tablestate.specs.Matching.{Bounds, lies_between, placed_key, AreMatching}
use Rattle.myi_table.specs.declared.ranges.Range.{Range}
use Rattle.myi_base.specs.Holding.{Holding}
use Rattle.myi_table.specs.Table.{OpenTable, defs_in}
use Rattle.myi_table.specs.Reading.{IsSameReading, begun, bounds_of}
use Rattle.myi_merge.specs.declared.ranges.Head.{Head}
use Rattle.myi_merge.specs.declared.ranges.Reading.{Reading}
use Rattle.myi_merge.specs.Merged.{IsLike, IsSoundTable, HoldEach}
use Rattle.myi_merge.specs.Reading.{MergedRow, of_table, numbered, all_rows, placed_cmp, merged_cmp, AreMerged}
use Rattle.myi_merge.specs.Merging.{comes_before, IsNextOf, IsLeast, IsThere, Reads, ReadEach}
use Rattle.myi_merge.proofs.MergedLists.{Chain, IfLast, chain_push, last_push, last_weaker, sorted_chain, chain_sorted, of_kind, kind_push, chain_kinds, by_kinds, IsWithin, kinds_are_all}
use Rattle.myi_merge.proofs.FrameLemmas.{as_many}
use Rattle.myi_merge.proofs.ReadLemmas.{RowsMatch, reads_more, reads_all}

-- ---- rows by the numbers of their tables

abbrev pub number_of : MergedRow → ℕ
number_of r = r.table

-- and with its number they are those rows
table_again : (n : ℕ) (found : List MergedRow) → numbered n (of_table n found) ≡ of_kind number_of n found
table_again n [] = refl
table_again n (r ∷ found) = by (r.table == n) refl (table_again n found)
  where
    by : (b : Bool) → (r.table == n) ≡ b → numbered n (of_table n found) ≡ of_kind number_of n found
        → numbered n (map (λ (q : MergedRow). q.row) (cond b (r ∷ of_kind number_of n found) (of_kind number_of n found))) ≡ cond b (r ∷ of_kind number_of n found) (of_kind number_of n found)
    by true e more =
        let is : r.table ≡ n = grind (arith, nat_tests, e) in
        let one : ◌≡◌ {A = MergedRow} (record { table = n; row = r.row }) r = ap (λ (m : ℕ). record { table = m; row = r.row }) (sym is) in
        ap (λ (q : MergedRow). q ∷ numbered n (of_table n found)) one ∙ ap (λ (qs : List MergedRow). r ∷ qs) more
    by false e more = more

-- one row more, of that table or of another
pub table_same : (n : ℕ) (found : List MergedRow) (q : StoredRow) → of_table n (found ++ record { table = n; row = q } ∷ []) ≡ of_table n found ++ q ∷ []
table_same n found q =
    let x : MergedRow = record { table = n; row = q } in
    let itself : (n == n) ≡ true = grind (arith, nat_tests) in
    ap (map (λ (r : MergedRow). r.row)) (kind_push number_of n found x ∙ ap (λ (b : Bool). of_kind number_of n found ++ cond b (x ∷ []) []) itself)
    ∙ map-append (λ (r : MergedRow). r.row) (of_kind number_of n found) (x ∷ [])

pub table_other : (n m : ℕ) (found : List MergedRow) (q : StoredRow) → m ≢ n → of_table n (found ++ record { table = m; row = q } ∷ []) ≡ of_table n found
table_other n m found q apart =
    let x : MergedRow = record { table = m; row = q } in
    let off : (m == n) ≡ false = grind (arith, nat_tests, apart) in
    ap (map (λ (r : MergedRow). r.row)) (kind_push number_of n found x ∙ ap (λ (b : Bool). of_kind number_of n found ++ cond b (x ∷ []) []) off ∙ append-nil (of_kind number_of n found))

-- ---- the keys of tables that are alike

pub key_like : (d e : Defs) (k : ℕ) (row : Values) → IsLike d e → key_of e k row ≡ key_of d k row
unfolding key_of
key_like d e k row like = ap (λ fs. map (seg_of fs row) (segments_of e.keys k)) (sym like.fields) ∙ ap (λ ks. map (seg_of d.fields row) (segments_of ks k)) (sym like.keys)

-- ---- what holds while rows come

-- a row of a table with this key does not come before this one: its key is not less, and where it is the same the table's number is greater
abbrev pub ComesLater : Defs → ℕ → MergedRow → ℕ → List KeySeg → Type 0
ComesLater d k x n key = (is_lt (key_cmp key (key_of d k x.row.values)) ≡ false) × (key_cmp key (key_of d k x.row.values) ≡ Equal → x.table < n)

-- so it is of the next rows of all other tables
abbrev pub OthersLater : Defs → ℕ → MergedRow → ℕ → List Reading → Type 0
OthersLater d k x n [] = ⊤
OthersLater d k x n (r ∷ rs) = (x.table ≢ n → IfSome r.head (λ h. ComesLater d k x n h.key)) × OthersLater d k x (n + 1) rs

-- the second does not come before the first
abbrev pub Rises : Defs → ℕ → MergedRow → MergedRow → Type 0
Rises d k x y = is_lt (merged_cmp d k y x) ≡ false

pub record Merges (d : Defs) (range : Range) (ts : List OpenTable) (ss : List TableState) (rs : List Reading) (found : List MergedRow) : Type 0 where
  pub reads : ReadEach range 1 ts ss rs found
  pub rises : Chain (λ x y. x.table ≢ y.table → Rises d (suc range.key) x y) found
  pub last : IfLast (λ x. OthersLater d (suc range.key) x 1 rs) found
  pub within : AllByRecursion (λ (x : MergedRow). IsWithin 1 (length ts) x.table) found

-- ---- one row more

-- of the table at an index, whose number is that much further on
pub row_of_index : (range : Range) (n i : ℕ) (ts : List OpenTable) (ss : List TableState) (rs : List Reading) (found : List MergedRow) (r : Reading) → ReadEach range n ts ss rs found → slice_get rs i ≡ Some r
    → (t : OpenTable) × (s : TableState) × (slice_get ts i ≡ Some t) × (slice_get ss i ≡ Some s) × Reads (defs_in t) s (begun range) r (of_table (n + i) found)
row_of_index range n i [] [] [] found r each at = absurd cc
row_of_index range n i [] [] (q ∷ rs) found r each at = elim each [ ]
row_of_index range n i [] (s ∷ ss) rs found r each at = elim each [ ]
row_of_index range n i (t ∷ ts) [] rs found r each at = elim each [ ]
row_of_index range n i (t ∷ ts) (s ∷ ss) [] found r each at = elim each [ ]
row_of_index range n zero (t ∷ ts) (s ∷ ss) (q ∷ rs) found r each at =
    let same : q ≡ r = same_Some q r at in
    let here : n ≡ n + 0 = omega arith in
    (t, s, refl, refl, subst (λ (m : ℕ). Reads (defs_in t) s (begun range) r (of_table m found)) here (subst (λ (p : Reading). Reads (defs_in t) s (begun range) p (of_table n found)) same each.0))
row_of_index range n (suc i) (t ∷ ts) (s ∷ ss) (q ∷ rs) found r each at =
    let more = row_of_index range (n + 1) i ts ss rs found r each.1 at in
    let next : n + 1 + i ≡ n + suc i = omega arith in
    (more.0, more.1, more.2, more.3, subst (λ (m : ℕ). Reads (defs_in more.0) more.1 (begun range) r (of_table m found)) next more.4)

-- readings of tables behind the one whose row came
reads_others : (range : Range) (n m : ℕ) (ts : List OpenTable) (ss : List TableState) (rs : List Reading) (found : List MergedRow) (q : StoredRow) → m < n → ReadEach range n ts ss rs found → ReadEach range n ts ss rs (found ++ record { table = m; row = q } ∷ [])
reads_others range n m [] [] [] found q lt each = tt
reads_others range n m [] [] (r ∷ rs) found q lt each = each
reads_others range n m [] (s ∷ ss) rs found q lt each = each
reads_others range n m (t ∷ ts) [] rs found q lt each = each
reads_others range n m (t ∷ ts) (s ∷ ss) [] found q lt each = each
reads_others range n m (t ∷ ts) (s ∷ ss) (r ∷ rs) found q lt each = (
  subst (Reads (defs_in t) s (begun range) r) (sym (table_other n m found q (λ same. absurd (omega (arith, lt, same))))) each.0,
  reads_others range (n + 1) m ts ss rs found q (omega (arith, lt)) each.1,
)

reads_set : (range : Range) (n i : ℕ) (ts : List OpenTable) (ss : List TableState) (rs : List Reading) (found : List MergedRow) (t : OpenTable) (s : TableState) (new : Reading) (q : StoredRow) → ReadEach range n ts ss rs found → slice_get ts i ≡ Some t → slice_get ss i ≡ Some s
    → Reads (defs_in t) s (begun range) new (of_table (n + i) found ++ q ∷ []) → ReadEach range n ts ss (set rs i new) (found ++ record { table = n + i; row = q } ∷ [])
reads_set range n i [] [] [] found t s new q each at there now = absurd cc
reads_set range n i [] [] (r ∷ rs) found t s new q each at there now = elim each [ ]
reads_set range n i [] (u ∷ ss) rs found t s new q each at there now = elim each [ ]
reads_set range n i (u ∷ ts) [] rs found t s new q each at there now = elim each [ ]
reads_set range n i (u ∷ ts) (v ∷ ss) [] found t s new q each at there now = elim each [ ]
reads_set range n zero (u ∷ ts) (v ∷ ss) (r ∷ rs) found t s new q each at there now =
    let here : n + 0 ≡ n = omega arith in
    let table : t ≡ u = sym (same_Some u t at) in
    let state : s ≡ v = sym (same_Some v s there) in
    let one : Reads (defs_in u) v (begun range) new (of_table n (found ++ record { table = n; row = q } ∷ [])) =
    subst (Reads (defs_in u) v (begun range) new) (sym (table_same n found q))
    (subst (λ (m : ℕ). Reads (defs_in u) v (begun range) new (of_table m found ++ q ∷ [])) here
    (subst (λ (w : TableState). Reads (defs_in u) w (begun range) new (of_table (n + 0) found ++ q ∷ [])) state
    (subst (λ (w : OpenTable). Reads (defs_in w) s (begun range) new (of_table (n + 0) found ++ q ∷ [])) table now))) in
    subst (λ (m : ℕ). ReadEach range n (u ∷ ts) (v ∷ ss) (new ∷ rs) (found ++ record { table = m; row = q } ∷ [])) (sym here)
    (one, reads_others range (n + 1) n ts ss rs found q (omega arith) each.1)
reads_set range n (suc i) (u ∷ ts) (v ∷ ss) (r ∷ rs) found t s new q each at there now =
    let next : n + 1 + i ≡ n + suc i = omega arith in
    let off : n + suc i ≢ n = λ same. absurd (omega (arith, same)) in (
      subst (Reads (defs_in u) v (begun range) r) (sym (table_other n (n + suc i) found q off)) each.0,
      subst (λ (m : ℕ). ReadEach range (n + 1) ts ss (set rs i new) (found ++ record { table = m; row = q } ∷ [])) next
          (reads_set range (n + 1) i ts ss rs found t s new q each.1 at there (subst (λ (m : ℕ). Reads (defs_in t) s (begun range) new (of_table m found ++ q ∷ [])) (sym next) now)),
    )

-- ---- its place in the order

later_at : (d : Defs) (k : ℕ) (x : MergedRow) (n i : ℕ) (rs : List Reading) (r : Reading) → OthersLater d k x n rs → slice_get rs i ≡ Some r → x.table ≢ n + i → IfSome r.head (λ h. ComesLater d k x (n + i) h.key)
later_at d k x n i [] r all at apart = absurd cc
later_at d k x n zero (q ∷ rs) r all at apart =
    let here : n ≡ n + 0 = omega arith in
    subst (λ (m : ℕ). IfSome r.head (λ h. ComesLater d k x m h.key)) here (subst (λ (p : Reading). IfSome p.head (λ h. ComesLater d k x n h.key)) (same_Some q r at) (all.0 (λ same. apart (same ∙ here))))
later_at d k x n (suc i) (q ∷ rs) r all at apart =
    let next : n + 1 + i ≡ n + suc i = omega arith in
    subst (λ (m : ℕ). IfSome r.head (λ h. ComesLater d k x m h.key)) next (later_at d k x (n + 1) i rs r all.1 at (λ same. apart (same ∙ next)))

not_before : (o : Ordering) (a b at there : ℕ) → is_lt o ≡ false → (o ≡ Equal → b < a) → is_lt (match_ordering o Less (placed_cmp a at b there) Greater) ≡ false
not_before Less a b at there off more = absurd cc
not_before Equal a b at there off more = let lt : b < a = more refl in let up : nat_cmp a b ≡ Greater = grind (arith, nat_tests, lt) in ap (λ (o : Ordering). is_lt (match_ordering o Less (nat_cmp at there) Greater)) up
not_before Greater a b at there off more = refl

rises_by : (d : Defs) (k : ℕ) (x : MergedRow) (n : ℕ) (q : StoredRow) (key : List KeySeg) → key ≡ key_of d k q.values → ComesLater d k x n key → Rises d k x (record { table = n; row = q })
rises_by d k x n q key is later = not_before (key_cmp (key_of d k q.values) (key_of d k x.row.values)) n x.table q.at x.row.at (subst (λ (c : List KeySeg). is_lt (key_cmp c (key_of d k x.row.values)) ≡ false) is later.0) (λ same. later.1 (ap (λ (c : List KeySeg). key_cmp c (key_of d k x.row.values)) is ∙ same))

if_some : {A : Type 0} (P : A → Type 0) (o : Option A) (a : A) → o ≡ Some a → IfSome o P → P a
if_some {A} P o a is p = subst (λ (q : Option A). IfSome q P) is p

-- the other tables' next rows, by the one that is least
abbrev pub IsFirstOf : List Reading → ℕ → ℕ → List KeySeg → Type 0
IsFirstOf rs n at key = (i : ℕ) (r : Reading) → slice_get rs i ≡ Some r → n + i ≢ at → IfSome r.head (λ h. (is_lt (key_cmp h.key key) ≡ false) × (key_cmp h.key key ≡ Equal → at < n + i))

others_by : (d : Defs) (k : ℕ) (x : MergedRow) (n : ℕ) (rs : List Reading) (key : List KeySeg) → key ≡ key_of d k x.row.values → IsFirstOf rs n x.table key → OthersLater d k x n rs
others_by d k x n [] key is first = tt
others_by d k x n (r ∷ rs) key is first = (
  λ apart.
      let here : n + 0 ≡ n = omega arith in
      let off : n + 0 ≢ x.table = λ same. apart (sym same ∙ here) in
      subst (λ (m : ℕ). IfSome r.head (λ h. ComesLater d k x m h.key)) here (subst (λ (c : List KeySeg). IfSome r.head (λ h. (is_lt (key_cmp h.key c) ≡ false) × (key_cmp h.key c ≡ Equal → x.table < n + 0))) is (first 0 r refl off)),
  others_by d k x (n + 1) rs key is (λ i q at apart.
      let next : n + 1 + i ≡ n + suc i = omega arith in
      subst (λ (m : ℕ). IfSome q.head (λ h. (is_lt (key_cmp h.key key) ≡ false) × (key_cmp h.key key ≡ Equal → x.table < m))) (sym next) (first (suc i) q at (λ same. apart (next ∙ same)))),
)

is_less : (o : Ordering) → is_lt o ≡ true → o ≡ Less
is_less Less e = refl
is_less Equal e = absurd cc
is_less Greater e = absurd cc

-- where the least is taken and another one stands in its place, what is said of the others holds still
first_set : (rs : List Reading) (i : ℕ) (h : Head) (new : Reading) → (l : IsLeast rs i) → l.least.head ≡ Some h → IsFirstOf (set rs i new) 1 (1 + i) h.key
first_set rs i h new l is = λ j r at apart.
    let off : j ≢ i = λ same. apart (ap (λ (m : ℕ). 1 + m) same) in
    by j r (elsewhere rs i j new r at off) off r.head refl
  where
    elsewhere : (qs : List Reading) (a b : ℕ) (p r : Reading) → slice_get (set qs a p) b ≡ Some r → b ≢ a → slice_get qs b ≡ Some r
    elsewhere [] a b p r at apart = at
    elsewhere (q ∷ qs) zero zero p r at apart = absurd (apart refl)
    elsewhere (q ∷ qs) zero (suc b) p r at apart = at
    elsewhere (q ∷ qs) (suc a) zero p r at apart = at
    elsewhere (q ∷ qs) (suc a) (suc b) p r at apart = elsewhere qs a b p r at (λ same. apart (ap suc same))

    less_by : (j : ℕ) (r : Reading) (g : Head) → r.head ≡ Some g → slice_get rs j ≡ Some r → j ≢ i → key_cmp g.key h.key ≡ Equal → (b : Bool) → nat_lt j i ≡ b → 1 + i < 1 + j
    less_by j r g e at apart same false low = grind (arith, nat_tests, low, apart)
    less_by j r g e at apart same true low =
        let before : j < i = grind (arith, nat_tests, low) in
        let less : comes_before l.least.head r.head ≡ true = l.none j r before at (subst IsSome (sym e) refl) in
        let up : is_lt (key_cmp h.key g.key) ≡ true = subst (λ (o : Option Head). comes_before o (Some g) ≡ true) is (subst (λ (o : Option Head). comes_before l.least.head o ≡ true) e less) in
        let turned : key_cmp g.key h.key ≡ Greater = key_total.antisymm g.key h.key ∙ ap ordering_reverse (is_less (key_cmp h.key g.key) up) in
        absurd (let bad : Equal ≡ Greater = sym same ∙ turned in cc)

    by : (j : ℕ) (r : Reading) → slice_get rs j ≡ Some r → j ≢ i → (o : Option Head) → r.head ≡ o → IfSome o (λ g. (is_lt (key_cmp g.key h.key) ≡ false) × (key_cmp g.key h.key ≡ Equal → 1 + i < 1 + j))
    by j r at apart None e = tt
    by j r at apart (Some g) e = (
      subst (λ (o : Option Head). comes_before (Some g) o ≡ false) is (subst (λ (o : Option Head). comes_before o l.least.head ≡ false) e (l.first j r at)),
      λ same. less_by j r g e at apart same (nat_lt j i) refl,
    )

-- ---- steps

-- no row came
pub merges_none : (d : Defs) (range : Range) (ts : List OpenTable) (ss : List TableState) (rs : List Reading) → ReadEach range 1 ts ss rs [] → Merges d range ts ss rs []
merges_none d range ts ss rs each = record { reads = each; rises = tt; last = tt; within = tt }

inside : {A : Type 0} (xs : List A) (i : ℕ) (x : A) → slice_get xs i ≡ Some x → i < length xs
inside [] i x at = absurd cc
inside (y ∷ xs) zero x at = omega arith
inside (y ∷ xs) (suc i) x at = let more = inside xs i x at in omega (arith, more)

all_push : {A : Type 0} (P : A → Type 0) (xs : List A) (x : A) → AllByRecursion P xs → P x → AllByRecursion P (xs ++ x ∷ [])
all_push P [] x all p = (p, tt)
all_push P (y ∷ ys) x all p = (all.0, all_push P ys x all.1 p)

all_last : {A : Type 0} (P : A → Type 0) (xs : List A) (x : A) → AllByRecursion P (xs ++ x ∷ []) → P x
all_last P [] x all = all.0
all_last P (y ∷ ys) x all = all_last P ys x all.1

-- what is known of the table and the state at an index
abbrev pub AtIndex : List OpenTable → List TableState → ℕ → (OpenTable → TableState → Type 0) → Type 0
AtIndex ts ss i P = (t : OpenTable) (s : TableState) → slice_get ts i ≡ Some t → slice_get ss i ≡ Some s → P t s

-- the least of the next rows came
pub merges_more : (d : Defs) (range : Range) (ts : List OpenTable) (ss : List TableState) (rs : List Reading) (i : ℕ) (found : List MergedRow) (old new : Reading) (h : Head) → slice_get rs i ≡ Some old → old.head ≡ Some h → IsLeast rs i
    → IsSameReading old.rows new.rows → AtIndex ts ss i (λ t s. AllByRecursion (IsRow (defs_in t)) s.rows) → AtIndex ts ss i (λ t s. IsLike d (defs_in t)) → AtIndex ts ss i (λ t s. IsNextOf (defs_in t) s old.rows new.rows new.head) → Merges d range ts ss rs found
    → (q : StoredRow) × (q.at ≡ h.at) × (q.values ≡ h.row) × AtIndex ts ss i (λ t s. IsThere s q) × Merges d range ts ss (set rs i new) (found ++ record { table = 1 + i; row = q } ∷ [])
merges_more d range ts ss rs i found old new h at head l same rows like next m =
    let k : ℕ = suc range.key in
    let o = row_of_index range 1 i ts ss rs found old m.reads at in
    let t : OpenTable = o.0 in
    let s : TableState = o.1 in
    let more = reads_more (defs_in t) s (begun range) old new (of_table (1 + i) found) h (rows t s o.2 o.3) head o.4 same (next t s o.2 o.3) in
    let q : StoredRow = more.0 in
    let x : MergedRow = record { table = 1 + i; row = q } in
    let key : h.key ≡ key_of d k q.values = more.3 ∙ key_like d (defs_in t) k q.values (like t s o.2 o.3) in
    let least_head : l.least.head ≡ Some h = ap (λ (r : Reading). r.head) (same_Some l.least old (sym l.stands ∙ at)) ∙ head in (
      q,
      more.1,
      more.2,
      λ u v at_u at_v. subst (λ (w : TableState). IsThere w q) (same_Some s v (sym o.3 ∙ at_v)) (all_last (IsThere s) (of_table (1 + i) found) q more.4.there),
      record {
        reads = reads_set range 1 i ts ss rs found t s new q m.reads o.2 o.3 more.4;
        rises = chain_push (λ v w. v.table ≢ w.table → Rises d k v w) found x m.rises
            (last_weaker (λ w. OthersLater d k w 1 rs) (λ w. w.table ≢ 1 + i → Rises d k w x) (λ w all apart. rises_by d k w (1 + i) q h.key key (if_some (λ g. ComesLater d k w (1 + i) g.key) old.head h head (later_at d k w 1 i rs old all at apart))) found m.last);
        last = last_push (λ w. OthersLater d k w 1 (set rs i new)) found x (others_by d k x 1 (set rs i new) h.key key (first_set rs i h new l least_head));
        within = all_push (λ (w : MergedRow). IsWithin 1 (length ts) w.table) found x m.within (let lt = inside ts i t o.2 in (omega arith, omega (arith, lt)));
      },
    )

-- ---- all rows

-- the rows of each table that came are those that match
abbrev pub MatchEach : Range → ℕ → List OpenTable → List TableState → List MergedRow → Type 0
MatchEach range n [] [] found = ⊤
MatchEach range n [] (s ∷ ss) found = ⊥
MatchEach range n (t ∷ ts) [] found = ⊥
MatchEach range n (t ∷ ts) (s ∷ ss) found = AreMatching (defs_in t) (suc range.key) (bounds_of range) s.rows (of_table n found) × MatchEach range (n + 1) ts ss found

match_each : RowsMatch → (range : Range) (n : ℕ) (ts : List OpenTable) (ss : List TableState) (rs : List Reading) (found : List MergedRow) (m : Holding) → AllByRecursion IsSoundTable ts → HoldEach ts ss m → AllByRecursion (λ (r : Reading). r.head ≡ None) rs
    → ReadEach range n ts ss rs found → MatchEach range n ts ss found
match_each law range n [] [] rs found m sound h none each = tt
match_each law range n [] (s ∷ ss) rs found m sound h none each = elim h [ ]
match_each law range n (t ∷ ts) [] rs found m sound h none each = elim h [ ]
match_each law range n (t ∷ ts) (s ∷ ss) [] found m sound h none each = elim each [ ]
match_each law range n (t ∷ ts) (s ∷ ss) (r ∷ rs) found m sound h none each = (
  reads_all law (defs_in t) s range r (of_table n found) sound.0.sound h.0.files.table.table none.0 each.0,
  match_each law range (n + 1) ts ss rs found m sound.1 h.1 none.1 each.1,
)

abbrev Matches : Defs → ℕ → Bounds → MergedRow → Bool
Matches d k bounds r = lies_between bounds (key_of d k r.row.values)

filter_both : {A : Type 0} (p : A → Bool) (xs ys : List A) → filter p (xs ++ ys) ≡ filter p xs ++ filter p ys
filter_both p [] ys = refl
filter_both {A} p (x ∷ xs) ys = by (p x) (filter_both p xs ys)
  where
    by : (b : Bool) → filter p (xs ++ ys) ≡ filter p xs ++ filter p ys → cond b (x ∷ filter p (xs ++ ys)) (filter p (xs ++ ys)) ≡ cond b (x ∷ filter p xs) (filter p xs) ++ filter p ys
    by true e = ap (λ (l : List A). x ∷ l) e
    by false e = e

numbered_kept : (d e : Defs) (k : ℕ) (bounds : Bounds) (n : ℕ) (rows : List StoredRow) → IsLike d e → filter (Matches d k bounds) (numbered n rows) ≡ numbered n (filter (λ (r : StoredRow). lies_between bounds (key_of e k r.values)) rows)
numbered_kept d e k bounds n [] like = refl
numbered_kept d e k bounds n (r ∷ rows) like =
    let x : MergedRow = record { table = n; row = r } in
    let kept : List StoredRow = filter (λ (q : StoredRow). lies_between bounds (key_of e k q.values)) rows in
    ap (λ (c : List KeySeg). cond (lies_between bounds c) (x ∷ filter (Matches d k bounds) (numbered n rows)) (filter (Matches d k bounds) (numbered n rows))) (sym (key_like d e k r.values like))
    ∙ ap (λ (l : List MergedRow). cond (lies_between bounds (key_of e k r.values)) (x ∷ l) l) (numbered_kept d e k bounds n rows like)
    ∙ by (lies_between bounds (key_of e k r.values)) kept
  where
    by : (b : Bool) (kept : List StoredRow) → cond b (record { table = n; row = r } ∷ numbered n kept) (numbered n kept) ≡ numbered n (cond b (r ∷ kept) kept)
    by true kept = refl
    by false kept = refl

same_each : (d : Defs) (range : Range) (n : ℕ) (ts : List OpenTable) (ss : List TableState) (found : List MergedRow) → AllByRecursion (λ (t : OpenTable). IsLike d (defs_in t)) ts → MatchEach range n ts ss found
    → IsPermutation (filter (Matches d (suc range.key) (bounds_of range)) (all_rows n ss)) (by_kinds number_of n (length ss) found)
same_each d range n [] [] found like each = IsPermutation-refl []
same_each d range n [] (s ∷ ss) found like each = elim each [ ]
same_each d range n (t ∷ ts) [] found like each = elim each [ ]
same_each d range n (t ∷ ts) (s ∷ ss) found like each =
    let k : ℕ = suc range.key in
    let bounds : Bounds = bounds_of range in
    let test : MergedRow → Bool = Matches d k bounds in
    let kept : List StoredRow = filter (λ (r : StoredRow). lies_between bounds (key_of (defs_in t) k r.values)) s.rows in
    let rest : List MergedRow = filter test (all_rows (n + 1) ss) in
    let here : List MergedRow = of_kind number_of n found in
    let one : IsPermutation (numbered n kept) here = subst (IsPermutation (numbered n kept)) (table_again n found) (IsPermutation-map (λ (r : StoredRow). record { table = n; row = r }) kept (of_table n found) each.0.same) in
    let parts : filter test (numbered n s.rows ++ all_rows (n + 1) ss) ≡ numbered n kept ++ rest = filter_both test (numbered n s.rows) (all_rows (n + 1) ss) ∙ ap (λ (l : List MergedRow). l ++ rest) (numbered_kept d (defs_in t) k bounds n s.rows like.0) in
    subst (λ (l : List MergedRow). IsPermutation l (here ++ by_kinds number_of (n + 1) (length ss) found)) (sym parts)
    (IsPermutation-trans (numbered n kept ++ rest) (here ++ rest) (here ++ by_kinds number_of (n + 1) (length ss) found)
    (IsPermutation-append_left rest (numbered n kept) here one)
    (IsPermutation-append_right here rest (by_kinds number_of (n + 1) (length ss) found) (same_each d range (n + 1) ts ss found like.1 each.1)))

-- ---- the order of all rows

one_table : (c : Ordering) (a b at there : ℕ) → a ≡ b → match_ordering c Less (placed_cmp a at b there) Greater ≡ ordering_then c (nat_cmp at there)
one_table c a b at there same = by c (let e : nat_cmp a b ≡ Equal = grind (arith, nat_tests, same) in e)
  where
    by : (c : Ordering) → nat_cmp a b ≡ Equal → match_ordering c Less (placed_cmp a at b there) Greater ≡ ordering_then c (nat_cmp at there)
    by Less e = refl
    by Equal e = ap (λ (o : Ordering). match_ordering o Less (nat_cmp at there) Greater) e
    by Greater e = refl

chain_table : (d e : Defs) (k n : ℕ) (xs : List MergedRow) → IsLike d e → AllByRecursion (λ (x : MergedRow). x.table ≡ n) xs → Chain (λ p q. is_lt (pair_cmp q p) ≡ false) (map (placed_key e k) (map (λ (r : MergedRow). r.row) xs)) → Chain (Rises d k) xs
chain_table d e k n [] like all c = tt
chain_table d e k n (x ∷ []) like all c = tt
chain_table d e k n (x ∷ y ∷ xs) like all c = (
  ap is_lt (ap (λ (o : Ordering). match_ordering o Less (placed_cmp y.table y.row.at x.table x.row.at) Greater) (ap (λ (a : List KeySeg). key_cmp a (key_of d k x.row.values)) (sym (key_like d e k y.row.values like)) ∙ ap (λ (a : List KeySeg). key_cmp (key_of e k y.row.values) a) (sym (key_like d e k x.row.values like)))
      ∙ one_table (key_cmp (key_of e k y.row.values) (key_of e k x.row.values)) y.table x.table y.row.at x.row.at (all.1.0 ∙ sym all.0)) ∙ c.0,
  chain_table d e k n (y ∷ xs) like all.1 c.1,
)

all_of_kind : (n : ℕ) (xs : List MergedRow) → AllByRecursion (λ (x : MergedRow). x.table ≡ n) (of_kind number_of n xs)
all_of_kind n [] = tt
all_of_kind n (x ∷ xs) = by (x.table == n) refl (all_of_kind n xs)
  where
    by : (b : Bool) → (x.table == n) ≡ b → AllByRecursion (λ (y : MergedRow). y.table ≡ n) (of_kind number_of n xs) → AllByRecursion (λ (y : MergedRow). y.table ≡ n) (cond b (x ∷ of_kind number_of n xs) (of_kind number_of n xs))
    by true e all = (grind (arith, nat_tests, e), all)
    by false e all = all

chain_each : (d : Defs) (range : Range) (n : ℕ) (ts : List OpenTable) (ss : List TableState) (found : List MergedRow) → AllByRecursion (λ (t : OpenTable). IsLike d (defs_in t)) ts → MatchEach range n ts ss found → (k : ℕ) → IsWithin n (length ts) k → Chain (Rises d (suc range.key)) (of_kind number_of k found)
chain_each d range n [] ss found like each k within = absurd (let low = within.0 in let high = within.1 in omega (arith, low, high))
chain_each d range n (t ∷ ts) [] found like each k within = elim each [ ]
chain_each d range n (t ∷ ts) (s ∷ ss) found like each k within = by (k == n) refl (λ inside. chain_each d range (n + 1) ts ss found like.1 each.1 k inside)
  where
    by : (b : Bool) → (k == n) ≡ b → (IsWithin (n + 1) (length ts) k → Chain (Rises d (suc range.key)) (of_kind number_of k found)) → Chain (Rises d (suc range.key)) (of_kind number_of k found)
    by true e more =
        let is : k ≡ n = grind (arith, nat_tests, e) in
        subst (λ (m : ℕ). Chain (Rises d (suc range.key)) (of_kind number_of m found)) (sym is)
        (chain_table d (defs_in t) (suc range.key) n (of_kind number_of n found) like.0 (all_of_kind n found) (chain_sorted pair_cmp (map (placed_key (defs_in t) (suc range.key)) (of_table n found)) each.0.order))
    by false e more =
        let apart : k ≢ n = grind (arith, nat_tests, e) in
        let low = within.0 in
        let high = within.1 in
        more (grind (arith, low, apart), omega (arith, high))

-- no row is to come any more
pub merges_all : RowsMatch → (d : Defs) (range : Range) (ts : List OpenTable) (ss : List TableState) (rs : List Reading) (found : List MergedRow) (m : Holding) → AllByRecursion IsSoundTable ts → HoldEach ts ss m → AllByRecursion (λ (t : OpenTable). IsLike d (defs_in t)) ts
    → AllByRecursion (λ (r : Reading). r.head ≡ None) rs → Merges d range ts ss rs found → AreMerged d (suc range.key) (bounds_of range) ss found
merges_all law d range ts ss rs found m sound h like none merges =
    let each : MatchEach range 1 ts ss found = match_each law range 1 ts ss rs found m sound h none merges.reads in
    let many : length ss ≡ length ts = as_many ts ss m h in
    record {
      same = IsPermutation-trans (filter (Matches d (suc range.key) (bounds_of range)) (all_rows 1 ss)) (by_kinds number_of 1 (length ss) found) found (same_each d range 1 ts ss found like each)
          (kinds_are_all number_of 1 (length ss) found (subst (λ (n : ℕ). AllByRecursion (λ (x : MergedRow). IsWithin 1 n x.table) found) (sym many) merges.within));
      order = sorted_chain (merged_cmp d (suc range.key)) found (chain_kinds (Rises d (suc range.key)) number_of (IsWithin 1 (length ts)) found merges.within merges.rises (chain_each d range 1 ts ss found like each));
    }
