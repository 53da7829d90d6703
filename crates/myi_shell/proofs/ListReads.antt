-- What a read of a list finds is what its statement finds.
use Rattle.std.proofs.Common.{◌≡◌, ◌<◌, ◌+◌, ◌-◌, ◌++◌, [], ◌∷◌, ℕ, zero, suc, Bool, true, false, cond, List, map, filter, length, get_or, slice_get, Option, Some, None, refl, sym, ap, subst, ◌∙◌, arith, IsPermutation, IsSorted}
use Rattle.std.specs.List.{AllByRecursion}
use Rattle.std.specs.Prelude.{IfSome}
use Rattle.std.specs.Ordering.{nat_cmp, ordering_then, match_ordering, is_lt, is_gt}
use Rattle.std.specs.declared.cmp.Ordering.{Ordering}
use Rattle.std.specs.declared.cmp.Ordering.TheVariants.{Less, Equal, Greater}
use Rattle.std.proofs.lemmas.List.{map-append}
use Rattle.std.proofs.lemmas.List.Sorted.{IsPermutation-map}
use Rattle.myi_base.specs.Holding.{Holding}
use Rattle.myi_defs.specs.declared.types.Defs.{Defs}
use Rattle.myi_defs.specs.declared.types.Field.{Field}
use Rattle.myi_defs.specs.declared.types.Key.{Key}
use Rattle.myi_keys.specs.declared.values.KeySeg.{KeySeg}
use Rattle.myi_keys.specs.Order.{key_cmp}
use Rattle.myi_data.specs.Keys.{key_of, seg_of, segments_of}
use Rattle.myi_pack.specs.Packed.{Values}
use Rattle.myi_state.specs.State.{StoredRow, TableState}
use Rattle.myi_state.specs.Sound.{IsState}
use Rattle.myi_tablestate.specs.Matching.{Bounds, lies_between}
use Rattle.myi_script.specs.declared.types.Act.{Act}
use Rattle.myi_script.specs.declared.types.Act.TheVariants as act
use Rattle.myi_script.specs.declared.types.Range as script
use Rattle.myi_history.specs.Lines.{IsRange}
use Rattle.myi_history.specs.Reads as reads
use Rattle.myi_history.specs.Reads.{MergedRow, of_number, rows_from, place_of, place_cmp, put_by_place, by_place, merged_between, merged_found}
use Rattle.myi_history.proofs.CallerLemmas.{merged_once}
use Rattle.myi_table.specs.Table as table
use Rattle.myi_table.specs.Table.{OpenTable}
use Rattle.myi_table.specs.declared.ranges.Range.{Range}
use Rattle.myi_table.specs.Reading.{bounds_of}
use Rattle.myi_merge.specs.Merged.{OpenMerge, IsMerge, IsLike, HoldEach}
use Rattle.myi_merge.specs.Reading as list
use Rattle.myi_merge.specs.Reading.{answered, numbered, all_rows, merged_cmp, AreMerged, AnswersMerged}
use Rattle.myi_merge.proofs.CallerLemmas.{like_at}
use Rattle.myi_rounds.specs.Reads.{table_range}

-- ---- the rows of all tables

numbered_are : (n : ℕ) (rows : List StoredRow) → map answered (numbered n rows) ≡ map (of_number n) rows
numbered_are n [] = refl
numbered_are n (r ∷ rows) = ap (λ (rs : List MergedRow). of_number n r ∷ rs) (numbered_are n rows)

pub all_are : (n : ℕ) (ss : List TableState) → map answered (all_rows n ss) ≡ rows_from n ss
all_are n [] = refl
all_are n (s ∷ ss) = map-append answered (numbered n s.rows) (all_rows (n + 1) ss) ∙ ap (λ rs. rs ++ map answered (all_rows (n + 1) ss)) (numbered_are n s.rows) ∙ ap (λ rs. map (of_number n) s.rows ++ rs) (all_are (n + 1) ss)

filtered_are : (d : Defs) (k : ℕ) (bounds : Bounds) (rows : List list.MergedRow)
    → map answered (filter (λ (r : list.MergedRow). lies_between bounds (key_of d k r.row.values)) rows) ≡ filter (λ (r : MergedRow). lies_between bounds (key_of d k r.2)) (map answered rows)
filtered_are d k bounds [] = refl
filtered_are d k bounds (r ∷ rows) = by_test (lies_between bounds (key_of d k r.row.values)) refl (filtered_are d k bounds rows)
  where
    by_test : (b : Bool) → lies_between bounds (key_of d k r.row.values) ≡ b
        → map answered (filter (λ (q : list.MergedRow). lies_between bounds (key_of d k q.row.values)) rows) ≡ filter (λ (q : MergedRow). lies_between bounds (key_of d k q.2)) (map answered rows)
        → map answered (filter (λ (q : list.MergedRow). lies_between bounds (key_of d k q.row.values)) (r ∷ rows)) ≡ filter (λ (q : MergedRow). lies_between bounds (key_of d k q.2)) (map answered (r ∷ rows))
    by_test true is more = rw is (ap (λ (rs : List MergedRow). answered r ∷ rs) more)
    by_test false is more = rw is more

-- ---- order

then_match : (o p : Ordering) → ordering_then o p ≡ match_ordering o Less p Greater
then_match Less p = refl
then_match Equal p = refl
then_match Greater p = refl

cmp_same : (d : Defs) (k : ℕ) (r q : list.MergedRow) → place_cmp (place_of d k (answered r)) (place_of d k (answered q)) ≡ merged_cmp d k r q
cmp_same d k r q =
    then_match (key_cmp (key_of d k r.row.values) (key_of d k q.row.values)) (ordering_then (nat_cmp r.table q.table) (nat_cmp r.row.at q.row.at))
    ∙ ap (λ o. match_ordering (key_cmp (key_of d k r.row.values) (key_of d k q.row.values)) Less o Greater) (then_match (nat_cmp r.table q.table) (nat_cmp r.row.at q.row.at))

get_mapped : {A B : Type 0} (f : A → B) (xs : List A) (i : ℕ) (d : A) (e : B) → i < length xs → get_or (map f xs) i e ≡ f (get_or xs i d)
get_mapped f [] i d e lt = absurd (omega (arith, lt))
get_mapped f (x ∷ xs) zero d e lt = refl
get_mapped f (x ∷ xs) (suc i) d e lt = get_mapped f xs i d e (omega (arith, lt))

some_of : {A : Type 0} (xs : List A) → 0 < length xs → A
some_of [] some = absurd (omega (arith, some))
some_of (x ∷ xs) some = x

long_mapped : {A B : Type 0} (f : A → B) (xs : List A) → length (map f xs) ≡ length xs
long_mapped f [] = refl
long_mapped f (x ∷ xs) = ap suc (long_mapped f xs)

abbrev placed : Defs → ℕ → list.MergedRow → reads.MergedPlace
placed d k r = place_of d k (answered r)

placed_sorted : (d : Defs) (k : ℕ) (found : List list.MergedRow) → IsSorted (merged_cmp d k) found → IsSorted place_cmp (map (placed d k) found)
placed_sorted d k found order = λ i e low inside.
    let long = long_mapped (placed d k) found in
    let lt : i + 1 < length found = omega (arith, inside, long) in
    let d0 = some_of found (omega (arith, lt)) in
    let one = get_mapped (placed d k) found (i + 1) d0 e lt in
    let two = get_mapped (placed d k) found i d0 e (omega (arith, lt)) in
    ap (λ p. is_lt (place_cmp p (get_or (map (placed d k) found) i e))) one ∙ ap (λ p. is_lt (place_cmp (placed d k (get_or found (i + 1) d0)) p)) two
    ∙ ap is_lt (cmp_same d k (get_or found (i + 1) d0) (get_or found i d0)) ∙ order i d0 low lt

map_twice : (d : Defs) (k : ℕ) (found : List list.MergedRow) → map (place_of d k) (map answered found) ≡ map (placed d k) found
map_twice d k [] = refl
map_twice d k (r ∷ found) = ap (λ (ps : List reads.MergedPlace). placed d k r ∷ ps) (map_twice d k found)

-- ---- each state

pub each_state : (ts : List OpenTable) (ss : List TableState) (m : Holding) → HoldEach ts ss m → AllByRecursion (λ (s : TableState). (e : Defs) × IsState e s) ss
each_state [] [] m h = tt
each_state [] (s ∷ ss) m h = absurd h
each_state (t ∷ ts) [] m h = absurd h
each_state (t ∷ ts) (s ∷ ss) m h = ((table.defs_in t, h.0.files.table.table.state), each_state ts ss m h.1)

-- what a list finds is the rows that are defined so
merged_are : (d : Defs) (k : ℕ) (bounds : Bounds) (ss : List TableState) (found : List list.MergedRow) → AllByRecursion (λ (s : TableState). (e : Defs) × IsState e s) ss → AreMerged d k bounds ss found
    → map answered found ≡ merged_between d k bounds (rows_from 1 ss)
merged_are d k bounds ss found states are =
    let P : List reads.MergedPlace → Type 0 = λ ps. IsSorted place_cmp ps in
    let Q : List MergedRow → Type 0 = λ rs. IsPermutation rs (map answered found) in
    let same = IsPermutation-map answered (filter (λ (r : list.MergedRow). lies_between bounds (key_of d k r.row.values)) (all_rows 1 ss)) found are.same in
    merged_once d k bounds ss (map answered found) states
    (subst Q (filtered_are d k bounds (all_rows 1 ss) ∙ ap (λ rs. filter (λ (r : MergedRow). lies_between bounds (key_of d k r.2)) rs) (all_are 1 ss)) same)
    (subst P (sym (map_twice d k found)) (placed_sorted d k found are.order))

-- ---- tables that are alike have the same keys

key_like : (d e : Defs) (k : ℕ) (row : Values) → IsLike d e → key_of d k row ≡ key_of e k row
unfolding key_of
key_like d e k row like = ap (λ (fs : List Field). map (seg_of fs row) (segments_of d.keys k)) like.fields ∙ ap (λ (ks : List Key). map (seg_of e.fields row) (segments_of ks k)) like.keys

place_like : (d e : Defs) (k : ℕ) (r : MergedRow) → IsLike d e → place_of d k r ≡ place_of e k r
place_like d e k r like = ap (λ (key : List KeySeg). record { key = key; table = r.0; at = r.1 }) (key_like d e k r.2 like)

put_like : (d e : Defs) (k : ℕ) (r : MergedRow) (rows : List MergedRow) → IsLike d e → put_by_place d k r rows ≡ put_by_place e k r rows
put_like d e k r [] like = refl
put_like d e k r (q ∷ rows) like =
    ap (λ b. cond b (q ∷ put_by_place d k r rows) (r ∷ q ∷ rows)) (ap (λ p. is_gt (place_cmp p (place_of d k q))) (place_like d e k r like) ∙ ap (λ p. is_gt (place_cmp (place_of e k r) p)) (place_like d e k q like))
    ∙ ap (λ rs. cond (is_gt (place_cmp (place_of e k r) (place_of e k q))) (q ∷ rs) (r ∷ q ∷ rows)) (put_like d e k r rows like)

by_like : (d e : Defs) (k : ℕ) (rows : List MergedRow) → IsLike d e → by_place d k rows ≡ by_place e k rows
by_like d e k [] like = refl
by_like d e k (r ∷ rows) like = put_like d e k r (by_place d k rows) like ∙ ap (λ rs. put_by_place e k r rs) (by_like d e k rows like)

abbrev inside : Defs → ℕ → Bounds → List MergedRow → List MergedRow
inside d k bounds rows = filter (λ (r : MergedRow). lies_between bounds (key_of d k r.2)) rows

inside_like : (d e : Defs) (k : ℕ) (bounds : Bounds) (rows : List MergedRow) → IsLike d e → inside d k bounds rows ≡ inside e k bounds rows
inside_like d e k bounds [] like = refl
inside_like d e k bounds (r ∷ rows) like =
    ap (λ key. cond (lies_between bounds key) (r ∷ inside d k bounds rows) (inside d k bounds rows)) (key_like d e k r.2 like)
    ∙ ap (λ rs. cond (lies_between bounds (key_of e k r.2)) (r ∷ rs) rs) (inside_like d e k bounds rows like)

between_like : (d e : Defs) (k : ℕ) (bounds : Bounds) (rows : List MergedRow) → IsLike d e → merged_between d k bounds rows ≡ merged_between e k bounds rows
unfolding merged_between
between_like d e k bounds rows like = by_like d e k (inside d k bounds rows) like ∙ ap (by_place e k) (inside_like d e k bounds rows like)

-- ---- statements

pub list_scan : (d : Defs) (ss : List TableState) (o : Act) (found : List MergedRow) → o ≡ act.Scan → found ≡ map answered (all_rows 1 ss) → found ≡ merged_found d ss (Some o)
list_scan d ss o found is all = all ∙ all_are 1 ss ∙ ap (λ a. merged_found d ss (Some a)) (sym is)

-- any other finds nothing
pub list_nothing : (d : Defs) (ss : List TableState) (o : Act) → (o ≡ act.Scan → ⊥) → ((r : script.Range) → o ≡ act.Over r → ⊥) → ◌≡◌ {A = List MergedRow} [] (merged_found d ss (Some o))
list_nothing d ss act.Scan scan over = absurd (scan refl)
list_nothing d ss (act.Over range) scan over = absurd (over range refl)
list_nothing d ss (act.Insert row) scan over = refl
list_nothing d ss (act.Update at row) scan over = refl
list_nothing d ss (act.Delete at) scan over = refl
list_nothing d ss (act.Lock lock) scan over = refl
list_nothing d ss act.Unlock scan over = refl
list_nothing d ss act.Stats scan over = refl
list_nothing d ss act.End scan over = refl

key_back : (k : ℕ) → 0 < k → suc (k - 1) ≡ k
key_back k some = omega (arith, some)

pub list_range : (first d : Defs) (ts : List OpenTable) (ss : List TableState) (o : Act) (r : script.Range) (q : Range) (found : List MergedRow) (before after : ℕ)
    → o ≡ act.Over r → q ≡ table_range r → IsRange d r → IsLike first d → AllByRecursion (λ (s : TableState). (e : Defs) × IsState e s) ss → AnswersMerged first ts ss q before after found
    → found ≡ merged_found d ss (Some o)
list_range first d ts ss o r q found before after is asked range like states answers =
    let key : suc q.key ≡ r.key = ap (λ (x : Range). suc x.key) asked ∙ key_back r.key range.key.0 in
    let one : AreMerged first r.key (bounds_of q) ss answers.found = subst (λ k. AreMerged first k (bounds_of q) ss answers.found) key answers.merged in
    let two : AreMerged first r.key (reads.bounds_of r) ss answers.found = subst (λ (x : Range). AreMerged first r.key (bounds_of x) ss answers.found) asked one in
    answers.rows ∙ merged_are first r.key (reads.bounds_of r) ss answers.found states two ∙ between_like first d r.key (reads.bounds_of r) (rows_from 1 ss) like ∙ ap (λ a. merged_found d ss (Some a)) (sym is)

-- a range has a key of the first table too
pub key_of_range : (d : Defs) (r : script.Range) (q : Range) → q ≡ table_range r → IsRange d r → q.key < length d.keys
key_of_range d r q asked range =
    let low = range.key.0 in
    let high = range.key.1 in
    let same : q.key ≡ r.key - 1 = ap (λ (x : Range). x.key) asked in
    omega (arith, low, high, same)
