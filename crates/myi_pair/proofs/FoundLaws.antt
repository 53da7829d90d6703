-- Nothing is found in a pair of files exactly where it is clean.
use Rattle.std.proofs.Common.{◌≡◌, ℕ, zero, suc, ◌+◌, ◌-◌, ◌/◌, ◌%◌, ◌^◌, ◌<◌, ◌≤◌, Bool, true, false, cond, ◌&&◌, ◌||◌, eqb, not, nat_le, nat_lt, List, [], ◌∷◌, ◌++◌, length, map, take, drop, replicate, Option, Some, None, Ok, refl, sym, ap, subst, ◌∙◌, arith, length-drop}
use Rattle.std.specs.Prelude.{is_none}
use Rattle.std.specs.Option.{option_map, option_map_or, option_to_list}
use Rattle.std.specs.List.{AllByRecursion, flat_map, list_any}
use Rattle.std.proofs.Math.Nat.{pow-le-pow_right, div-eq_of_lt}
use Rattle.std.proofs.lemmas.Bool.{and_from, and_parts, eqb-true, eq-eqb, leb-true, lt-ltb}
use Rattle.std.proofs.lemmas.List.{length-map}
use Rattle.std.proofs.lemmas.List.Sorted.{sum_by-IsPermutation}
use Rattle.std.proofs.lemmas.List.Sums.{sum_by-cons, sum_by-append}
use Rattle.myi_base.specs.Ranges.{Range}
use Rattle.myi_base.specs.Numbers.{pointer_of}
use Rattle.myi_base.specs.Items.{numbers}
use Rattle.myi_defs.specs.declared.types.RowFormat.{RowFormat}
use Rattle.myi_defs.specs.declared.types.RowFormat.TheVariants.{Static, Dynamic}
use Rattle.myi_defs.specs.declared.types.Defs.{Defs}
use Rattle.myi_defs.specs.ReadDefs.{read_defs}
use Rattle.myi_defs.specs.Addressable.{pointers, is_addressable}
use Rattle.myi_defs.specs.Sound.{IsSound}
use Rattle.myi_defs.proofs.CallerLemmas.{sound, are_defs}
use Rattle.myi_header.specs.Layout.{first_page_of}
use Rattle.myi_header.specs.StateOf.{state_of, has_mark}
use Rattle.myi_frames.specs.Block.{Block, block_of}
use Rattle.myi_pack.specs.Packed.{Values}
use Rattle.myi_keys.specs.declared.values.KeySeg.{KeySeg}
use Rattle.myi_keycache.specs.Lent.{bytes_at}
use Rattle.myi_keylist.specs.declared.pair.Pair.{Pair}
use Rattle.myi_keylist.specs.PairOrder.{sorted}
use Rattle.myi_keylist.specs.Repeats.{is_same_key, AreApart, keys_of}
use Rattle.myi_keylist.proofs.CallerLemmas.{apart}
use Rattle.myi_chain.specs.Readable.{Row}
use Rattle.myi_chain.specs.Meeting.{ranges_of}
use Rattle.myi_data.specs.Readable.{readable, deleted}
use Rattle.myi_data.specs.Keys.{IsKeyNumber, key_of}
use Rattle.myi_btree.specs.Walk.{◌>>=◌, Node, Walked}
use Rattle.myi_btree.specs.Nodes.{node_in}
use Rattle.myi_btree.specs.Visit.{page_range}
use Rattle.myi_btree.specs.Events.{Event, first_bad, pairs_in, pages_in, walked_in}
use Rattle.myi_btree.specs.TreeEvents.{AreWithin}
use Rattle.myi_btree.proofs.CallerLemmas.{at_shape}
use Rattle.myi_pair.specs.declared.finding.Finding.TheVariants as finding
use Rattle.myi_pair.specs.FirstRows.{numbers_from, key_numbers, is_unique, repeats, AreDistinct}
use Rattle.myi_pair.specs.KeyList.{PlacedRow, pairs_of, key_list}
use Rattle.myi_pair.specs.Trees.{block_of_key, node_at, pages_on, HasWalkApart, HaveWalks, AreKeyLists, all_pages, total}
use Rattle.myi_pair.specs.Clean.{values_of, placed_row, covers, next_deleted, NamesByFormat, Follows, ListsDeleted, IsClean}
use Rattle.myi_pair.specs.FirstBad.{walk_bad}
use Rattle.myi_pair.specs.Findings.{met_in, walk_pages, KeyWalk, key_walk, key_walks, all_walks, all_walk, page_bytes, header_tests, header_bad, same_link, names_by, names_before, deleted_places, deleted_bad, key_bad, key_findings, keys_bad, held, rows_bad, told, findings}
use Rattle.myi_pair.proofs.FirstBadLaws.{all_passed, passed_all, none_gap, gap_none, Runs, list_none, none_list, Fresh, without_pages, IsMet, walk_none, none_walk}
use Rattle.myi_pair.proofs.DistinctLaws.{fresh_none, none_fresh, plain_fresh, apart_none, Among, all_at, all_from, Distinct, distinct_apart, apart_distinct}
use Rattle.myi_pair.proofs.MetLaws.{MeetsAll, met_walk, walk_met}
use Rattle.myi_pair.proofs.SizedLaws.{placed}
use Rattle.myi_pair.specs.RecoveredBytes.{new_data, new_index}
use Rattle.myi_pair.specs.Recovered.{IsRepairable}
use Rattle.myi_pair.proofs.RebuiltLaws.{same_defs}
use Rattle.myi_pair.proofs.RecoveredLaws.{recovered}

-- ---- one tree

-- pages stand in the file
within : (rec_ref block : ℕ) (x : List ℕ) → 0 < block → AreWithin (length x) block (node_at rec_ref block x)
unfolding node_at bytes_at
within rec_ref block x some = λ at node e. by (eqb (at % 1024) 0) at node e
  where
    here : (at : ℕ) (b : Bool) → nat_le block (length (drop at x)) ≡ b → (node : Node) → (cond b (Some (take block (drop at x))) None >>= node_in rec_ref) ≡ Some node → at + block ≤ length x
    here at true e node is = omega (arith, leb-true _ _ e, length-drop at x, some)
    here at false e node is = absurd cc

    by : (b : Bool) (at : ℕ) (node : Node) → cond b (bytes_at x at block >>= node_in rec_ref) None ≡ Some node → at + block ≤ length x
    by true at node e = here at (nat_le block (length (drop at x))) refl node e
    by false at node e = absurd cc

pub block_some : (d : Defs) (k : ℕ) → IsSound d → IsKeyNumber d k → 0 < block_of_key d k
block_some d k s inside = omega (arith, (placed d s k inside).least)

pages_are : (block : ℕ) (es : List Event) → first_bad es ≡ None → walk_pages block es ≡ map (page_range block) (pages_in es)
pages_are block es none = ap (λ (o : Option ℕ). cond (is_none o) (map (page_range block) (pages_in es)) []) none

pub tree_found : (d : Defs) (k : ℕ) (x : List ℕ) (root : Option ℕ) (busy : List Range) → 0 < block_of_key d k → first_bad (met_in d k x root busy) ≡ None → HasWalkApart d k x root busy (walked_in (met_in d k x root busy))
tree_found d k x None busy some none = refl
tree_found d k x (Some root) busy some none =
    let block : ℕ = block_of_key d k in
    let w = met_walk (length x) block (node_at d.rec_ref block x) root busy some (within d.rec_ref block x some) (at_shape d.rec_ref block x) none in
    (w.has, w.free)

pub found_tree : (d : Defs) (k : ℕ) (x : List ℕ) (root : Option ℕ) (busy : List Range) (w : Walked) → 0 < block_of_key d k → HasWalkApart d k x root busy w → MeetsAll (block_of_key d k) w (met_in d k x root busy)
found_tree d k x None busy w some h = record { none = refl; is = sym h }
found_tree d k x (Some root) busy w some h =
    let block : ℕ = block_of_key d k in
    walk_met (length x) block (node_at d.rec_ref block x) root busy w some (within d.rec_ref block x some) (at_shape d.rec_ref block x) h.0 h.1

-- ---- all trees

abbrev pub walk_in : KeyWalk → Walked
walk_in w = walked_in w.events

abbrev pub IsWhole : KeyWalk → Type 0
IsWhole w = first_bad w.events ≡ None

-- what a walk meets are the pairs of the key list
abbrev HasList : Defs → List PlacedRow → KeyWalk → Type 0
HasList d rows w = without_pages (pairs_in w.events) ≡ key_list d w.key rows

-- a walk meets no bad place, and the pairs of the key list
abbrev IsMetAs : Defs → List PlacedRow → KeyWalk → Type 0
IsMetAs d rows w = IsWhole w × HasList d rows w

pub walks_found : (d : Defs) (x : List ℕ) (busy : List Range) (ks : List ℕ) (roots : List (Option ℕ)) → IsSound d → AllByRecursion (IsKeyNumber d) ks → length ks ≡ length roots
    → AllByRecursion IsWhole (key_walks d x busy ks roots) → HaveWalks d x busy ks roots (map walk_in (key_walks d x busy ks roots))
walks_found d x busy [] [] s inside long all = (refl, refl)
walks_found d x busy [] (root ∷ roots) s inside long all = absurd (omega (arith, long))
walks_found d x busy (k ∷ ks) [] s inside long all = absurd (omega (arith, long))
walks_found d x busy (k ∷ ks) (root ∷ roots) s inside long all =
    let es : List Event = met_in d k x root busy in
    let more = walks_found d x (busy ++ walk_pages (block_of_key d k) es) ks roots s inside.1 (omega (arith, long)) all.1 in (
      tree_found d k x root busy (block_some d k s inside.0) all.0,
      subst (λ (ps : List Range). HaveWalks d x (busy ++ ps) ks roots (map walk_in (key_walks d x (busy ++ walk_pages (block_of_key d k) es) ks roots))) (pages_are (block_of_key d k) es all.0) more,
    )

lists_found : (d : Defs) (x : List ℕ) (rows : List PlacedRow) (busy : List Range) (ks : List ℕ) (roots : List (Option ℕ)) → length ks ≡ length roots → AllByRecursion (HasList d rows) (key_walks d x busy ks roots) → AreKeyLists d rows ks (map walk_in (key_walks d x busy ks roots))
lists_found d x rows busy [] roots long all = refl
lists_found d x rows busy (k ∷ ks) [] long all = absurd (omega (arith, long))
lists_found d x rows busy (k ∷ ks) (root ∷ roots) long all = (all.0, lists_found d x rows (busy ++ walk_pages (block_of_key d k) (met_in d k x root busy)) ks roots (omega (arith, long)) all.1)

pub found_walks : (d : Defs) (x : List ℕ) (busy : List Range) (ks : List ℕ) (roots : List (Option ℕ)) (ws : List Walked) → IsSound d → AllByRecursion (IsKeyNumber d) ks → HaveWalks d x busy ks roots ws
    → AllByRecursion IsWhole (key_walks d x busy ks roots) × (ws ≡ map walk_in (key_walks d x busy ks roots))
found_walks d x busy [] roots ws s inside have = (tt, have.1)
found_walks d x busy (k ∷ ks) [] ws s inside have = absurd have
found_walks d x busy (k ∷ ks) (root ∷ roots) [] s inside have = absurd have
found_walks d x busy (k ∷ ks) (root ∷ roots) (w ∷ ws) s inside (tree, more) =
    let es : List Event = met_in d k x root busy in
    let m = found_tree d k x root busy w (block_some d k s inside.0) tree in
    let own : walk_pages (block_of_key d k) es ≡ pages_on d k w = pages_are (block_of_key d k) es m.none ∙ ap (pages_on d k) m.is in
    let rest = found_walks d x (busy ++ walk_pages (block_of_key d k) es) ks roots ws s inside.1 (subst (λ (ps : List Range). HaveWalks d x (busy ++ ps) ks roots ws) (sym own) more) in
    ((m.none, rest.0), ap (λ (v : Walked). v ∷ ws) (sym m.is) ∙ ap (λ (vs : List Walked). walked_in es ∷ vs) rest.1)

found_lists : (d : Defs) (x : List ℕ) (rows : List PlacedRow) (busy : List Range) (ks : List ℕ) (roots : List (Option ℕ)) → AreKeyLists d rows ks (map walk_in (key_walks d x busy ks roots)) → AllByRecursion (HasList d rows) (key_walks d x busy ks roots)
found_lists d x rows busy [] roots are = tt
found_lists d x rows busy (k ∷ ks) [] are = tt
found_lists d x rows busy (k ∷ ks) (root ∷ roots) are = (are.0, found_lists d x rows (busy ++ walk_pages (block_of_key d k) (met_in d k x root busy)) ks roots are.1)

met_as : (d : Defs) (rows : List PlacedRow) (walks : List KeyWalk) → AllByRecursion IsWhole walks → AllByRecursion (HasList d rows) walks → AllByRecursion (IsMetAs d rows) walks
met_as d rows [] whole lists = tt
met_as d rows (w ∷ walks) whole lists = ((whole.0, lists.0), met_as d rows walks whole.1 lists.1)

pub bytes_over : (d : Defs) (x : List ℕ) (busy : List Range) (ks : List ℕ) (roots : List (Option ℕ)) → AllByRecursion IsWhole (key_walks d x busy ks roots) → page_bytes d (key_walks d x busy ks roots) ≡ total (all_pages d ks (map walk_in (key_walks d x busy ks roots)))
bytes_over d x busy [] roots all = refl
bytes_over d x busy (k ∷ ks) [] all = refl
bytes_over d x busy (k ∷ ks) (root ∷ roots) all =
    let es : List Event = met_in d k x root busy in
    let others : List KeyWalk = key_walks d x (busy ++ walk_pages (block_of_key d k) es) ks roots in
    omega (
      arith,
      sum_by-cons (λ (v : KeyWalk). total (walk_pages (block_of_key d v.key) v.events)) (key_walk k es) others,
      sum_by-append (λ (r : Range). r.1 - r.0) (pages_on d k (walked_in es)) (all_pages d ks (map walk_in others)),
      ap total (pages_are (block_of_key d k) es all.0),
      bytes_over d x (busy ++ walk_pages (block_of_key d k) es) ks roots all.1,
    )

pub walks_all : (walks : List KeyWalk) → AllByRecursion IsWhole walks → all_walk walks ≡ true
walks_all [] all = refl
walks_all (w ∷ walks) all = and_from (is_none (first_bad w.events)) (all_walk walks) (ap (λ (o : Option ℕ). is_none o) all.0) (walks_all walks all.1)

none_is : (o : Option ℕ) → is_none o ≡ true → o ≡ None
none_is None e = refl
none_is (Some n) e = absurd cc

pub whole_all : (walks : List KeyWalk) → all_walk walks ≡ true → AllByRecursion IsWhole walks
whole_all [] e = tt
whole_all (w ∷ walks) e = let both = and_parts (is_none (first_bad w.events)) (all_walk walks) e in (none_is (first_bad w.events) both.0, whole_all walks both.1)

-- ---- the keys

numbers_inside : (d : Defs) (first n : ℕ) → 0 < first → first + n ≤ length d.keys + 1 → AllByRecursion (IsKeyNumber d) (numbers_from first n)
numbers_inside d first zero some few = tt
numbers_inside d first (suc n) some few = ((some, omega (arith, few)), numbers_inside d (suc first) n (omega arith) (omega (arith, few)))

pub all_inside : (d : Defs) → AllByRecursion (IsKeyNumber d) (key_numbers d)
all_inside d = numbers_inside d 1 (length d.keys) (omega arith) (omega arith)

length-numbers_from : (first n : ℕ) → length (numbers_from first n) ≡ n
length-numbers_from first zero = refl
length-numbers_from first (suc n) = ap suc (length-numbers_from (suc first) n)

length-roots : (at n : ℕ) (x : List ℕ) → length (map pointer_of (numbers at (replicate n 8) x)) ≡ n
length-roots at zero x = refl
length-roots at (suc n) x = ap suc (length-roots (at + 8) n x)

pub as_many_roots : (d : Defs) (x : List ℕ) → length (key_numbers d) ≡ length (state_of d x).roots
unfolding state_of
as_many_roots d x = length-numbers_from 1 (length d.keys) ∙ sym (length-roots 124 (length d.keys) x)

each_key : (P : ℕ → Type 0) (d : Defs) (x : List ℕ) (busy : List Range) (ks : List ℕ) (roots : List (Option ℕ)) → length ks ≡ length roots → AllByRecursion (λ (w : KeyWalk). P w.key) (key_walks d x busy ks roots) → AllByRecursion P ks
each_key P d x busy [] roots long all = tt
each_key P d x busy (k ∷ ks) [] long all = absurd (omega (arith, long))
each_key P d x busy (k ∷ ks) (root ∷ roots) long all = (all.0, each_key P d x (busy ++ walk_pages (block_of_key d k) (met_in d k x root busy)) ks roots (omega (arith, long)) all.1)

key_each : (P : ℕ → Type 0) (d : Defs) (x : List ℕ) (busy : List Range) (ks : List ℕ) (roots : List (Option ℕ)) → AllByRecursion P ks → AllByRecursion (λ (w : KeyWalk). P w.key) (key_walks d x busy ks roots)
key_each P d x busy [] roots all = tt
key_each P d x busy (k ∷ ks) [] all = tt
key_each P d x busy (k ∷ ks) (root ∷ roots) all = (all.0, key_each P d x (busy ++ walk_pages (block_of_key d k) (met_in d k x root busy)) ks roots all.1)

no_item : {A B : Type 0} (f : A → B) (o : Option A) → map f (option_to_list o) ≡ [] → o ≡ None
no_item f None e = refl
no_item f (Some x) e = absurd cc

no_front : {A : Type 0} (xs ys : List A) → xs ++ ys ≡ [] → (xs ≡ []) × (ys ≡ [])
no_front [] ys e = (refl, e)
no_front (x ∷ xs) ys e = absurd cc

-- what the section of a key says, once nothing is found
abbrev IsSoundKeyWalk : Defs → List PlacedRow → KeyWalk → Type 0
IsSoundKeyWalk d rows w = IsMet (is_unique d w.key) None (key_list d w.key rows) w.events

keys_none : (d : Defs) (rows : List PlacedRow) (walks : List KeyWalk) → flat_map (key_findings d rows) walks ≡ [] → AllByRecursion (IsSoundKeyWalk d rows) walks
keys_none d rows [] e = tt
keys_none d rows (w ∷ walks) e =
    let f = no_front (key_findings d rows w) (flat_map (key_findings d rows) walks) e in
    (walk_none (is_unique d w.key) w.events None (key_list d w.key rows) (no_item (λ at. finding.Key w.key at) (key_bad d rows w) f.0), keys_none d rows walks f.1)

pub none_key : (d : Defs) (rows : List PlacedRow) (w : KeyWalk) → IsMetAs d rows w → Fresh (is_unique d w.key) None (key_list d w.key rows) → key_bad d rows w ≡ None
none_key d rows w is fresh =
    subst (λ (ps : List Pair). walk_bad (is_unique d w.key) None ps w.events ≡ None) is.1
    (none_walk (is_unique d w.key) w.events None is.0 (subst (λ (ps : List Pair). Fresh (is_unique d w.key) None ps) (sym is.1) fresh))

none_keys : (d : Defs) (rows : List PlacedRow) (walks : List KeyWalk) → AllByRecursion (IsMetAs d rows) walks → AllByRecursion (λ (w : KeyWalk). Fresh (is_unique d w.key) None (key_list d w.key rows)) walks → flat_map (key_findings d rows) walks ≡ []
none_keys d rows [] all fresh = refl
none_keys d rows (w ∷ walks) all fresh = let here = none_key d rows w all.0 fresh.0 in let more = none_keys d rows walks all.1 fresh.1 in rw (here, more) refl

-- ---- rows that repeat each other

keys_placed : (d : Defs) (k : ℕ) (rows : List Row) → keys_of (pairs_of d k (map (placed_row d) rows)) ≡ map (key_of d k) (map (values_of d) rows)
keys_placed d k [] = refl
keys_placed d k (r ∷ rows) = ap (λ (ks : List (List KeySeg)). key_of d k (values_of d r) ∷ ks) (keys_placed d k rows)

fresh_apart : (d : Defs) (k : ℕ) (rows : List Row) → Fresh true None (key_list d k (map (placed_row d) rows)) → AreApart [] (map (key_of d k) (map (values_of d) rows))
unfolding key_list
fresh_apart d k rows fresh = subst (AreApart []) (keys_placed d k rows) (apart (pairs_of d k (map (placed_row d) rows)) (fresh_none None (sorted (pairs_of d k (map (placed_row d) rows))) fresh))

apart_fresh : (d : Defs) (k : ℕ) (rows : List Row) → AreApart [] (map (key_of d k) (map (values_of d) rows)) → Fresh true None (key_list d k (map (placed_row d) rows))
unfolding key_list
apart_fresh d k rows are = none_fresh (sorted (pairs_of d k (map (placed_row d) rows))) (apart_none (pairs_of d k (map (placed_row d) rows)) (subst (AreApart []) (sym (keys_placed d k rows)) are))

abbrev by_keys : (d : Defs) → ℕ → Values → List KeySeg
by_keys d k row = key_of d k row

repeats_is : (d : Defs) (row other : Values) → repeats d row other ≡ list_any (λ k. is_unique d k && is_same_key (key_of d k row) (key_of d k other)) (key_numbers d)
unfolding repeats
repeats_is d row other = refl

to_distinct : (d : Defs) (before rows : List Values) → Distinct (is_unique d) (by_keys d) (key_numbers d) (repeats d) (repeats_is d) before rows → AreDistinct d before rows
to_distinct d before [] h = tt
to_distinct d before (row ∷ rows) h = (h.0, to_distinct d (before ++ row ∷ []) rows h.1)

from_distinct : (d : Defs) (before rows : List Values) → AreDistinct d before rows → Distinct (is_unique d) (by_keys d) (key_numbers d) (repeats d) (repeats_is d) before rows
from_distinct d before [] h = tt
from_distinct d before (row ∷ rows) h = (h.0, from_distinct d (before ++ row ∷ []) rows h.1)

distinct_rows : (d : Defs) (rows : List Row) → AllByRecursion (λ k. Fresh (is_unique d k) None (key_list d k (map (placed_row d) rows))) (key_numbers d) → AreDistinct d [] (map (values_of d) rows)
distinct_rows d rows all =
    to_distinct d [] (map (values_of d) rows)
    (apart_distinct (is_unique d) (by_keys d) (key_numbers d) (repeats d) (repeats_is d) [] (map (values_of d) rows)
    (λ k among unique. fresh_apart d k rows (subst (λ (b : Bool). Fresh b None (key_list d k (map (placed_row d) rows))) unique (all_at (λ j. Fresh (is_unique d j) None (key_list d j (map (placed_row d) rows))) k (key_numbers d) all among))))

rows_distinct : (d : Defs) (rows : List Row) → AreDistinct d [] (map (values_of d) rows) → AllByRecursion (λ k. Fresh (is_unique d k) None (key_list d k (map (placed_row d) rows))) (key_numbers d)
rows_distinct d rows are = all_from (λ k. Fresh (is_unique d k) None (key_list d k (map (placed_row d) rows))) (key_numbers d) (λ k among. by k among (is_unique d k) refl)
  where
    by : (k : ℕ) → Among k (key_numbers d) → (b : Bool) → is_unique d k ≡ b → Fresh b None (key_list d k (map (placed_row d) rows))
    by k among false is = plain_fresh None (key_list d k (map (placed_row d) rows))
    by k among true is = apart_fresh d k rows (distinct_apart (is_unique d) (by_keys d) (key_numbers d) (repeats d) (repeats_is d) k among is [] (map (values_of d) rows) (from_distinct d [] (map (values_of d) rows) are))

-- ---- the list of deleted blocks

link_is : (p q : Option ℕ) → same_link p q ≡ true → p ≡ q
link_is None None e = refl
link_is None (Some q) e = absurd cc
link_is (Some p) None e = absurd cc
link_is (Some p) (Some q) e = ap (λ (n : ℕ). Some n) (eqb-true p q e)

is_link : (p : Option ℕ) → same_link p p ≡ true
is_link None = refl
is_link (Some p) = eq-eqb p p refl

pub names_true : (f : RowFormat) (rows : List ℕ) (p : ℕ) (before : Option ℕ) → names_by f rows p before ≡ true → NamesByFormat f rows p before
names_true Static rows p before e = tt
names_true Dynamic rows p before e = by (block_of rows p) e
  where
    by : (o : Option Block) → option_map_or (λ (b : Block). same_link b.prev before) o false ≡ true → option_map (λ (b : Block). b.prev) o ≡ Some before
    by None e = absurd cc
    by (Some b) e = ap (λ (q : Option ℕ). Some q) (link_is b.prev before e)

pub true_names : (f : RowFormat) (rows : List ℕ) (p : ℕ) (before : Option ℕ) → NamesByFormat f rows p before → names_by f rows p before ≡ true
true_names Static rows p before h = refl
true_names Dynamic rows p before h = by (block_of rows p) h
  where
    by : (o : Option Block) → option_map (λ (b : Block). b.prev) o ≡ Some before → option_map_or (λ (b : Block). same_link b.prev before) o false ≡ true
    by None h = absurd cc
    by (Some b) h = let same : b.prev ≡ before = cc in subst (λ (q : Option ℕ). same_link b.prev q ≡ true) same (is_link b.prev)

runs_follow : (d : Defs) (rows : List ℕ) (before at : Option ℕ) (ps : List ℕ) → Runs (next_deleted d rows) (names_before d rows) before at ps → Follows d rows before at ps
runs_follow d rows before at [] h = h
runs_follow d rows before at (p ∷ ps) h = (h.0, names_true d.format rows p before h.1, runs_follow d rows (Some p) (next_deleted d rows p) ps h.2)

follow_runs : (d : Defs) (rows : List ℕ) (before at : Option ℕ) (ps : List ℕ) → Follows d rows before at ps → Runs (next_deleted d rows) (names_before d rows) before at ps
follow_runs d rows before at [] h = h
follow_runs d rows before at (p ∷ ps) h = (h.0, true_names d.format rows p before h.1, follow_runs d rows (Some p) (next_deleted d rows p) ps h.2)

deleted_none : (d : Defs) (rows x : List ℕ) → deleted_bad d rows x ≡ None → ListsDeleted d rows (state_of d x).dellink
unfolding deleted_bad
deleted_none d rows x e =
    let r = list_none (next_deleted d rows) (names_before d rows) (length (deleted d rows)) (deleted_places d rows) None (state_of d x).dellink e in
    (r.0, r.1, runs_follow d rows None (state_of d x).dellink r.0 r.2)

pub none_deleted : (d : Defs) (rows x : List ℕ) → ListsDeleted d rows (state_of d x).dellink → deleted_bad d rows x ≡ None
unfolding deleted_bad
none_deleted d rows x (ps, same, follows) =
    none_list (next_deleted d rows) (names_before d rows) (length (deleted d rows)) (deleted_places d rows) None (state_of d x).dellink ps
    (omega (arith, length-map (deleted d rows) (λ (a : Range). a.0))) (λ f. sum_by-IsPermutation f (deleted_places d rows) ps same) (follow_runs d rows None (state_of d x).dellink ps follows)

-- ---- the header

or_so : (b c : Bool) → c ≡ true → (b || c) ≡ true
or_so true c e = refl
or_so false c e = e

or_last : (b c : Bool) → b ≡ true → (not b || c) ≡ true → c ≡ true
or_last true c is e = e
or_last false c is e = absurd cc

-- ---- bytes

pub empty_reached : (d : Defs) → IsSound d → is_addressable d 0 ≡ true
unfolding is_addressable
empty_reached d s =
    let room : 256 ^ 2 ≤ 256 ^ d.rec_ref = pow-le-pow_right (omega arith) s.rec_ref_least in
    by d.format refl (lt-ltb 0 (256 ^ d.rec_ref - 1) (omega arith))
  where
    by : (f : RowFormat) → d.format ≡ f → nat_lt 0 (256 ^ d.rec_ref - 1) ≡ true → (nat_le 0 (2 ^ 40) && nat_lt (pointers f d.slot_length 0) (256 ^ d.rec_ref - 1)) ≡ true
    by Static is e =
        let none : 0 / d.slot_length ≡ 0 = div-eq_of_lt (omega (arith, s.slot_pointer is)) in
        and_from (nat_le 0 (2 ^ 40)) (nat_lt (0 / d.slot_length) (256 ^ d.rec_ref - 1)) refl (ap (λ n. nat_lt n (256 ^ d.rec_ref - 1)) none ∙ e)
    by Dynamic is e = and_from (nat_le 0 (2 ^ 40)) (nat_lt 0 (256 ^ d.rec_ref - 1)) refl e

all_held : (d : Defs) (rows : List ℕ) (b : Bool) → IsSound d → is_addressable d (length rows) ≡ b → ((p : ℕ) → p < length rows → list_any (covers p) (held d rows) ≡ true) → b ≡ true
all_held d rows true s is whole = refl
all_held d rows false s is whole = by rows refl
  where
    by : (xs : List ℕ) → rows ≡ xs → false ≡ true
    by [] e = sym is ∙ ap (λ (xs : List ℕ). is_addressable d (length xs)) e ∙ empty_reached d s
    by (y ∷ ys) e =
        let none : held d rows ≡ [] = ap (λ (b : Bool). cond b (ranges_of (readable d false rows) ++ deleted d rows) []) is in
        let some : 0 < length rows = omega (arith, ap (λ (xs : List ℕ). length xs) e) in
        ap (λ (rs : List Range). list_any (covers 0) rs) (sym none) ∙ whole 0 some

-- ---- all sections

wholes : (d : Defs) (rows : List PlacedRow) (walks : List KeyWalk) → AllByRecursion (IsSoundKeyWalk d rows) walks → AllByRecursion IsWhole walks
wholes d rows [] all = tt
wholes d rows (w ∷ walks) all = (all.0.none, wholes d rows walks all.1)

mets : (d : Defs) (rows : List PlacedRow) (walks : List KeyWalk) → AllByRecursion (IsSoundKeyWalk d rows) walks → AllByRecursion (HasList d rows) walks
mets d rows [] all = tt
mets d rows (w ∷ walks) all = (all.0.met, mets d rows walks all.1)

freshes : (d : Defs) (rows : List PlacedRow) (walks : List KeyWalk) → AllByRecursion (IsSoundKeyWalk d rows) walks → AllByRecursion (λ (w : KeyWalk). Fresh (is_unique d w.key) None (key_list d w.key rows)) walks
freshes d rows [] all = tt
freshes d rows (w ∷ walks) all = (all.0.fresh, freshes d rows walks all.1)

pub clean_where_none : (d : Defs) (rows x : List ℕ) → read_defs x ≡ Ok d → findings d rows x ≡ [] → IsClean rows x
unfolding findings header_bad keys_bad rows_bad all_walks
clean_where_none d rows x read e =
    let s : IsSound d = sound d (are_defs x d read) in
    let f1 = no_front (map (λ item. finding.Header item) (option_to_list (header_bad d rows x))) _ e in
    let f2 = no_front (map (λ at. finding.Deleted (told at)) (option_to_list (deleted_bad d rows x))) _ f1.1 in
    let f3 = no_front (keys_bad d rows x) _ f2.1 in
    let h = all_passed (header_tests d (state_of d x) rows x) (no_item (λ item. finding.Header item) (header_bad d rows x) f1.0) in
    let mark : has_mark d x ≡ true = h.0 in
    let placed_rows : List PlacedRow = map (placed_row d) (readable d false rows) in
    let walks : List KeyWalk = key_walks d x ((0, first_page_of d) ∷ []) (key_numbers d) (state_of d x).roots in
    let keys : flat_map (key_findings d placed_rows) walks ≡ [] = sym (ap (λ (b : Bool). cond b (flat_map (key_findings d placed_rows) walks) []) mark) ∙ f3.0 in
    let each = keys_none d placed_rows walks keys in
    let whole_walks : AllByRecursion IsWhole walks = wholes d placed_rows walks each in
    let fresh : AllByRecursion (λ (w : KeyWalk). Fresh (is_unique d w.key) None (key_list d w.key placed_rows)) walks = freshes d placed_rows walks each in
    let gap = no_item (λ at. finding.Rows at) (rows_bad d rows) f3.1 in
    let whole : (p : ℕ) → p < length rows → list_any (covers p) (held d rows) ≡ true = λ p lt. none_gap (length rows) 0 (held d rows) gap p (omega arith) (omega (arith, lt)) in
    let reached = all_held d rows (is_addressable d (length rows)) s refl whole in
    let all : held d rows ≡ ranges_of (readable d false rows) ++ deleted d rows = ap (λ (b : Bool). cond b (ranges_of (readable d false rows) ++ deleted d rows) []) reached in
    record {
      defs = d;
      read = read;
      mark = mark;
      addressable = reached;
      covered = λ p lt. ap (λ (rs : List Range). list_any (covers p) rs) (sym all) ∙ whole p lt;
      list = deleted_none d rows x (no_item (λ at. finding.Deleted (told at)) (deleted_bad d rows x) f2.0);
      counts = record {
        records = eqb-true _ _ h.1.0;
        del = eqb-true _ _ h.1.1.0;
        split = eqb-true _ _ h.1.1.1.0;
        key_file_length = eqb-true _ _ h.1.1.1.1.0;
        data_file_length = eqb-true _ _ h.1.1.1.1.1.0;
        empty = eqb-true _ _ h.1.1.1.1.1.1.0;
      };
      walks = map walk_in walks;
      trees = walks_found d x ((0, first_page_of d) ∷ []) (key_numbers d) (state_of d x).roots s (all_inside d) (as_many_roots d x) whole_walks;
      lists = lists_found d x placed_rows ((0, first_page_of d) ∷ []) (key_numbers d) (state_of d x).roots (as_many_roots d x) (mets d placed_rows walks each);
      key_empty = eqb-true _ _ (or_last _ _ (walks_all walks whole_walks) h.1.1.1.1.1.1.1.0)
          ∙ ap (λ n. length x - first_page_of d - n) (bytes_over d x ((0, first_page_of d) ∷ []) (key_numbers d) (state_of d x).roots whole_walks);
      distinct = distinct_rows d (readable d false rows) (each_key (λ k. Fresh (is_unique d k) None (key_list d k placed_rows)) d x ((0, first_page_of d) ∷ []) (key_numbers d) (state_of d x).roots (as_many_roots d x) fresh);
    }

none_header : (rows x : List ℕ) (c : IsClean rows x) → header_bad c.defs rows x ≡ None
unfolding header_bad all_walks
none_header rows x c =
    let d : Defs = c.defs in
    let walks : List KeyWalk = key_walks d x ((0, first_page_of d) ∷ []) (key_numbers d) (state_of d x).roots in
    let f = found_walks d x ((0, first_page_of d) ∷ []) (key_numbers d) (state_of d x).roots c.walks (sound d (are_defs x d c.read)) (all_inside d) c.trees in
    let bytes : page_bytes d walks ≡ total (all_pages d (key_numbers d) c.walks) =
    bytes_over d x ((0, first_page_of d) ∷ []) (key_numbers d) (state_of d x).roots f.0 ∙ ap (λ (ws : List Walked). total (all_pages d (key_numbers d) ws)) (sym f.1) in
    let same : (state_of d x).key_empty ≡ length x - first_page_of d - page_bytes d walks = c.key_empty ∙ ap (λ n. length x - first_page_of d - n) (sym bytes) in
    passed_all (header_tests d (state_of d x) rows x) (
      c.mark,
      (
        eq-eqb _ _ c.counts.records,
        (
          eq-eqb _ _ c.counts.del,
          (
            eq-eqb _ _ c.counts.split,
            (
              eq-eqb _ _ c.counts.key_file_length,
              (eq-eqb _ _ c.counts.data_file_length, (eq-eqb _ _ c.counts.empty, (or_so (not (all_walk walks)) _ (eq-eqb _ _ same), tt))),
            ),
          ),
        ),
      ),
    )

none_in_keys : (rows x : List ℕ) (c : IsClean rows x) → keys_bad c.defs rows x ≡ []
unfolding keys_bad all_walks
none_in_keys rows x c =
    let d : Defs = c.defs in
    let placed_rows : List PlacedRow = map (placed_row d) (readable d false rows) in
    let walks : List KeyWalk = key_walks d x ((0, first_page_of d) ∷ []) (key_numbers d) (state_of d x).roots in
    let f = found_walks d x ((0, first_page_of d) ∷ []) (key_numbers d) (state_of d x).roots c.walks (sound d (are_defs x d c.read)) (all_inside d) c.trees in
    let lists = found_lists d x placed_rows ((0, first_page_of d) ∷ []) (key_numbers d) (state_of d x).roots (subst (AreKeyLists d placed_rows (key_numbers d)) f.1 c.lists) in
    let fresh = key_each (λ k. Fresh (is_unique d k) None (key_list d k placed_rows)) d x ((0, first_page_of d) ∷ []) (key_numbers d) (state_of d x).roots (rows_distinct d (readable d false rows) c.distinct) in
    ap (λ (b : Bool). cond b (flat_map (key_findings d placed_rows) walks) []) c.mark ∙ none_keys d placed_rows walks (met_as d placed_rows walks f.0 lists) fresh

none_in_rows : (rows x : List ℕ) (c : IsClean rows x) → rows_bad c.defs rows ≡ None
unfolding rows_bad
none_in_rows rows x c =
    let d : Defs = c.defs in
    let all : held d rows ≡ ranges_of (readable d false rows) ++ deleted d rows = ap (λ (b : Bool). cond b (ranges_of (readable d false rows) ++ deleted d rows) []) c.addressable in
    gap_none (length rows) 0 (held d rows) (λ p le lt. ap (λ (rs : List Range). list_any (covers p) rs) all ∙ c.covered p (omega (arith, lt)))

none_clean : (rows x : List ℕ) (c : IsClean rows x) → findings c.defs rows x ≡ []
unfolding findings
none_clean rows x c =
    let header = none_header rows x c in
    let listed = none_deleted c.defs rows x c.list in
    let keys = none_in_keys rows x c in
    let bytes = none_in_rows rows x c in
    rw (header, listed, keys, bytes) refl

pub none_where_clean : (d : Defs) (rows x : List ℕ) → read_defs x ≡ Ok d → IsClean rows x → findings d rows x ≡ []
none_where_clean d rows x read c = subst (λ (e : Defs). findings e rows x ≡ []) (same_defs d c.defs x read c.read) (none_clean rows x c)

pub none_recovered : (d again : Defs) (extend : Bool) (x : List ℕ) (now : ℕ) → IsRepairable d x now → read_defs (new_index d extend x now) ≡ Ok again → findings again (new_data d extend x) (new_index d extend x now) ≡ []
none_recovered d again extend x now can read = none_where_clean again (new_data d extend x) (new_index d extend x now) read (recovered d extend x now can).rebuilt.clean
