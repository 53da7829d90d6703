-- The trees of a clean table have the sorted lists of its keys.
use Rattle.std.proofs.Common.{◌≡◌, ℕ, zero, suc, ◌+◌, ◌<◌, false, List, [], ◌∷◌, ◌++◌, length, get_or, map, Option, Some, None, Ok, refl, sym, ap, subst, ◌∙◌, arith}
use Rattle.std.specs.Prelude.{Result}
use Rattle.std.proofs.lemmas.List.{length-map}
use Rattle.std.proofs.Math.ListN.{get_or-map}
use Rattle.myi_base.specs.Ranges.{Range}
use Rattle.myi_defs.specs.declared.types.Defs.{Defs}
use Rattle.myi_defs.specs.Sound.{IsSound}
use Rattle.myi_defs.specs.ReadDefs.{read_defs}
use Rattle.myi_header.specs.StateOf.{state_of}
use Rattle.myi_keys.specs.declared.values.KeySeg.{KeySeg}
use Rattle.myi_keylist.specs.declared.pair.Pair.{Pair}
use Rattle.myi_keylist.specs.PairOrder.{sorted}
use Rattle.myi_keylist.specs.Repeats.{keys_of}
use Rattle.myi_chain.specs.Readable.{Row}
use Rattle.myi_data.specs.Readable.{readable}
use Rattle.myi_data.specs.Keys.{key_of}
use Rattle.myi_btree.specs.Walk.{Walked, content}
use Rattle.myi_btree.proofs.CallerLemmas.{meets_once, walk_meets, at_shape}
use Rattle.myi_rowkeys.specs.TableKeys.{numbers_from, key_numbers}
use Rattle.myi_rowkeys.proofs.CallerLemmas.{mapped_at, length-numbers}
use Rattle.myi_pair.specs.KeyList.{PlacedRow, pairs_of, key_list}
use Rattle.myi_pair.specs.Clean.{values_of, placed_row, IsClean}
use Rattle.myi_pair.specs.Trees.{HasWalkApart, HaveWalks, AreKeyLists, node_at, block_of_key, pages_on}
use Rattle.myi_pair.proofs.CallerLemmas.{placed}
use Rattle.myi_check.specs.Keys.{rooted_place}
use Rattle.myi_check.specs.Walks.{events_in}
use Rattle.myi_check.proofs.CallerLemmas.{none_met, tree_meets}
use Rattle.myi_order.specs.KeyParts.{keys_in}
use Rattle.myi_order.specs.PrefixCounts.{tree_pairs}
use Rattle.myi_order.specs.PrefixCounts as events
use Rattle.myi_order.specs.Listed.{HaveLists}
use Rattle.myi_order.proofs.ListedLaws.{each_list}

-- ---- the walk of a key

-- the walk of the tree of a key, whose pairs are its list
pub record WalksList (d : Defs) (k : ℕ) (x : List ℕ) (root : Option ℕ) (rows : List PlacedRow) : Type 0 where
  pub busy : List Range
  pub walk : Walked
  pub apart : HasWalkApart d k x root busy walk
  pub list : content walk ≡ key_list d k rows

pub walk_at : (d : Defs) (x : List ℕ) (rows : List PlacedRow) (at n : ℕ) (busy : List Range) (roots : List (Option ℕ)) (ws : List Walked) (i : ℕ) → HaveWalks d x busy (numbers_from at n) roots ws → AreKeyLists d rows (numbers_from at n) ws → i < n
    → WalksList d (at + i) x (get_or roots i None) rows
walk_at d x rows at zero busy roots ws i walks lists few = absurd (omega (arith, few))
walk_at d x rows at (suc n) busy [] ws i walks lists few = absurd walks
walk_at d x rows at (suc n) busy (root ∷ roots) [] i walks lists few = absurd walks
walk_at d x rows at (suc n) busy (root ∷ roots) (w ∷ ws) zero walks lists few =
    let same : at ≡ at + 0 = omega arith in
    subst (λ k. WalksList d k x root rows) same (record { busy = busy; walk = w; apart = walks.0; list = lists.0 })
walk_at d x rows at (suc n) busy (root ∷ roots) (w ∷ ws) (suc i) walks lists few =
    let same : suc at + i ≡ at + suc i = omega arith in
    subst (λ k. WalksList d k x (get_or roots i None) rows) same (walk_at d x rows (suc at) n (busy ++ pages_on d at w) roots ws i walks.1 lists.1 (omega (arith, few)))

-- ---- what the walk meets

pairs_walked : (d : Defs) (k : ℕ) (x : List ℕ) (root : Option ℕ) (busy : List Range) (w : Walked) → 0 < block_of_key d k → HasWalkApart d k x root busy w → tree_pairs (rooted_place d k root) x ≡ content w
pairs_walked d k x None busy w some has = ap events.pairs_of (none_met (rooted_place d k None) x refl) ∙ sym (ap content has)
pairs_walked d k x (Some root) busy w some has =
    let read = node_at d.rec_ref (block_of_key d k) x in
    let met = walk_meets (block_of_key d k) read root w (at_shape d.rec_ref (block_of_key d k) x) has.0 in
    let same : events_in (rooted_place d k (Some root)) x ≡ met.events = meets_once (block_of_key d k) read root (events_in (rooted_place d k (Some root)) x) met.events (tree_meets (rooted_place d k (Some root)) x some) met.meets in
    ap events.pairs_of same ∙ ap content met.is

-- ---- all keys

keys_all : (d : Defs) (k : ℕ) (rows : List Row) → keys_of (pairs_of d k (map (placed_row d) rows)) ≡ keys_in d (map (values_of d) rows) k
keys_all d k [] = refl
keys_all d k (r ∷ rows) = ap (λ (ks : List (List KeySeg)). key_of d k (values_of d r) ∷ ks) (keys_all d k rows)

keys_each : (d : Defs) (rows : List Row) (ks : List ℕ) → map keys_of (map (λ k. pairs_of d k (map (placed_row d) rows)) ks) ≡ map (keys_in d (map (values_of d) rows)) ks
keys_each d rows [] = refl
keys_each d rows (k ∷ ks) =
    ap (λ (x : List (List KeySeg)). x ∷ map keys_of (map (λ j. pairs_of d j (map (placed_row d) rows)) ks)) (keys_all d k rows)
    ∙ ap (λ (xs : List (List (List KeySeg))). keys_in d (map (values_of d) rows) k ∷ xs) (keys_each d rows ks)

-- the pairs of the rows for each key, and these lists in order
abbrev pub unsorted_of : Defs → List Row → List (List Pair)
unsorted_of d rows = map (λ k. pairs_of d k (map (placed_row d) rows)) (key_numbers d)

abbrev pub lists_of : Defs → List Row → List (List Pair)
lists_of d rows = map sorted (unsorted_of d rows)

pub keys_of_lists : (d : Defs) (rows : List Row) → map keys_of (unsorted_of d rows) ≡ map (keys_in d (map (values_of d) rows)) (key_numbers d)
keys_of_lists d rows = keys_each d rows (key_numbers d)

pub as_many_lists : (d : Defs) (rows : List Row) → length (unsorted_of d rows) ≡ length d.keys
as_many_lists d rows = length-map (key_numbers d) (λ k. pairs_of d k (map (placed_row d) rows)) ∙ length-numbers 1 (length d.keys)

list_at : (d : Defs) (rows : List Row) (i : ℕ) → i < length d.keys → get_or (lists_of d rows) i [] ≡ key_list d (1 + i) (map (placed_row d) rows)
unfolding key_list
list_at d rows i few = get_or-map sorted (unsorted_of d rows) i [] ∙ ap sorted (mapped_at (λ k. pairs_of d k (map (placed_row d) rows)) 1 (length d.keys) i [] few)

-- ---- a clean table

same_defs : {E : Type 0} (d e : Defs) → ◌≡◌ {A = Result Defs E} (Ok e) (Ok d) → e ≡ d
same_defs d e same = cc

-- what of a clean table is looked at here
pub record HasTrees (d : Defs) (rows x : List ℕ) : Type 0 where
  pub records : (state_of d x).records ≡ length (readable d false rows)
  pub lists : (i : ℕ) → i < length d.keys → WalksList d (1 + i) x (get_or (state_of d x).roots i None) (map (placed_row d) (readable d false rows))

trees_by : (d e : Defs) (rows x : List ℕ) → e ≡ d → HasTrees e rows x → HasTrees d rows x
trees_by d e rows x same has = subst (λ f. HasTrees f rows x) same has

pub clean_trees : (d : Defs) (rows x : List ℕ) → read_defs x ≡ Ok d → IsClean rows x → HasTrees d rows x
clean_trees d rows x read clean =
    let e = clean.defs in
    trees_by d e rows x (same_defs d e (sym clean.read ∙ read)) (record {
      records = clean.counts.records;
      lists = λ i few. walk_at e x (map (placed_row e) (readable e false rows)) 1 (length e.keys) _ (state_of e x).roots clean.walks i clean.trees clean.lists few;
    })

pub have_lists : (d : Defs) (rows x : List ℕ) (roots : List (Option ℕ)) → IsSound d → roots ≡ (state_of d x).roots → length roots ≡ length d.keys → HasTrees d rows x → HaveLists d roots x (lists_of d (readable d false rows))
have_lists d rows x roots s are long has i few =
    let inside : i < length d.keys = omega (arith, few, long) in
    let same : 1 + i ≡ i + 1 = omega arith in
    let root = get_or roots i None in
    let w : WalksList d (1 + i) x root (map (placed_row d) (readable d false rows)) = subst (λ (rs : List (Option ℕ)). WalksList d (1 + i) x (get_or rs i None) (map (placed_row d) (readable d false rows))) (sym are) (has.lists i inside) in
    let place = placed d s (1 + i) (omega arith, omega (arith, inside)) in
    let pairs = pairs_walked d (1 + i) x root w.busy w.walk (omega (arith, place.least)) w.apart ∙ w.list ∙ sym (list_at d (readable d false rows) i inside) in (
      subst (λ k. tree_pairs (rooted_place d k root) x ≡ get_or (lists_of d (readable d false rows)) i []) same pairs,
      each_list d (map (values_of d) (readable d false rows)) (unsorted_of d (readable d false rows)) (lists_of d (readable d false rows)) (keys_of_lists d (readable d false rows)) (as_many_lists d (readable d false rows)) refl i
          (omega (arith, inside, as_many_lists d (readable d false rows), length-map (unsorted_of d (readable d false rows)) sorted)),
    )
