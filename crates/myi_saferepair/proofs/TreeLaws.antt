-- Trees that stand in the bytes of a file, as those of a table's index file.
use Rattle.std.proofs.Common.{◌≡◌, ℕ, zero, suc, ◌+◌, ◌-◌, ◌*◌, ◌<◌, ◌≤◌, Bool, List, [], ◌∷◌, ◌++◌, length, map, Option, Some, None, refl, ap, subst, ◌∙◌, arith}
use Rattle.std.specs.Prelude.{if◌then◌else◌}
use Rattle.std.specs.List.{AllByRecursion}
use Rattle.std.proofs.lemmas.Bool.{lt-leb}
use Rattle.std.proofs.lemmas.List.Sums.{sum_by-append}
use Rattle.myi_base.specs.Ranges.{Range}
use Rattle.myi_base.specs.Holding.{Holding, bytes_of}
use Rattle.myi_defs.specs.declared.types.Defs.{Defs}
use Rattle.myi_defs.specs.Sound.{IsSound}
use Rattle.myi_header.specs.Layout.{first_page_of}
use Rattle.myi_keycache.specs.Kept.{AllWritten}
use Rattle.myi_keycache.specs.Caching.{Caching, pages_of}
use Rattle.myi_keylist.specs.declared.pair.Pair.{Pair}
use Rattle.myi_btree.specs.declared.place.Place.{Place}
use Rattle.myi_btree.specs.declared.place.Room.{Room}
use Rattle.myi_btree.specs.Sizes.{IsPlaced}
use Rattle.myi_btree.specs.Walk.{Walked, content}
use Rattle.myi_data.specs.Keys.{IsKeyNumber}
use Rattle.myi_data.specs.Stored.{SizedRow}
use Rattle.myi_insertion.specs.Covers.{from_end, stock}
use Rattle.myi_insertion.specs.CachedTree.{IsTree}
use Rattle.myi_pair.specs.FirstRows.{numbers_from, key_numbers}
use Rattle.myi_pair.specs.KeyList.{PlacedRow, key_list}
use Rattle.myi_pair.specs.Trees as pair
use Rattle.myi_pair.specs.Trees.{place_of, block_of_key, AreKeyLists, all_pages, total}
use Rattle.myi_pair.specs.RebuiltBytes.{placed_from, key_lists}
use Rattle.myi_pair.proofs.CallerLemmas.{placed, total_pages}
use Rattle.myi_keytrees.specs.Trees.{Trees, kinds}
use Rattle.myi_keytrees.specs.Standing.{HoldLists}
use Rattle.myi_keytrees.specs.InFile as trees
use Rattle.myi_keytrees.specs.InFile.{contents_of, pages_of_walks, bytes_of_pages, bytes_of_free, KeepsBetween, StandIn}
use Rattle.myi_keytrees.proofs.CallerLemmas.{stand_in, counted, walks_stay}
use Rattle.myi_rowtrees.specs.Places.{places_from, places_of}
use Rattle.myi_saferepair.specs.Filling.{free_from, TreesHold, HasTrees}

-- ---- where the trees stand

placed_with : (d : Defs) (k : ℕ) (root : Option ℕ) → IsPlaced (place_of d k) → IsPlaced (record (place_of d k) { root = root })
placed_with d k root is = record { whole = is.whole; least = is.least; most = is.most; wide = is.wide; narrow = is.narrow }

each_placed : (d : Defs) (s : IsSound d) (low n : ℕ) (roots : List (Option ℕ)) → 1 ≤ low → low + n ≤ length d.keys + 1 → AllByRecursion IsPlaced (places_from d (numbers_from low n) roots)
each_placed d s low zero roots least most = tt
each_placed d s low (suc n) [] least most = tt
each_placed d s low (suc n) (root ∷ roots) least most =
    let number : IsKeyNumber d low = (omega (arith, least), omega (arith, most)) in
    (placed_with d low root (placed d s low number), each_placed d s (suc low) n roots (omega arith) (omega (arith, most)))

pub all_placed : (d : Defs) (roots : List (Option ℕ)) → IsSound d → AllByRecursion IsPlaced (places_of d roots)
all_placed d roots s = each_placed d s 1 (length d.keys) roots (omega arith) (omega arith)

-- places that are made as those of keys are those of their roots
roots_each : (d : Defs) (ks : List ℕ) (places : List Place) → kinds places ≡ map (place_of d) ks → places ≡ places_from d ks (map (λ (p : Place). p.root) places)
roots_each d [] [] same = refl
roots_each d [] (p ∷ places) same = absurd cc
roots_each d (k ∷ ks) [] same = absurd cc
roots_each d (k ∷ ks) (p ∷ places) same =
    let first : record p { root = None } ≡ place_of d k = cc in
    let rest : kinds places ≡ map (place_of d) ks = cc in
    ap (λ (q : Place). record q { root = p.root } ∷ places) first ∙ ap (λ (ps : List Place). record (place_of d k) { root = p.root } ∷ ps) (roots_each d ks places rest)

pub placed_roots : (d : Defs) (places : List Place) → kinds places ≡ map (place_of d) (key_numbers d) → places ≡ places_of d (map (λ (p : Place). p.root) places)
placed_roots d places same = roots_each d (key_numbers d) places same

-- ---- the trees in a file

some_page : (d : Defs) → IsSound d → 0 < first_page_of d
some_page d s = omega (arith, s.header, s.base_inside, s.base)

front_free : (first x : ℕ) → x < first → free_from first x ≡ 0
unfolding stock
front_free first x below = let e : from_end first x ≡ 0 = ap (λ (b : Bool). if b then 1 else 0) (lt-leb first x below) in omega (arith, e)

-- trees without a root have no page
none_bytes : (cache : Caching) (m : Holding) (places : List Place) (lists : List (List Pair)) (pages : List (List ℕ)) → AllByRecursion (λ (p : Place). p.root ≡ None) places → HoldLists cache m places lists pages → bytes_of_pages places pages ≡ 0
none_bytes cache m [] lists pages none hold = refl
none_bytes cache m (p ∷ places) [] pages none hold = absurd hold
none_bytes cache m (p ∷ places) (xs ∷ lists) [] none hold = absurd hold
none_bytes cache m (p ∷ places) (xs ∷ lists) (own ∷ pages) none hold =
    let tree : IsTree p cache m None xs own = subst (λ (r : Option ℕ). IsTree p cache m r xs own) none.0 hold.0.tree in
    let empty : length own ≡ 0 = ap (λ (ps : List ℕ). length ps) tree.1 in
    let zero_is : p.block_length * length own ≡ 0 = ap (λ (n : ℕ). p.block_length * n) empty ∙ omega arith in
    omega (arith, zero_is, none_bytes cache m places lists pages none.1 hold.1)

-- what was put into trees that were fresh, once all is written and nothing is left free
pub trees_written : (d : Defs) (rows : List SizedRow) (old new : Trees) (m n : Holding) (roots : List (Option ℕ)) → IsSound d → TreesHold d [] old m → AllByRecursion (λ (p : Place). p.root ≡ None) old.places → old.room ≡ record { end = first_page_of d; free = [] }
    → TreesHold d rows new n → AllWritten (pages_of new.cache) → bytes_of_free new.room.free ≡ 0 → new.places ≡ places_of d roots → HasTrees d roots new.room.end rows (bytes_of new.cache.name n)
trees_written d rows old new m n roots s fresh empty room hold written none placed =
    let first : ℕ = first_page_of d in
    let lists = key_lists d (placed_from d 0 rows) in
    let stand = stand_in new n (free_from first) lists first (some_page d s) written (front_free first) hold in
    let sum = counted old new m n (free_from first) (key_lists d (placed_from d 0 [])) lists fresh hold in
    let zero_pages = none_bytes old.cache m old.places (key_lists d (placed_from d 0 [])) fresh.pages empty fresh.hold in
    let full : bytes_of_pages new.places hold.pages + first ≡ new.room.end =
    omega (arith, sum, zero_pages, none, ap (λ (r : Room). r.end) room, ap (λ (r : Room). bytes_of_free r.free) room) in
    record {
      pages = hold.pages;
      stand = subst (λ (ps : List Place). StandIn (bytes_of new.cache.name n) first new.room.end ps lists hold.pages) placed stand;
      full = subst (λ (ps : List Place). bytes_of_pages ps hold.pages + first ≡ new.room.end) placed full;
    }

-- ---- as those of a table's index file

of_trees : (d : Defs) (x : List ℕ) (busy : List Range) (ks : List ℕ) (roots : List (Option ℕ)) (ws : List Walked) → length roots ≡ length ks → trees.HaveWalks x busy (places_from d ks roots) ws → pair.HaveWalks d x busy ks roots ws
of_trees d x busy [] [] ws same have = (refl, have)
of_trees d x busy [] (root ∷ roots) ws same have = absurd (omega (arith, same))
of_trees d x busy (k ∷ ks) [] ws same have = absurd (omega (arith, same))
of_trees d x busy (k ∷ ks) (root ∷ roots) [] same have = absurd have
of_trees d x busy (k ∷ ks) (None ∷ roots) (w ∷ ws) same have = (have.0, of_trees d x (busy ++ pair.pages_on d k w) ks roots ws (omega (arith, same)) have.1)
of_trees d x busy (k ∷ ks) (Some root ∷ roots) (w ∷ ws) same have = (have.0, of_trees d x (busy ++ pair.pages_on d k w) ks roots ws (omega (arith, same)) have.1)

lists_are : (d : Defs) (rows : List PlacedRow) (ks : List ℕ) (ws : List Walked) → contents_of ws ≡ map (λ k. key_list d k rows) ks → AreKeyLists d rows ks ws
lists_are d rows [] [] same = refl
lists_are d rows [] (w ∷ ws) same = absurd cc
lists_are d rows (k ∷ ks) [] same = absurd cc
lists_are d rows (k ∷ ks) (w ∷ ws) same =
    let here : content w ≡ key_list d k rows = cc in
    let rest : contents_of ws ≡ map (λ j. key_list d j rows) ks = cc in
    (here, lists_are d rows ks ws rest)

pages_total : (d : Defs) (rows : List PlacedRow) (ks : List ℕ) (roots : List (Option ℕ)) (ws : List Walked) → length roots ≡ length ks → AreKeyLists d rows ks ws → total (all_pages d ks ws) ≡ bytes_of_pages (places_from d ks roots) (pages_of_walks ws)
pages_total d rows [] roots ws same lists = omega arith
pages_total d rows (k ∷ ks) [] ws same lists = absurd (omega (arith, same))
pages_total d rows (k ∷ ks) (root ∷ roots) [] same lists = absurd lists
pages_total d rows (k ∷ ks) (root ∷ roots) (w ∷ ws) same lists =
    omega (arith, sum_by-append (λ (r : Range). r.1 - r.0) (pair.pages_on d k w) (all_pages d ks ws), total_pages (block_of_key d k) w.pages, pages_total d rows ks roots ws (omega (arith, same)) lists.1)

numbers_long : (low n : ℕ) → length (numbers_from low n) ≡ n
numbers_long low zero = refl
numbers_long low (suc n) = let more = numbers_long (suc low) n in omega (arith, more)

-- the trees of a table's keys stand in an index file, with the pairs of these rows, and fill it up to a place
pub record Stands (d : Defs) (roots : List (Option ℕ)) (end : ℕ) (rows : List SizedRow) (y : List ℕ) : Type 0 where
  pub walks : List Walked
  pub trees : pair.HaveWalks d y ((0, first_page_of d) ∷ []) (key_numbers d) roots walks
  pub lists : AreKeyLists d (placed_from d 0 rows) (key_numbers d) walks
  pub size : first_page_of d + total (all_pages d (key_numbers d) walks) ≡ end

-- so they do in a file that has the same bytes between
pub stands_between : (d : Defs) (roots : List (Option ℕ)) (end : ℕ) (rows : List SizedRow) (x y : List ℕ) → IsSound d → length roots ≡ length d.keys → HasTrees d roots end rows x → KeepsBetween (first_page_of d) end x y → Stands d roots end rows y
stands_between d roots end rows x y s many has keeps =
    let first : ℕ = first_page_of d in
    let w : List Walked = has.stand.walks in
    let many_keys : length roots ≡ length (key_numbers d) = omega (arith, many, numbers_long 1 (length d.keys)) in
    let have = walks_stay first end x y (places_of d roots) w (all_placed d roots s) keeps has.stand.have has.stand.before in
    let lists = lists_are d (placed_from d 0 rows) (key_numbers d) w has.stand.contents in
    record {
      walks = w;
      trees = of_trees d y ((0, first) ∷ []) (key_numbers d) roots w many_keys have;
      lists = lists;
      size = omega (arith, has.full, ap (bytes_of_pages (places_of d roots)) has.stand.pages_are, pages_total d (placed_from d 0 rows) (key_numbers d) roots w many_keys lists);
    }
