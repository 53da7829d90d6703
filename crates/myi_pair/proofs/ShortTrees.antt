-- The trees of a table's rows end within numbers of eight bytes, since a tree has no more pages than pairs.
use Rattle.std.proofs.Common.{◌≡◌, ℕ, ◌+◌, ◌*◌, ◌^◌, ◌<◌, ◌≤◌, true, List, [], ◌∷◌, length, drop, ◌∙◌, arith, mul-le-mul, suc-mul}
use Rattle.std.specs.List.{AllByRecursion}
use Rattle.std.proofs.lemmas.List.{length-map}
use Rattle.std.proofs.lemmas.List.Sorted.{length_permutation}
use Rattle.myi_base.specs.Numbers.{AreBytes, num_at}
use Rattle.myi_base.proofs.CallerLemmas.{num-below, bytes-drop}
use Rattle.myi_defs.specs.declared.types.Defs.{Defs}
use Rattle.myi_defs.specs.Sound.{IsSound}
use Rattle.myi_defs.specs.Addressable.{is_addressable}
use Rattle.myi_header.specs.Layout.{first_page_of}
use Rattle.myi_keylist.specs.declared.pair.Pair.{Pair}
use Rattle.myi_btree.specs.declared.place.Place.{Place}
use Rattle.myi_btree.specs.Walk.{Node}
use Rattle.myi_btree.specs.Sizes.{IsPlaced, fits_in}
use Rattle.myi_btree.specs.LaidPages.{laid}
use Rattle.myi_btree.proofs.CallerLemmas.{laid_few}
use Rattle.myi_data.specs.Keys.{IsKeyNumber}
use Rattle.myi_keylist.specs.PairOrder.{sorted}
use Rattle.myi_pair.specs.KeyList.{PlacedRow, pairs_of, pair_of, key_list}
use Rattle.myi_pair.specs.Trees.{block_of_key, place_of}
use Rattle.myi_keylist.proofs.CallerLemmas.{sorted_permutes}
use Rattle.myi_pair.proofs.SizedLaws.{IsNear, placed, list_sized}
use Rattle.myi_pair.proofs.TreesLaws.{trees_of}

list_count : (d : Defs) (k : ℕ) (rows : List PlacedRow) → length (key_list d k rows) ≡ length rows
unfolding key_list
list_count d k rows =
    let pairs : List Pair = pairs_of d k rows in
    length_permutation pairs (sorted pairs) (sorted_permutes pairs) ∙ length-map rows (pair_of d k)

trees_few : (d : Defs) (len first : ℕ) (ks : List ℕ) (rows : List PlacedRow) → IsSound d → is_addressable d len ≡ true → AllByRecursion (IsNear d len) rows → AllByRecursion (IsKeyNumber d) ks
    → (trees_of d first ks rows).end ≤ first + length ks * (16384 * length rows)
trees_few d len first [] rows s reached near inside = omega arith
trees_few d len first (k ∷ ks) rows s reached near inside =
    let place : Place = place_of d k in
    let block : ℕ = block_of_key d k in
    let list : List Pair = key_list d k rows in
    let nodes : List Node = laid (fits_in place) block first list in
    let is_placed : IsPlaced place = placed d s k inside.0 in
    let few : length nodes ≤ length rows = omega (arith, laid_few place first list (list_sized d k len rows s inside.0 reached near).0, list_count d k rows) in
    let short : block * length nodes ≤ 16384 * length rows = mul-le-mul is_placed.most few in
    let others = trees_few d len (first + block * length nodes) ks rows s reached near inside.1 in
    omega (arith, short, others, suc-mul (length ks) (16384 * length rows))

pub trees_short : (d : Defs) (len first : ℕ) (ks : List ℕ) (rows : List PlacedRow) → IsSound d → is_addressable d len ≡ true → AllByRecursion (IsNear d len) rows → AllByRecursion (IsKeyNumber d) ks
    → length ks ≤ 64 → length rows ≤ 2 ^ 40 → first ≤ 2 ^ 20 → (trees_of d first ks rows).end < 2 ^ 64
trees_short d len first ks rows s reached near inside few_keys few_rows front =
    let most : length ks * (16384 * length rows) ≤ 64 * (16384 * 2 ^ 40) = mul-le-mul few_keys (let all : 16384 * length rows ≤ 16384 * 2 ^ 40 = omega (arith, few_rows) in all) in
    omega (arith, trees_few d len first ks rows s reached near inside, most)

pub first_short : (d : Defs) → IsSound d → AreBytes d.raw → first_page_of d ≤ 2 ^ 20
first_short d s bytes =
    let short : num_at 6 2 d.raw < 256 ^ 2 = num-below 2 (drop 6 d.raw) (bytes-drop 6 d.raw bytes) in
    omega (arith, short, s.header)
