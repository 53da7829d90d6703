-- The rows per prefix of all keys, by their lists.
use Rattle.std.proofs.Common.{◌≡◌, ℕ, zero, suc, ◌+◌, ◌-◌, ◌^◌, ◌<◌, Option, None, List, [], ◌∷◌, ◌++◌, length, get_or, map, refl, sym, ap, subst, ◌∙◌, arith}
use Rattle.std.specs.List.{AllByRecursion, range_with_len}
use Rattle.std.proofs.lemmas.List.FromFn.{map-range_with_len_more}
use Rattle.myi_defs.specs.declared.types.Segment.{Segment}
use Rattle.myi_defs.specs.declared.types.Key.{Key}
use Rattle.myi_defs.specs.declared.types.Defs.{Defs}
use Rattle.myi_keylist.specs.declared.pair.Pair.{Pair}
use Rattle.myi_keylist.specs.Repeats.{keys_of}
use Rattle.myi_data.specs.Keys.{segments_of}
use Rattle.myi_data.proofs.CallerLemmas.{segments_at}
use Rattle.myi_order.specs.Prefixes.{per_each}
use Rattle.myi_order.specs.declared.key_parts.KeyParts.{KeyParts}
use Rattle.myi_check.specs.Keys.{rooted_place}
use Rattle.myi_order.specs.Numbers.{all_per}
use Rattle.myi_order.specs.PrefixCounts.{tree_pairs}
use Rattle.myi_order.specs.Listed.{IsListOfKey, parts_of_keys, parts_at, CountsKey, HaveLists}

-- the segments of the key at an index
pub segments_here : (keys : List Key) (i : ℕ) (k : Key) (segments : List Segment) → i < length keys → k ≡ get_or keys i k → segments ≡ k.segments → segments_of keys (i + 1) ≡ segments
segments_here keys i k segments few is are =
    segments_at keys (i + 1) k (omega arith) (omega arith)
    ∙ ap (λ n. (get_or keys n k).segments) (let e : i + 1 - 1 ≡ i = omega arith in e)
    ∙ ap (λ (x : Key). x.segments) (sym is) ∙ sym are

pub same_long : (d : Defs) (i : ℕ) (list : List Pair) (segments : List Segment) → segments_of d.keys (i + 1) ≡ segments → IsListOfKey d i list → AllByRecursion (λ (p : Pair). length p.key ≡ length segments) list
same_long d i list segments is has = subst (λ (s : List Segment). AllByRecursion (λ (p : Pair). length p.key ≡ length s) list) is has.segments

abbrev keyed : ℕ → List ℕ → KeyParts
keyed i per = record { key = i + 1; per = per }

pub parts_is : (d : Defs) (i : ℕ) (list : List Pair) (segments : List Segment) (per : List ℕ) → segments_of d.keys (i + 1) ≡ segments → per ≡ per_each (length segments) (keys_of list) → ◌≡◌ {A = KeyParts} (record { key = i + 1; per = per }) (parts_of_keys d i (keys_of list))
parts_is d i list segments per is made = ap (keyed i) (made ∙ ap (λ (s : List Segment). per_each (length s) (keys_of list)) (sym is))

-- ---- one list more

same_at : {X : Type 0} (xs : List X) (i : ℕ) (d e : X) → i < length xs → get_or xs i d ≡ get_or xs i e
same_at [] i d e few = absurd (omega arith)
same_at (x ∷ xs) zero d e few = refl
same_at (x ∷ xs) (suc i) d e few = same_at xs i d e (omega arith)

-- the tree of one key more was counted
pub parts_more : (d : Defs) (lists : List (List Pair)) (roots : List (Option ℕ)) (x : List ℕ) (i : ℕ) (old new : List KeyParts) (other : Option ℕ) (p : KeyParts) → i < length roots → CountsKey d i (get_or roots i other) x p → HaveLists d roots x lists
    → old ≡ map (parts_at d lists) (range_with_len 0 i) → new ≡ old ++ p ∷ [] → new ≡ map (parts_at d lists) (range_with_len 0 (i + 1))
parts_more d lists roots x i old new other p few counts have so_far added =
    let root = get_or roots i other in
    let here : get_or roots i None ≡ root = same_at roots i None other few in
    let list = have i few in
    let pairs : tree_pairs (rooted_place d (i + 1) root) x ≡ get_or lists i [] = subst (λ r. tree_pairs (rooted_place d (i + 1) r) x ≡ get_or lists i []) here list.0 in
    let made : p ≡ parts_at d lists i = counts (subst (IsListOfKey d i) (sym pairs) list.1) ∙ ap (λ l. parts_of_keys d i (keys_of l)) pairs in
    added ∙ ap (λ ps. ps ++ p ∷ []) so_far
    ∙ ap (λ q. map (parts_at d lists) (range_with_len 0 i) ++ q ∷ []) made
    ∙ sym (map-range_with_len_more (parts_at d lists) 0 i i (omega arith))

-- ---- four bytes hold each number

both_small : (xs ys : List ℕ) → AllByRecursion (λ n. n < 256 ^ 4) xs → AllByRecursion (λ n. n < 256 ^ 4) ys → AllByRecursion (λ n. n < 256 ^ 4) (xs ++ ys)
both_small [] ys one other = other
both_small (x ∷ xs) ys one other = (one.0, both_small xs ys one.1 other)

front_small : (xs ys : List ℕ) → AllByRecursion (λ n. n < 256 ^ 4) (xs ++ ys) → AllByRecursion (λ n. n < 256 ^ 4) xs
front_small [] ys all = tt
front_small (x ∷ xs) ys all = (all.0, front_small xs ys all.1)

rest_small : (xs ys : List ℕ) → AllByRecursion (λ n. n < 256 ^ 4) (xs ++ ys) → AllByRecursion (λ n. n < 256 ^ 4) ys
rest_small [] ys all = all
rest_small (x ∷ xs) ys all = rest_small xs ys all.1

pub small_more : (ps : List KeyParts) (p : KeyParts) → AllByRecursion (λ n. n < 256 ^ 4) (all_per ps) → AllByRecursion (λ n. n < 256 ^ 4) p.per → AllByRecursion (λ n. n < 256 ^ 4) (all_per (ps ++ p ∷ []))
small_more [] p all small = both_small p.per [] small tt
small_more (q ∷ ps) p all small = both_small q.per (all_per (ps ++ p ∷ [])) (front_small q.per (all_per ps) all) (small_more ps p (rest_small q.per (all_per ps) all) small)
