-- The lists of the keys of rows, put in order, have the rows per prefix of the rows.
use Rattle.std.proofs.Common.{◌≡◌, ℕ, ◌+◌, ◌-◌, ◌^◌, ◌<◌, ◌≤◌, Bool, true, false, cond, List, [], ◌∷◌, ◌++◌, length, get_or, drop, map, refl, sym, ap, subst, ◌∙◌, arith, length-append, sum_by}
use Rattle.std.specs.List.{AllByRecursion, range_with_len}
use Rattle.std.specs.Ordering.{is_gt}
use Rattle.std.proofs.lemmas.List.{ext_get_or, length-map}
use Rattle.std.proofs.lemmas.List as lists
use Rattle.std.proofs.lemmas.List.Sums.{sum_by-cons}
use Rattle.std.proofs.lemmas.List.FromFn.{get_or-map-range_with_len, length-map-range_with_len}
use Rattle.std.proofs.Math.ListN.{get_or-map}
use Rattle.myi_base.specs.Numbers.{num_at}
use Rattle.myi_defs.specs.declared.types.Segment.{Segment}
use Rattle.myi_defs.specs.declared.types.Key.{Key}
use Rattle.myi_defs.specs.declared.types.Defs.{Defs}
use Rattle.myi_defs.specs.Sound.{IsSound}
use Rattle.myi_keys.specs.declared.values.KeySeg.{KeySeg}
use Rattle.myi_keylist.specs.declared.pair.Pair.{Pair}
use Rattle.myi_keylist.specs.PairOrder.{pair_cmp, put_pair, sorted}
use Rattle.myi_keylist.specs.Repeats.{keys_of}
use Rattle.myi_keylist.proofs.CallerLemmas.{sorted_sorted}
use Rattle.myi_pack.specs.Packed.{Values}
use Rattle.myi_data.specs.Keys.{segments_of, key_of, seg_of}
use Rattle.myi_data.proofs.CallerLemmas.{segments_at}
use Rattle.myi_rowkeys.specs.TableKeys.{numbers_from, key_numbers}
use Rattle.myi_rowkeys.proofs.CallerLemmas.{mapped_at, length-numbers}
use Rattle.myi_order.specs.Prefixes.{per, per_each}
use Rattle.myi_order.specs.declared.key_parts.KeyParts.{KeyParts}
use Rattle.myi_order.specs.KeyParts.{keys_in, parts_of, key_parts}
use Rattle.myi_order.specs.Numbers.{all_per}
use Rattle.myi_order.specs.Listed.{IsListOfKey, parts_at}
use Rattle.myi_order.proofs.PrefixLaws.{each_sorted}

-- ---- what holds of all pairs of a list holds of those in order

all_put : (P : Pair → Type 0) (p : Pair) (qs : List Pair) → P p → AllByRecursion P qs → AllByRecursion P (put_pair p qs)
all_put P p [] is all = (is, tt)
all_put P p (q ∷ qs) is all = choose (is_gt (pair_cmp p q)) (all_put P p qs is all.1)
  where
    choose : (b : Bool) → AllByRecursion P (put_pair p qs) → AllByRecursion P (cond b (q ∷ put_pair p qs) (p ∷ q ∷ qs))
    choose false rest = (is, all)
    choose true rest = (all.0, rest)

all_sorted : (P : Pair → Type 0) (ps : List Pair) → AllByRecursion P ps → AllByRecursion P (sorted ps)
all_sorted P [] all = tt
all_sorted P (p ∷ ps) all = all_put P p (sorted ps) all.0 (all_sorted P ps all.1)

-- ---- the keys of rows have so many segments

key_long : (d : Defs) (k : ℕ) (row : Values) → length (key_of d k row) ≡ length (segments_of d.keys k)
unfolding key_of
key_long d k row = length-map (segments_of d.keys k) (seg_of d.fields row)

keys_long : (d : Defs) (k : ℕ) (list : List Pair) (rows : List Values) → keys_of list ≡ keys_in d rows k → AllByRecursion (λ (p : Pair). length p.key ≡ length (segments_of d.keys k)) list
keys_long d k [] rows same = tt
keys_long d k (p ∷ list) [] same = absurd cc
keys_long d k (p ∷ list) (row ∷ rows) same = (
  ap (λ (xs : List (List KeySeg)). length (get_or xs 0 [])) same ∙ key_long d k row,
  keys_long d k list rows (ap (drop 1) same),
)

abbrev keyed : ℕ → List ℕ → KeyParts
keyed i per = record { key = i + 1; per = per }

module _ (d : Defs) (rows : List Values) (all : List (List Pair)) (keys : map keys_of all ≡ map (keys_in d rows) (key_numbers d)) (long : length all ≡ length d.keys) where
  keys_here : (i : ℕ) → i < length all → keys_of (get_or all i []) ≡ keys_in d rows (i + 1)
  keys_here i few =
      sym (get_or-map keys_of all i []) ∙ ap (λ (xs : List (List (List KeySeg))). get_or xs i []) keys
      ∙ mapped_at (keys_in d rows) 1 (length d.keys) i [] (omega (arith, few, long)) ∙ ap (keys_in d rows) (let e : 1 + i ≡ i + 1 = omega arith in e)

  in_order : (i : ℕ) → get_or (map sorted all) i [] ≡ sorted (get_or all i [])
  in_order i = get_or-map sorted all i []

  pub list_of_key : (i : ℕ) → i < length (map sorted all) → IsListOfKey d i (get_or (map sorted all) i [])
  list_of_key i few =
      let inside : i < length all = omega (arith, few, length-map all sorted) in
      subst (IsListOfKey d i) (sym (in_order i)) (record {
        order = sorted_sorted (get_or all i []);
        segments = all_sorted _ (get_or all i []) (keys_long d (i + 1) (get_or all i []) rows (keys_here i inside));
      })

  none : KeyParts
  none = record { key = 0; per = [] }

  part_here : (i : ℕ) → i < length all → parts_at d (map sorted all) i ≡ parts_of d rows (i + 1)
  part_here i few =
      ap (keyed i)
      (ap (λ l. per_each (length (segments_of d.keys (i + 1))) (keys_of l)) (in_order i) ∙ each_sorted (length (segments_of d.keys (i + 1))) (get_or all i []) ∙ ap (per_each (length (segments_of d.keys (i + 1)))) (keys_here i few))

  pub parts_are : (parts : List KeyParts) (n : ℕ) → n ≡ length all → parts ≡ map (parts_at d (map sorted all)) (range_with_len 0 n) → parts ≡ key_parts d rows
  parts_are parts n many is =
      is ∙ ext_get_or none (map (parts_at d (map sorted all)) (range_with_len 0 n)) (key_parts d rows)
      (length-map-range_with_len (parts_at d (map sorted all)) 0 n ∙ many ∙ long ∙ sym (length-map (key_numbers d) (parts_of d rows) ∙ length-numbers 1 (length d.keys)))
      (λ i few.
      let inside : i < n = omega (arith, few, length-map-range_with_len (parts_at d (map sorted all)) 0 n) in
      get_or-map-range_with_len (parts_at d (map sorted all)) 0 n i i none inside (omega arith)
      ∙ part_here i (omega (arith, inside, many))
      ∙ sym (mapped_at (parts_of d rows) 1 (length d.keys) i none (omega (arith, inside, many, long)) ∙ ap (parts_of d rows) (let e : 1 + i ≡ i + 1 = omega arith in e)))

-- ---- four bytes hold each number

per_small : (j : ℕ) (keys : List (List KeySeg)) → per j keys < 256 ^ 4
unfolding per
per_small j [] = omega arith
per_small j (key ∷ keys) = omega arith

each_small : (keys : List (List KeySeg)) (js : List ℕ) → AllByRecursion (λ n. n < 256 ^ 4) (map (λ j. per j keys) js)
each_small keys [] = tt
each_small keys (j ∷ js) = (per_small j keys, each_small keys js)

all_both : (P : ℕ → Type 0) (xs ys : List ℕ) → AllByRecursion P xs → AllByRecursion P ys → AllByRecursion P (xs ++ ys)
all_both P [] ys one other = other
all_both P (x ∷ xs) ys one other = (one.0, all_both P xs ys one.1 other)

pub all_small : (d : Defs) (rows : List Values) (ks : List ℕ) → AllByRecursion (λ n. n < 256 ^ 4) (all_per (map (parts_of d rows) ks))
all_small d rows [] = tt
all_small d rows (k ∷ ks) = all_both _ (per_each (length (segments_of d.keys k)) (keys_in d rows k)) (all_per (map (parts_of d rows) ks)) (each_small (keys_in d rows k) (range_with_len 1 (length (segments_of d.keys k)))) (all_small d rows ks)

module _ (d : Defs) (rows : List Values) (all now : List (List Pair)) (keys : map keys_of all ≡ map (keys_in d rows) (key_numbers d)) (long : length all ≡ length d.keys) (is : now ≡ map sorted all) where
  pub each_list : (i : ℕ) → i < length now → IsListOfKey d i (get_or now i [])
  each_list = subst (λ (l : List (List Pair)). (i : ℕ) → i < length l → IsListOfKey d i (get_or l i [])) (sym is) (list_of_key d rows all keys long)

  pub all_parts : (parts : List KeyParts) → parts ≡ map (parts_at d now) (range_with_len 0 (length now)) → parts ≡ key_parts d rows
  all_parts parts made =
      parts_are d rows all keys long parts (length (map sorted all)) (length-map all sorted)
      (subst (λ (l : List (List Pair)). parts ≡ map (parts_at d l) (range_with_len 0 (length l))) is made)

-- ---- there is a number for each segment of a key

total : List ℕ → ℕ
total [] = 0
total (n ∷ ns) = n + total ns

parts_length : (d : Defs) (rows : List Values) (ks : List ℕ) → length (all_per (map (parts_of d rows) ks)) ≡ total (map (λ k. length (segments_of d.keys k)) ks)
unfolding total
parts_length d rows [] = refl
parts_length d rows (k ∷ ks) =
    omega (
      arith,
      length-append (per_each (length (segments_of d.keys k)) (keys_in d rows k)) (all_per (map (parts_of d rows) ks)),
      length-map-range_with_len (λ j. per j (keys_in d rows k)) 1 (length (segments_of d.keys k)),
      parts_length d rows ks,
    )

total_sum : (keys : List Key) → total (map (λ (k : Key). length k.segments) keys) ≡ sum_by (λ (k : Key). length k.segments) keys
unfolding total
total_sum [] = refl
total_sum (k ∷ keys) = omega (arith, total_sum keys, sum_by-cons (λ (x : Key). length x.segments) k keys)

no_key : Key
no_key = record { unique = false; block_length = 0; segments = [] }

each_length : (keys : List Key) → map (λ k. length (segments_of keys k)) (numbers_from 1 (length keys)) ≡ map (λ (k : Key). length k.segments) keys
each_length keys =
    ext_get_or 0 (map (λ k. length (segments_of keys k)) (numbers_from 1 (length keys))) (map (λ (k : Key). length k.segments) keys)
    (length-map (numbers_from 1 (length keys)) (λ k. length (segments_of keys k)) ∙ length-numbers 1 (length keys) ∙ sym (length-map keys (λ (k : Key). length k.segments)))
    (λ i few.
    let inside : i < length keys = omega (arith, few, length-map (numbers_from 1 (length keys)) (λ k. length (segments_of keys k)), length-numbers 1 (length keys)) in
    mapped_at (λ k. length (segments_of keys k)) 1 (length keys) i 0 inside
    ∙ ap (λ (s : List Segment). length s) (segments_at keys (1 + i) no_key (omega arith) (omega arith))
    ∙ ap (λ n. length (get_or keys n no_key).segments) (let e : 1 + i - 1 ≡ i = omega arith in e)
    ∙ sym (lists.get_or-map (λ (k : Key). length k.segments) keys i no_key 0 inside))

pub parts_few : (d : Defs) (rows : List Values) → IsSound d → length (all_per (key_parts d rows)) ≤ num_at 14 2 d.raw
parts_few d rows good = omega (arith, parts_length d rows (key_numbers d), ap total (each_length d.keys), total_sum d.keys, good.key_parts)
