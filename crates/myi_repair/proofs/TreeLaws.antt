-- The trees, one after the other.
use Rattle.std.proofs.Common.{◌≡◌, ℕ, zero, suc, ◌+◌, ◌-◌, ◌*◌, ◌%◌, ◌^◌, ◌<◌, ◌≤◌, List, [], ◌∷◌, ◌++◌, length, get_or, drop, Option, Some, unwrap_or, refl, sym, ap, subst, ◌∙◌, arith, append_assoc, drop-cons}
use Rattle.std.specs.Prelude.{map, IsPermutation, All}
use Rattle.std.specs.List.{AllByRecursion}
use Rattle.std.proofs.Math.ListN.{get_or-map}
use Rattle.std.proofs.lemmas.List.{length-map, append-nil, drop_all, get_or_default}
use Rattle.std.proofs.lemmas.List.Elements.{All-push, All-nil}
use Rattle.std.proofs.lemmas.List.Sorted.{All-permutation}
use Rattle.std.proofs.lemmas.List.Elements.{All-from_recursion, recursion_from_All}
use Rattle.myi_base.specs.Holding.{Holding, bytes_of, overwritten, Cuts, OthersStay}
use Rattle.myi_defs.specs.declared.types.Defs.{Defs}
use Rattle.myi_header.specs.StateOf.{IsPlace}
use Rattle.myi_header.specs.Layout.{first_page_of}
use Rattle.myi_keys.specs.Limits.{IsKey}
use Rattle.myi_keycache.specs.Kept.{kept}
use Rattle.myi_keycache.specs.Lent.{flushed}
use Rattle.myi_keycache.specs.Caching.{pages_of, Caching, contents, IsCurrent}
use Rattle.myi_keylist.specs.declared.pair.Pair.{Pair}
use Rattle.myi_btree.specs.declared.place.Place.{Place}
use Rattle.myi_btree.specs.Walk.{Node}
use Rattle.myi_btree.specs.Sizes.{IsPlaced, AreSized}
use Rattle.myi_btree.specs.LaidPages.{root_of}
use Rattle.myi_btree.specs.Building.{laid_at, CanLay, EndBefore, Lays}
use Rattle.myi_btree.proofs.CallerLemmas.{multiple, ends}
use Rattle.myi_pair.specs.FirstRows.{key_numbers, numbers_from}
use Rattle.myi_keylist.specs.PairOrder.{sorted}
use Rattle.myi_pair.specs.Trees.{place_of, block_of_key}
use Rattle.myi_pair.specs.RebuiltBytes.{LaidTrees, laid_trees, pages_then}
use Rattle.myi_btree.specs.TreePages.{tree_pages, tree_end, with_tree, CanBeLaid, HasBehind}
use Rattle.myi_btree.proofs.CallerLemmas.{tree_behind, tree_long, over_behind}
use Rattle.myi_keylist.proofs.CallerLemmas.{sorted_permutes}
use Rattle.myi_repair.specs.Building.{trees_of, LaysTrees}
use Rattle.myi_rowkeys.proofs.CallerLemmas.{length-numbers}
use Rattle.myi_repair.proofs.FilesLaws.{resized_none}

-- ---- what sorting keeps

permuted : {X : Type 0} (P : X → Type 0) (xs ys : List X) → IsPermutation xs ys → AllByRecursion P xs → AllByRecursion P ys
permuted P xs ys same all = recursion_from_All P ys (All-permutation P xs ys same (All-from_recursion P xs all))

pub sorted_sized : (place : Place) (ps : List Pair) → AreSized place ps → AreSized place (sorted ps)
sorted_sized place ps all = permuted _ ps (sorted ps) (sorted_permutes ps) all

pub sorted_keys : (ps : List Pair) → AllByRecursion (λ (p : Pair). IsKey p.key) ps → AllByRecursion (λ (p : Pair). IsKey p.key) (sorted ps)
sorted_keys ps all = permuted (λ (p : Pair). IsKey p.key) ps (sorted ps) (sorted_permutes ps) all

-- ---- done and left make the whole

-- the trees that are left after so many, from a place on
abbrev pub rest_of : Defs → List (List Pair) → ℕ → ℕ → LaidTrees
rest_of d lists i end = laid_trees d end (drop i (key_numbers d)) (drop i (map sorted lists))

-- so many roots and the trees that are left are those of all trees
pub record AreLaidTo (d : Defs) (lists : List (List Pair)) (i end : ℕ) (roots : List (Option ℕ)) : Type 0 where
  pub all_roots : roots ++ (rest_of d lists i end).roots ≡ (trees_of d lists).roots
  pub last : (rest_of d lists i end).end ≡ (trees_of d lists).end
  pub whole : end % 1024 ≡ 0
  pub places : All IsPlace roots

-- so do their pages
pub record HoldsTo (d : Defs) (lists : List (List Pair)) (i end : ℕ) (file : List ℕ) : Type 0 where
  pub bytes : List ℕ
  pub behind : HasBehind (first_page_of d) end bytes file
  pub all : bytes ++ (rest_of d lists i end).bytes ≡ (trees_of d lists).bytes

abbrev pub LaysTo : Defs → List (List Pair) → ℕ → ℕ → Caching → Caching → Holding → Holding → Type 0
LaysTo d lists i end old now m n = CanLay old m (first_page_of d) → CanLay now n end × OthersStay old.name m n × (length (contents old m) ≡ 0 → HoldsTo d lists i end (contents now n))

module _ (d : Defs) (lists : List (List Pair)) (i end : ℕ) (ps : List Pair) (inside : i < length lists) (keys : length lists ≡ length d.keys) (is : ps ≡ get_or lists i ps) where
  number_here : drop i (key_numbers d) ≡ (i + 1) ∷ drop (i + 1) (key_numbers d)
  number_here =
      let next : suc i ≡ i + 1 = omega arith in
      let from : 1 + i ≡ i + 1 = omega arith in
      drop-cons (key_numbers d) i 0 (omega (arith, length-numbers 1 (length d.keys))) ∙ ap (λ k. k ∷ drop (suc i) (key_numbers d)) (number_at 1 (length d.keys) i (omega arith) ∙ from) ∙ ap (λ j. (i + 1) ∷ drop j (key_numbers d)) next
    where
      number_at : (at n k : ℕ) → k < n → get_or (numbers_from at n) k 0 ≡ at + k
      number_at at zero k inside = absurd (omega arith)
      number_at at (suc n) zero inside = omega arith
      number_at at (suc n) (suc k) inside = number_at (suc at) n k (omega arith) ∙ omega arith

  list_here : drop i (map sorted lists) ≡ sorted ps ∷ drop (i + 1) (map sorted lists)
  list_here =
      let next : suc i ≡ i + 1 = omega arith in
      drop-cons (map sorted lists) i (sorted ps) (omega (arith, length-map lists sorted)) ∙ ap (λ p. p ∷ drop (suc i) (map sorted lists)) (get_or-map sorted lists i ps ∙ ap sorted (sym is)) ∙ ap (λ j. sorted ps ∷ drop j (map sorted lists)) next

  -- the next tree and those behind it
  rest_here : rest_of d lists i end ≡ pages_then d (i + 1) end (laid_at (place_of d (i + 1)) end (sorted ps)) (rest_of d lists (i + 1) (tree_end (place_of d (i + 1)) end (sorted ps)))
  rest_here = ap (λ ks. laid_trees d end ks (drop i (map sorted lists))) number_here ∙ ap (λ ls. laid_trees d end ((i + 1) ∷ drop (i + 1) (key_numbers d)) ls) list_here

  pub laid_next : (next : ℕ) (root : Option ℕ) (roots : List (Option ℕ)) → IsPlaced (place_of d (i + 1)) → next ≡ tree_end (place_of d (i + 1)) end (sorted ps) → next < 2 ^ 64 → root ≡ root_of (block_of_key d (i + 1)) end (laid_at (place_of d (i + 1)) end (sorted ps))
      → AreLaidTo d lists i end roots → AreLaidTo d lists (i + 1) next (roots ++ root ∷ [])
  laid_next next root roots placed ended short rooted was = record {
    all_roots = append_assoc roots (root ∷ []) (rest_of d lists (i + 1) next).roots ∙ ap (λ r. roots ++ r ∷ (rest_of d lists (i + 1) next).roots) rooted
        ∙ ap (λ e. roots ++ root_of (block_of_key d (i + 1)) end (laid_at (place_of d (i + 1)) end (sorted ps)) ∷ (rest_of d lists (i + 1) e).roots) ended ∙ ap (λ t. roots ++ t.roots) (sym rest_here) ∙ was.all_roots;
    last = ap (λ e. (rest_of d lists (i + 1) e).end) ended ∙ ap (λ t. t.end) (sym rest_here) ∙ was.last;
    whole = ap (λ e. e % 1024) ended ∙ multiple (block_of_key d (i + 1)) (length (laid_at (place_of d (i + 1)) end (sorted ps))) end was.whole placed.whole;
    places = All-push IsPlace roots root was.places (subst IsPlace (sym rooted) (root_place (block_of_key d (i + 1)) end (laid_at (place_of d (i + 1)) end (sorted ps)) placed.least (omega (arith, short, ended))));
  }
    where
      root_place : (block first : ℕ) (nodes : List Node) → 1024 ≤ block → first + block * length nodes < 2 ^ 64 → IsPlace (root_of block first nodes)
      root_place block first [] large short same = absurd cc
      root_place block first (node ∷ nodes) large short same = far (first + block * length nodes) (omega arith) same
        where
          far : (p : ℕ) → p + 1024 < 2 ^ 64 → ◌≡◌ {A = Option ℕ} (Some p) (Some (2 ^ 64 - 1)) → ⊥
          far p low same = let e : p ≡ 2 ^ 64 - 1 = ap (λ o. unwrap_or o 0) same in omega arith

  -- the bytes of the next tree behind those of the trees before it
  all_next : (next : ℕ) (bytes : List ℕ) → next ≡ tree_end (place_of d (i + 1)) end (sorted ps) → bytes ++ (rest_of d lists i end).bytes ≡ (trees_of d lists).bytes
      → (bytes ++ tree_pages (place_of d (i + 1)) end (sorted ps)) ++ (rest_of d lists (i + 1) next).bytes ≡ (trees_of d lists).bytes
  all_next next bytes ended all =
      append_assoc bytes (tree_pages (place_of d (i + 1)) end (sorted ps)) (rest_of d lists (i + 1) next).bytes ∙ ap (λ e. bytes ++ (tree_pages (place_of d (i + 1)) end (sorted ps) ++ (rest_of d lists (i + 1) e).bytes)) ended ∙ ap (λ t. bytes ++ t.bytes) (sym rest_here) ∙ all

  -- they are written behind them
  pub holds_next : (next : ℕ) (file : List ℕ) → CanBeLaid (place_of d (i + 1)) end (sorted ps) → next ≡ tree_end (place_of d (i + 1)) end (sorted ps) → HoldsTo d lists i end file
      → HoldsTo d lists (i + 1) next (overwritten end (tree_pages (place_of d (i + 1)) end (sorted ps)) file)
  holds_next next file can ended held =
      let pages : List ℕ = tree_pages (place_of d (i + 1)) end (sorted ps) in
      record {
        bytes = held.bytes ++ pages;
        behind = subst (λ e. HasBehind (first_page_of d) e (held.bytes ++ pages) (overwritten end pages file)) (tree_long (place_of d (i + 1)) end (sorted ps) can ∙ sym ended) (over_behind (first_page_of d) end held.bytes file pages held.behind);
        all = all_next next held.bytes ended held.all;
      }

  pub lays_next : (next : ℕ) (old now new : Caching) (m n o : Holding) → CanBeLaid (place_of d (i + 1)) end (sorted ps) → next ≡ tree_end (place_of d (i + 1)) end (sorted ps) → now.name ≡ old.name → (CanLay now n end → Lays (place_of d (i + 1)) end (laid_at (place_of d (i + 1)) end (sorted ps)) now new n o)
      → LaysTo d lists i end old now m n → LaysTo d lists (i + 1) next old new m o
  lays_next next old now new m n o can ended named lays was begin =
      let before = was begin in
      let laid = lays before.0 in
      let nodes = laid_at (place_of d (i + 1)) end (sorted ps) in (
        record {
          current = laid.spares.current;
          before = subst (EndBefore (pages_of new)) (sym ended) (ends (place_of d (i + 1)) end (length nodes) (pages_of now) (pages_of new) before.0.before laid.kept);
        },
        λ q differs. laid.spares.others q (λ same. differs (same ∙ named)) ∙ before.1 q differs,
        λ none.
            let held = before.2 none in
            record {
              bytes = held.bytes ++ tree_pages (place_of d (i + 1)) end (sorted ps);
              behind = subst (λ file. HasBehind (first_page_of d) next (held.bytes ++ tree_pages (place_of d (i + 1)) end (sorted ps)) file) (sym laid.contents)
                  (subst (λ e. HasBehind (first_page_of d) e (held.bytes ++ tree_pages (place_of d (i + 1)) end (sorted ps)) (with_tree (place_of d (i + 1)) end (sorted ps) (contents now n))) (sym ended) (tree_behind (place_of d (i + 1)) end (sorted ps) can (first_page_of d) held.bytes (contents now n) held.behind));
              all = all_next next held.bytes ended held.all;
            },
      )

pub item_is : (lists : List (List Pair)) (i : ℕ) (ps : List Pair) → i < length lists → ps ≡ get_or lists i ps → get_or lists i [] ≡ ps
item_is lists i ps inside is = get_or_default lists i [] ps inside ∙ sym is

-- ---- nothing is left

rest_none : (d : Defs) (lists : List (List Pair)) (i end : ℕ) → i ≡ length lists → length lists ≡ length d.keys → rest_of d lists i end ≡ record { bytes = []; roots = []; end = end }
rest_none d lists i end all keys =
    ap (λ ks. laid_trees d end ks (drop i (map sorted lists))) (drop_all i (key_numbers d) (omega (arith, length-numbers 1 (length d.keys))))

pub laid_all : (d : Defs) (lists : List (List Pair)) (i end : ℕ) (roots : List (Option ℕ)) → i ≡ length lists → length lists ≡ length d.keys → AreLaidTo d lists i end roots → (roots ≡ (trees_of d lists).roots) × (end ≡ (trees_of d lists).end)
laid_all d lists i end roots all keys laid =
    let none = rest_none d lists i end all keys in
    (sym (append-nil roots) ∙ ap (λ t. roots ++ t.roots) (sym none) ∙ laid.all_roots, ap (λ t. t.end) (sym none) ∙ laid.last)

-- the bytes of all trees
pub holds_all : (d : Defs) (lists : List (List Pair)) (i end : ℕ) (file : List ℕ) → i ≡ length lists → length lists ≡ length d.keys → end ≡ (trees_of d lists).end → HoldsTo d lists i end file → HasBehind (first_page_of d) (trees_of d lists).end (trees_of d lists).bytes file
holds_all d lists i end file all keys ended held =
    let none = rest_none d lists i end all keys in
    let bytes : held.bytes ≡ (trees_of d lists).bytes = sym (append-nil held.bytes) ∙ ap (λ t. held.bytes ++ t.bytes) (sym none) ∙ held.all in
    subst (λ b. HasBehind (first_page_of d) (trees_of d lists).end b file) bytes (subst (λ e. HasBehind (first_page_of d) e held.bytes file) ended held.behind)

pub lays_all : (d : Defs) (lists : List (List Pair)) (i end : ℕ) (old now : Caching) (m n : Holding) → i ≡ length lists → length lists ≡ length d.keys → end ≡ (trees_of d lists).end → LaysTo d lists i end old now m n → LaysTrees d lists old now m n
lays_all d lists i end old now m n all keys ended lays begin empty =
    let now_is = lays begin in
    (now_is.0.current, holds_all d lists i end (contents now n) all keys ended (now_is.2 empty))

-- ---- an empty file

-- no tree was written yet
pub holds_none : (d : Defs) (lists : List (List Pair)) (file : List ℕ) → length file ≡ 0 → HoldsTo d lists 0 (first_page_of d) file
holds_none d lists file none = record {
  bytes = [];
  behind = record { behind = drop_all (first_page_of d) file (omega (arith, none)); long = omega arith; short = omega (arith, none) };
  all = refl;
}

pub laid_none : (d : Defs) (lists : List (List Pair)) → first_page_of d % 1024 ≡ 0 → AreLaidTo d lists 0 (first_page_of d) []
laid_none d lists whole = record { all_roots = refl; last = refl; whole = whole; places = All-nil IsPlace }

-- pages may be put from anywhere on in the file of a cache that keeps none
pub begins : (cache : Caching) (first : ℕ) (m : Holding) → (pages_of cache) ≡ [] → IsCurrent cache m → CanLay cache m first
unfolding kept
begins cache first m none current = record { current = current; before = subst (λ ps. EndBefore ps first) (sym none) (none_kept first) }
  where
    none_kept : (first : ℕ) → EndBefore [] first
    none_kept first p n there = absurd cc

-- the file was emptied, and then the trees were laid in it
pub others_laid : (cache : Caching) (file : List ℕ) (first : ℕ) (m k n : Holding) → (pages_of cache) ≡ [] → cache.name ≡ file → IsCurrent cache k → Cuts file 0 m k → (CanLay cache k first → OthersStay cache.name k n) → OthersStay file m n
others_laid cache file first m k n none named current cut laid q differs = laid (begins cache first k none current) q (λ same. differs (same ∙ named)) ∙ cut.others q differs

pub empty_contents : (cache : Caching) (file : List ℕ) (m n : Holding) → (pages_of cache) ≡ [] → cache.name ≡ file → Cuts file 0 m n → length (contents cache n) ≡ 0
unfolding flushed
empty_contents cache file m n none named cut =
    ap (λ ps. length (flushed ps (bytes_of cache.name n))) none ∙ ap (λ f. length (bytes_of f n)) named ∙ ap (λ o. length (unwrap_or o [])) cut.here ∙ ap (λ (b : List ℕ). length b) (resized_none (bytes_of file m))
