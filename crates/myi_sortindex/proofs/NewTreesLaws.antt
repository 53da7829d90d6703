-- Trees that were laid are the trees of the new file.
use Rattle.std.proofs.Common.{◌≡◌, ℕ, zero, suc, ◌+◌, ◌-◌, ◌*◌, ◌<◌, ◌≤◌, true, Option, Some, None, List, [], ◌∷◌, ◌++◌, length, map, sum_by, nat_le, refl, sym, ap, subst, ◌∙◌, arith}
use Rattle.std.specs.List.{AllByRecursion}
use Rattle.std.proofs.lemmas.Bool.{and_from, or_left, le-leb}
use Rattle.std.proofs.lemmas.List.Sums.{sum_by-append, sum_by-cons}
use Rattle.myi_base.specs.Ranges.{Range, are_apart, is_apart, AreDisjoint}
use Rattle.myi_defs.specs.declared.types.Defs.{Defs}
use Rattle.myi_btree.specs.Walk.{Walked}
use Rattle.myi_btree.specs.LaidPages.{places_from}
use Rattle.myi_btree.specs.Visit.{page_range}
use Rattle.myi_btree.proofs.CallerLemmas.{length-places_from}
use Rattle.myi_rowkeys.specs.TableKeys.{numbers_from}
use Rattle.myi_pair.specs.KeyList.{PlacedRow}
use Rattle.myi_pair.specs.Trees.{block_of_key, pages_on, HasWalkApart, HaveWalks, AreKeyLists, all_pages, total}
use Rattle.myi_pair.proofs.CallerLemmas.{IsBetween, EndBy, total_pages, end_later, end_append, between_free, between_end}
use Rattle.myi_sortindex.specs.Sorting.{nodes_of, IsLaid, AreLaid, StandsFirst, root_at}
use Rattle.myi_sortindex.specs.Laying.{Tree, HasTreeWalk, end_of, roots_from, page_count, LaysTree, LaysTrees}
use Rattle.myi_sortindex.proofs.FirstLaws.{AreRising, places_rise, pages_first}

-- the walks of trees that were laid
abbrev pub new_walks : (d : Defs) (x y : List ℕ) (start k : ℕ) (ts : List Tree) → LaysTrees d x y start k ts → List Walked
new_walks d x y start k [] l = []
new_walks d x y start k (t ∷ ts) l = l.0.0 ∷ new_walks d x y (start + block_of_key d k * length t.1.pages) (suc k) ts l.1

-- ---- pages one behind the other

apart_before : (block e n p : ℕ) (s : ℕ) → e ≤ p → is_apart (s, e) (map (page_range block) (places_from n block p)) ≡ true
apart_before block e zero p s low = refl
apart_before block e (suc n) p s low =
    and_from (are_apart (s, e) (page_range block p)) (is_apart (s, e) (map (page_range block) (places_from n block (p + block)))) (or_left (nat_le e p) (nat_le (p + block) s) (le-leb e p low)) (apart_before block e n (p + block) s (omega (arith, low)))

places_apart : (n block first : ℕ) → AreDisjoint (map (page_range block) (places_from n block first))
places_apart zero block first = tt
places_apart (suc n) block first = (apart_before block (first + block) n (first + block) first (omega arith), places_apart n block (first + block))

places_between : (low high n block first : ℕ) → low ≤ first → first + block * n ≤ high → AllByRecursion (IsBetween low high block) (places_from n block first)
places_between low high zero block first above below = tt
places_between low high (suc n) block first above below =
    let e : block * suc n ≡ block + block * n = omega arith in
    ((above, omega (arith, below, e)), places_between low high n block (first + block) (omega (arith, above)) (omega (arith, below, e)))

-- ---- one tree

module _ (d : Defs) (x y : List ℕ) (k start : ℕ) (t : Tree) (v : Walked) (l : LaysTree (block_of_key d k) (nodes_of d k x) (nodes_of d k y) start t v) where
  pub long : length v.pages ≡ length t.1.pages
  long = ap (λ (ps : List ℕ). length ps) l.places ∙ length-places_from (length t.1.pages) (block_of_key d k) start

  between : AllByRecursion (IsBetween start (start + block_of_key d k * length t.1.pages) (block_of_key d k)) v.pages
  between = subst (AllByRecursion (IsBetween start (start + block_of_key d k * length t.1.pages) (block_of_key d k))) (sym l.places)
      (places_between start (start + block_of_key d k * length t.1.pages) (length t.1.pages) (block_of_key d k) start (omega arith) (omega arith))

  apart : (busy : List Range) → EndBy start busy → (root : Option ℕ) → HasTreeWalk (nodes_of d k y) (root_at start root) v → HasWalkApart d k y (root_at start root) busy v
  apart busy ends None walk = walk
  apart busy ends (Some root) walk = (
    record {
      height = walk.0;
      walk = walk.1;
      disjoint = subst (λ ps. AreDisjoint (map (page_range (block_of_key d k)) ps)) (sym l.places) (places_apart (length t.1.pages) (block_of_key d k) start);
    },
    between_free start (start + block_of_key d k * length t.1.pages) (block_of_key d k) busy v.pages ends between,
  )

  pub has_walk : (busy : List Range) → EndBy start busy → HasWalkApart d k y (root_at start t.0) busy v
  has_walk busy ends = apart busy ends t.0 l.walk

  pub ends_behind : EndBy (start + block_of_key d k * length t.1.pages) (pages_on d k v)
  ends_behind = between_end start (start + block_of_key d k * length t.1.pages) (block_of_key d k) v.pages between

  rising : 0 < block_of_key d k → AreRising v.pages
  rising some = subst AreRising (sym l.places) (places_rise (length t.1.pages) (block_of_key d k) start some)

  first : 0 < block_of_key d k → (root : Option ℕ) → HasTreeWalk (nodes_of d k y) (root_at start root) v → AllByRecursion (StandsFirst (nodes_of d k y)) v.pages
  first some None walk = subst (λ (w : Walked). AllByRecursion (StandsFirst (nodes_of d k y)) w.pages) (sym walk) tt
  first some (Some root) walk = pages_first (nodes_of d k y) walk.0 start v walk.1 (rising some)

  pub is_laid : 0 < block_of_key d k → IsLaid (block_of_key d k) (nodes_of d k x) (nodes_of d k y) start t.1 v
  is_laid some = record { pairs = l.pairs; places = l.places; pages = l.pages; first = first some t.0 l.walk }

-- ---- all trees

pub have_walks : (d : Defs) (x y : List ℕ) (busy : List Range) (start k n : ℕ) (ts : List Tree) (l : LaysTrees d x y start k ts) → length ts ≡ n → EndBy start busy
    → HaveWalks d y busy (numbers_from k n) (roots_from d start k ts) (new_walks d x y start k ts l)
have_walks d x y busy start k zero [] l long ends = (refl, refl)
have_walks d x y busy start k (suc n) [] l long ends = absurd (omega (arith, long))
have_walks d x y busy start k zero (t ∷ ts) l long ends = absurd (omega (arith, long))
have_walks d x y busy start k (suc n) (t ∷ ts) l long ends =
    let next : ℕ = start + block_of_key d k * length t.1.pages in
    let own : List Range = pages_on d k l.0.0 in (
      has_walk d x y k start t l.0.0 l.0.1 busy ends,
      have_walks d x y (busy ++ own) next (suc k) n ts l.1 (omega (arith, long)) (end_append next busy own (end_later start next busy (omega arith) ends) (ends_behind d x y k start t l.0.0 l.0.1)),
    )

pub are_laid : (d : Defs) (x y : List ℕ) (start k n : ℕ) (ts : List Tree) (l : LaysTrees d x y start k ts) → length ts ≡ n → ((j : ℕ) → k ≤ j → j < k + n → 0 < block_of_key d j)
    → AreLaid d x y start (end_of d start k ts) (numbers_from k n) (map (λ (t : Tree). t.1) ts) (new_walks d x y start k ts l)
are_laid d x y start k zero [] l long some = (refl, refl, refl)
are_laid d x y start k (suc n) [] l long some = absurd (omega (arith, long))
are_laid d x y start k zero (t ∷ ts) l long some = absurd (omega (arith, long))
are_laid d x y start k (suc n) (t ∷ ts) l long some =
    let next : ℕ = start + block_of_key d k * length t.1.pages in (
      is_laid d x y k start t l.0.0 l.0.1 (some k (omega arith) (omega arith)),
      are_laid d x y next (suc k) n ts l.1 (omega (arith, long)) (λ j above below. some j (omega (arith, above)) (omega (arith, below))),
    )

pub key_lists : (d : Defs) (rows : List PlacedRow) (x y : List ℕ) (start k n : ℕ) (ts : List Tree) (l : LaysTrees d x y start k ts) → AreKeyLists d rows (numbers_from k n) (map (λ (t : Tree). t.1) ts)
    → AreKeyLists d rows (numbers_from k n) (new_walks d x y start k ts l)
key_lists d rows x y start k zero [] l lists = refl
key_lists d rows x y start k zero (t ∷ ts) l lists = absurd cc
key_lists d rows x y start k (suc n) [] l lists = lists
key_lists d rows x y start k (suc n) (t ∷ ts) l lists = (l.0.1.pairs ∙ lists.0, key_lists d rows x y (start + block_of_key d k * length t.1.pages) (suc k) n ts l.1 lists.1)

-- the new pages fill the file up to where the trees end
pub pages_fill : (d : Defs) (x y : List ℕ) (start k n : ℕ) (ts : List Tree) (l : LaysTrees d x y start k ts) → length ts ≡ n → start + total (all_pages d (numbers_from k n) (new_walks d x y start k ts l)) ≡ end_of d start k ts
pages_fill d x y start k zero [] l long = omega arith
pages_fill d x y start k (suc n) [] l long = absurd (omega (arith, long))
pages_fill d x y start k zero (t ∷ ts) l long = absurd (omega (arith, long))
pages_fill d x y start k (suc n) (t ∷ ts) l long =
    let block : ℕ = block_of_key d k in
    let next : ℕ = start + block * length t.1.pages in
    omega (
      arith,
      sum_by-append (λ (r : Range). r.1 - r.0) (pages_on d k l.0.0) (all_pages d (numbers_from (suc k) n) (new_walks d x y next (suc k) ts l.1)),
      total_pages block l.0.0.pages,
      ap (λ n. block * n) (long_of d x y k start t l.0.0 l.0.1),
      pages_fill d x y next (suc k) n ts l.1 (omega (arith, long)),
    )
  where
    long_of : (d : Defs) (x y : List ℕ) (k start : ℕ) (t : Tree) (v : Walked) → LaysTree (block_of_key d k) (nodes_of d k x) (nodes_of d k y) start t v → length v.pages ≡ length t.1.pages
    long_of d x y k start t v l = ap (λ (ps : List ℕ). length ps) l.places ∙ length-places_from (length t.1.pages) (block_of_key d k) start

pub same_count : (d : Defs) (x y : List ℕ) (start k : ℕ) (ts : List Tree) (l : LaysTrees d x y start k ts) → page_count ts ≡ sum_by (λ (w : Walked). length w.pages) (new_walks d x y start k ts l)
same_count d x y start k [] l = refl
same_count d x y start k (t ∷ ts) l =
    let next : ℕ = start + block_of_key d k * length t.1.pages in
    omega (
      arith,
      sum_by-cons (λ (t : Tree). length t.1.pages) t ts,
      sum_by-cons (λ (w : Walked). length w.pages) l.0.0 (new_walks d x y next (suc k) ts l.1),
      long d x y k start t l.0.0 l.0.1,
      same_count d x y next (suc k) ts l.1,
    )
