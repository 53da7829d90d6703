-- Trees that are laid one behind the other, key after key.
use Rattle.std.proofs.Common.{◌≡◌, ℕ, zero, suc, ◌+◌, ◌*◌, ◌<◌, ◌≤◌, Option, Some, None, List, [], ◌∷◌, ◌++◌, length, get_or, take, map, refl, sym, ap, subst, ◌∙◌, arith}
use Rattle.std.proofs.lemmas.List.{take_more, get_or-map}
use Rattle.std.proofs.lemmas.List.Sums.{sum_by-append, sum_by-cons}
use Rattle.myi_base.specs.Ranges.{Range}
use Rattle.myi_base.specs.Holding.{overwritten}
use Rattle.myi_defs.specs.declared.types.Defs.{Defs}
use Rattle.myi_btree.specs.Walk.{Places, Walked, Agree}
use Rattle.myi_btree.specs.LaidPages.{places_from}
use Rattle.myi_treecopy.proofs.CallerLemmas.{Frame, pairs_agree, places_kept, places_behind}
use Rattle.myi_rowkeys.specs.TableKeys.{numbers_from}
use Rattle.myi_pair.specs.Trees.{block_of_key, no_walk, pages_on, HasWalkApart, HaveWalks}
use Rattle.myi_sortindex.specs.Sorting.{nodes_of, root_at}
use Rattle.myi_sortindex.specs.Laying.{Tree, HasTreeWalk, AreTrees, end_of, roots_from, page_count, LaysTree, LaysTrees}

-- ---- where trees end

pub end_above : (d : Defs) (start k : ℕ) (ts : List Tree) → start ≤ end_of d start k ts
end_above d start k [] = omega arith
end_above d start k (t ∷ ts) = omega (arith, end_above d (start + block_of_key d k * length t.1.pages) (suc k) ts)

-- the first trees end no later than all
pub end_first : (d : Defs) (n start k : ℕ) (ts : List Tree) → end_of d start k (take n ts) ≤ end_of d start k ts
end_first d zero start k ts = end_above d start k ts
end_first d (suc n) start k [] = omega arith
end_first d (suc n) start k (t ∷ ts) = end_first d n (start + block_of_key d k * length t.1.pages) (suc k) ts

no_more : (k : ℕ) → k + 0 ≡ k
no_more k = omega arith

one_later : (k n : ℕ) → k + suc n ≡ suc k + n
one_later k n = omega arith

-- one tree more

pub end_more : (d : Defs) (start k : ℕ) (ts : List Tree) (t : Tree) → end_of d start k (ts ++ t ∷ []) ≡ end_of d start k ts + block_of_key d (k + length ts) * length t.1.pages
end_more d start k [] t = ap (λ j. start + block_of_key d j * length t.1.pages) (sym (no_more k))
end_more d start k (s ∷ ts) t =
    let next : ℕ = start + block_of_key d k * length s.1.pages in
    end_more d next (suc k) ts t ∙ ap (λ j. end_of d next (suc k) ts + block_of_key d j * length t.1.pages) (sym (one_later k (length ts)))

pub roots_more : (d : Defs) (start k : ℕ) (ts : List Tree) (t : Tree) → roots_from d start k (ts ++ t ∷ []) ≡ roots_from d start k ts ++ root_at (end_of d start k ts) t.0 ∷ []
roots_more d start k [] t = refl
roots_more d start k (s ∷ ts) t = ap (λ rs. root_at start s.0 ∷ rs) (roots_more d (start + block_of_key d k * length s.1.pages) (suc k) ts t)

pub count_more : (ts : List Tree) (t : Tree) → page_count (ts ++ t ∷ []) ≡ page_count ts + length t.1.pages
count_more ts t = omega (arith, sum_by-append (λ (u : Tree). length u.1.pages) ts (t ∷ []), sum_by-cons (λ (u : Tree). length u.1.pages) t [])

pub trees_more : (d : Defs) (x y : List ℕ) (start k : ℕ) (ts : List Tree) (t : Tree) (v : Walked) → LaysTrees d x y start k ts
    → LaysTree (block_of_key d (k + length ts)) (nodes_of d (k + length ts) x) (nodes_of d (k + length ts) y) (end_of d start k ts) t v → LaysTrees d x y start k (ts ++ t ∷ [])
trees_more d x y start k [] t v l one = ((v, subst (λ j. LaysTree (block_of_key d j) (nodes_of d j x) (nodes_of d j y) start t v) (no_more k) one), tt)
trees_more d x y start k (s ∷ ts) t v l one =
    let next : ℕ = start + block_of_key d k * length s.1.pages in
    (l.0, trees_more d x y next (suc k) ts t v l.1 (subst (λ j. LaysTree (block_of_key d j) (nodes_of d j x) (nodes_of d j y) (end_of d next (suc k) ts) t v) (one_later k (length ts)) one))

pub roots_long : (d : Defs) (start k : ℕ) (ts : List Tree) → length (roots_from d start k ts) ≡ length ts
roots_long d start k [] = refl
roots_long d start k (t ∷ ts) = ap suc (roots_long d (start + block_of_key d k * length t.1.pages) (suc k) ts)

-- ---- trees that stay where their pages do

walk_stays : Frame → (one two : Places) (root : Option ℕ) (v : Walked) → Agree one two v.pages → HasTreeWalk one root v → HasTreeWalk two root v
walk_stays frame one two None v agree h = h
walk_stays frame one two (Some root) v agree h = (h.0, frame one two h.0 root v h.1 agree)

tree_stays : Frame → (block : ℕ) (old one two : Places) (start : ℕ) (t : Tree) (v : Walked) → LaysTree block old one start t v → Agree one two (places_from (length t.1.pages) block start) → LaysTree block old two start t v
tree_stays frame block old one two start t v l same =
    let agree : Agree one two v.pages = subst (λ ps. Agree one two ps) (sym l.places) same in
    record {
      walk = walk_stays frame one two (root_at start t.0) v agree l.walk;
      pairs = l.pairs;
      places = l.places;
      pages = sym (pairs_agree one two v.pages agree) ∙ l.pages;
    }

pub trees_kept : Frame → (d : Defs) (x y z : List ℕ) (start k : ℕ) (ts : List Tree) → take (length y) z ≡ y → end_of d start k ts ≤ length y → LaysTrees d x y start k ts → LaysTrees d x z start k ts
trees_kept frame d x y z start k [] kept inside l = tt
trees_kept frame d x y z start k (t ∷ ts) kept inside l =
    let block : ℕ = block_of_key d k in
    let next : ℕ = start + block * length t.1.pages in
    let low : next ≤ end_of d next (suc k) ts = end_above d next (suc k) ts in (
      (l.0.0, tree_stays frame block (nodes_of d k x) (nodes_of d k y) (nodes_of d k z) start t l.0.0 l.0.1 (places_kept d.rec_ref block (length t.1.pages) start y z kept (omega (arith, low, inside)))),
      trees_kept frame d x y z next (suc k) ts kept inside l.1,
    )

pub trees_behind : Frame → (d : Defs) (x y header : List ℕ) (start k : ℕ) (ts : List Tree) → length header ≤ start → LaysTrees d x y start k ts → LaysTrees d x (overwritten 0 header y) start k ts
trees_behind frame d x y header start k [] low l = tt
trees_behind frame d x y header start k (t ∷ ts) low l =
    let block : ℕ = block_of_key d k in
    let next : ℕ = start + block * length t.1.pages in (
      (
        l.0.0,
        tree_stays frame block (nodes_of d k x) (nodes_of d k y) (nodes_of d k (overwritten 0 header y)) start t l.0.0 l.0.1 (places_behind d.rec_ref block (length t.1.pages) start 0 header y (omega (arith, low))),
      ),
      trees_behind frame d x y header next (suc k) ts (omega (arith, low)) l.1,
    )

-- ---- the trees of an index file, by their walks

apart_walk : (d : Defs) (x : List ℕ) (busy : List Range) (k : ℕ) (root : Option ℕ) (w : Walked) → HasWalkApart d k x root busy w → HasTreeWalk (nodes_of d k x) root w
apart_walk d x busy k None w h = h
apart_walk d x busy k (Some root) w h = (h.0.height, h.0.walk)

-- the trees that have these roots and these walks
pub record OfWalks (d : Defs) (x : List ℕ) (k : ℕ) (rs : List (Option ℕ)) (ws : List Walked) : Type 0 where
  pub trees : List Tree
  pub are : AreTrees d x k trees
  pub roots : map (λ (t : Tree). t.0) trees ≡ rs
  pub walks : map (λ (t : Tree). t.1) trees ≡ ws

pub of_walks : (d : Defs) (x : List ℕ) (busy : List Range) (k n : ℕ) (roots : List (Option ℕ)) (ws : List Walked) → HaveWalks d x busy (numbers_from k n) roots ws → OfWalks d x k roots ws
of_walks d x busy k zero roots ws h = record { trees = []; are = tt; roots = sym h.0; walks = sym h.1 }
of_walks d x busy k (suc n) [] ws h = absurd h
of_walks d x busy k (suc n) (root ∷ roots) [] h = absurd h
of_walks d x busy k (suc n) (root ∷ roots) (w ∷ ws) h =
    let others = of_walks d x (busy ++ pages_on d k w) (suc k) n roots ws h.1 in
    record {
      trees = (root, w) ∷ others.trees;
      are = (apart_walk d x busy k root w h.0, others.are);
      roots = ap (λ rs. root ∷ rs) others.roots;
      walks = ap (λ vs. w ∷ vs) others.walks;
    }

-- so many walks as keys
pub walks_count : (d : Defs) (x : List ℕ) (busy : List Range) (k n : ℕ) (roots : List (Option ℕ)) (ws : List Walked) → HaveWalks d x busy (numbers_from k n) roots ws → length ws ≡ n
walks_count d x busy k zero roots ws h = ap (λ (vs : List Walked). length vs) h.1
walks_count d x busy k (suc n) [] ws h = absurd h
walks_count d x busy k (suc n) (root ∷ roots) [] h = absurd h
walks_count d x busy k (suc n) (root ∷ roots) (w ∷ ws) h = ap suc (walks_count d x (busy ++ pages_on d k w) (suc k) n roots ws h.1)

-- ---- one of the trees

-- no tree
abbrev pub no_tree : Tree
no_tree = (None, no_walk)

pub walk_at : (d : Defs) (x : List ℕ) (k i : ℕ) (ts : List Tree) → AreTrees d x k ts → i < length ts → HasTreeWalk (nodes_of d (k + i) x) (get_or ts i no_tree).0 (get_or ts i no_tree).1
walk_at d x k i [] are low = absurd (omega (arith, low))
walk_at d x k zero (t ∷ ts) are low = subst (λ j. HasTreeWalk (nodes_of d j x) t.0 t.1) (sym (no_more k)) are.0
walk_at d x k (suc i) (t ∷ ts) are low =
    subst (λ j. HasTreeWalk (nodes_of d j x) (get_or ts i no_tree).0 (get_or ts i no_tree).1) (sym (one_later k i)) (walk_at d x (suc k) i ts are.1 (omega (arith, low)))

pub root_is : (ts : List Tree) (roots : List (Option ℕ)) (i : ℕ) (root : Option ℕ) → map (λ (t : Tree). t.0) ts ≡ roots → i < length ts → (get_or ts i no_tree).0 ≡ get_or roots i root
root_is ts roots i root is low = sym (get_or-map (λ (t : Tree). t.0) ts i no_tree root low) ∙ ap (λ rs. get_or rs i root) is

pub taken : (ts : List Tree) (i : ℕ) → i < length ts → take (i + 1) ts ≡ take i ts ++ get_or ts i no_tree ∷ []
taken ts i low = take_more ts i no_tree low
