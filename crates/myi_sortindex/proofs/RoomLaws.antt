-- The trees of a clean index file have room in it: no byte belongs to two pages.
use Rattle.std.proofs.Common.{◌≡◌, ℕ, zero, suc, ◌+◌, ◌-◌, ◌*◌, ◌%◌, ◌<◌, ◌≤◌, ◌⊎◌, inl, inr, Bool, true, false, cond, eqb, nat_le, Option, Some, None, List, [], ◌∷◌, ◌++◌, length, length-drop, take, drop, map, refl, sym, ap, subst, ◌∙◌, arith}
use Rattle.std.specs.List.{AllByRecursion, flat_map}
use Rattle.std.proofs.lemmas.Bool.{and_parts, and_from, or_cases, or_left, or_right, leb-true}
use Rattle.std.proofs.lemmas.Option.{same_Some}
use Rattle.std.proofs.lemmas.List.Folds.{list_all-append}
use Rattle.std.proofs.lemmas.List.Sums.{sum_by-append, sum_by-cons}
use Rattle.myi_base.specs.Ranges.{Range, are_apart, is_apart, AreDisjoint}
use Rattle.myi_defs.specs.declared.types.Defs.{Defs}
use Rattle.myi_keycache.specs.Lent.{bytes_at}
use Rattle.myi_btree.specs.Walk.{◌>>=◌, Node, Places, Walked, each, walk_of}
use Rattle.myi_btree.specs.Nodes.{node_at, node_in}
use Rattle.myi_btree.specs.Visit.{page_range}
use Rattle.myi_btree.proofs.CallerLemmas.{bind_some, filled, few_bytes}
use Rattle.myi_treecopy.proofs.CallerLemmas.{some_node, of_node, of_leaf, leaf_walk}
use Rattle.myi_rowkeys.specs.TableKeys.{numbers_from}
use Rattle.myi_pair.specs.Trees.{block_of_key, pages_on, AreFree, HasWalkApart, HaveWalks, all_pages, total}
use Rattle.myi_pair.proofs.CallerLemmas.{EndBy, total_pages, end_append}
use Rattle.myi_sortindex.specs.Laying.{Tree, end_of}
use Rattle.myi_sortindex.specs.Sorting.{nodes_of}
use Rattle.myi_sortindex.proofs.FirstLaws.{all_both}

-- ---- ranges that have no byte in common

turned : (r s : Range) → are_apart r s ≡ true → are_apart s r ≡ true
turned r s apart = by (or_cases (nat_le r.1 s.0) (nat_le s.1 r.0) apart)
  where
    by : (nat_le r.1 s.0 ≡ true) ⊎ (nat_le s.1 r.0 ≡ true) → are_apart s r ≡ true
    by (inl before) = or_right (nat_le s.1 r.0) (nat_le r.1 s.0) before
    by (inr after) = or_left (nat_le s.1 r.0) (nat_le r.1 s.0) after

free_of_first : (r : Range) (busy pages : List Range) → AreFree (r ∷ busy) pages → is_apart r pages ≡ true
free_of_first r busy [] free = refl
free_of_first r busy (p ∷ pages) free = and_from (are_apart r p) (is_apart r pages) (turned p r (and_parts (are_apart p r) (is_apart p busy) free.0).0) (free_of_first r busy pages free.1)

free_of_rest : (r : Range) (busy pages : List Range) → AreFree (r ∷ busy) pages → AreFree busy pages
free_of_rest r busy [] free = tt
free_of_rest r busy (p ∷ pages) free = ((and_parts (are_apart p r) (is_apart p busy) free.0).1, free_of_rest r busy pages free.1)

joined : (busy pages : List Range) → AreDisjoint busy → AreDisjoint pages → AreFree busy pages → AreDisjoint (busy ++ pages)
joined [] pages one other free = other
joined (r ∷ busy) pages one other free = (
  list_all-append (are_apart r) busy pages ∙ and_from (is_apart r busy) (is_apart r pages) one.0 (free_of_first r busy pages free),
  joined busy pages one.1 other (free_of_rest r busy pages free),
)

total_filled : (n : ℕ) (rs : List Range) → EndBy n rs → total rs ≡ filled n rs
total_filled n [] ends = refl
total_filled n (r ∷ rs) ends = sum_by-cons (λ (r : Range). r.1 - r.0) r rs ∙ omega (arith, ends.0, total_filled n rs ends.1)

-- ---- the pages of a walk stand in the file

-- a page stands before this place
page_inside : (rec_ref block : ℕ) (x : List ℕ) (at : ℕ) (node : Node) → 0 < block → node_at rec_ref block x at ≡ Some node → at + block ≤ length x
unfolding node_at bytes_at
page_inside rec_ref block x at node some e = by (eqb (at % 1024) 0) e
  where
    here : (b : Bool) → nat_le block (length (drop at x)) ≡ b → (cond b (Some (take block (drop at x))) None >>= node_in rec_ref) ≡ Some node → at + block ≤ length x
    here true e is = omega (arith, leb-true _ _ e, length-drop at x, some)
    here false e is = absurd cc

    by : (b : Bool) → cond b (bytes_at x at block >>= node_in rec_ref) None ≡ Some node → at + block ≤ length x
    by true e = here (nat_le block (length (drop at x))) refl e
    by false e = absurd cc

abbrev EndsIn : ℕ → ℕ → ℕ → Type 0
EndsIn block n p = p + block ≤ n

each_inside : (P : ℕ → Type 0) (f : ℕ → Option Walked) → ((c : ℕ) (v : Walked) → f c ≡ Some v → AllByRecursion P v.pages) → (cs : List ℕ) (ws : List Walked) → each f cs ≡ Some ws → AllByRecursion P (flat_map (λ (w : Walked). w.pages) ws)
each_inside P f one [] ws e = subst (λ (vs : List Walked). AllByRecursion P (flat_map (λ (w : Walked). w.pages) vs)) (same_Some [] ws e) tt
each_inside P f one (c ∷ cs) ws e =
    let a = bind_some (f c) (λ y. each f cs >>= λ ys. Some (y ∷ ys)) ws e in
    let b = bind_some (each f cs) (λ ys. Some (a.0 ∷ ys)) ws a.2 in
    subst (λ (vs : List Walked). AllByRecursion P (flat_map (λ (w : Walked). w.pages) vs)) (same_Some (a.0 ∷ b.0) ws b.2)
    (all_both P a.0.pages (flat_map (λ (w : Walked). w.pages) b.0) (one c a.0 a.1) (each_inside P f one cs b.0 b.1))

walk_inside : (block n : ℕ) (read : Places) → ((at : ℕ) (node : Node) → read at ≡ Some node → at + block ≤ n) → (height at : ℕ) (w : Walked) → walk_of read height at ≡ Some w → AllByRecursion (EndsIn block n) w.pages
walk_inside block n read within zero at w walk =
    let s = some_node read 0 at w walk in
    let is = same_Some _ w (sym (leaf_walk read at s.0 s.1 (of_leaf read at s.0 w s.1 walk)) ∙ walk) in
    subst (λ (v : Walked). AllByRecursion (EndsIn block n) v.pages) is (within at s.0 s.1, tt)
walk_inside block n read within (suc height) at w walk =
    let s = some_node read (suc height) at w walk in
    let o = of_node read height at s.0 w s.1 walk in
    subst (λ (v : Walked). AllByRecursion (EndsIn block n) v.pages) (sym o.2)
    (within at s.0 s.1, each_inside (EndsIn block n) (walk_of read height) (λ c v e. walk_inside block n read within height c v e) s.0.children o.0 o.1)

ranges_end : (block n : ℕ) (ps : List ℕ) → AllByRecursion (EndsIn block n) ps → EndBy n (map (page_range block) ps)
ranges_end block n [] all = tt
ranges_end block n (p ∷ ps) all = (all.0, ranges_end block n ps all.1)

end_more : (n m : ℕ) (rs : List Range) → n ≤ m → EndBy n rs → EndBy m rs
end_more n m [] low ends = tt
end_more n m (r ∷ rs) low ends = (omega (arith, low, ends.0), end_more n m rs low ends.1)

-- ---- all trees

-- the pages of a tree have no byte in common, and stand in the file
record IsFree (d : Defs) (k n : ℕ) (busy : List Range) (w : Walked) : Type 0 where
  pub disjoint : AreDisjoint (pages_on d k w)
  pub free : AreFree busy (pages_on d k w)
  pub ends : EndBy n (pages_on d k w)

is_free : (d : Defs) (k : ℕ) (x : List ℕ) (root : Option ℕ) (busy : List Range) (w : Walked) → 0 < block_of_key d k → HasWalkApart d k x root busy w → IsFree d k (length x) busy w
is_free d k x None busy w some h = subst (IsFree d k (length x) busy) (sym h) (record { disjoint = tt; free = tt; ends = tt })
is_free d k x (Some root) busy w some h = record {
  disjoint = h.0.disjoint;
  free = h.1;
  ends = ranges_end (block_of_key d k) (length x) w.pages
      (walk_inside (block_of_key d k) (length x) (nodes_of d k x) (λ at node e. page_inside d.rec_ref (block_of_key d k) x at node some e) h.0.height root w h.0.walk);
}

-- how the pages of all trees lie beside busy ranges
record AreFit (n : ℕ) (busy pages : List Range) : Type 0 where
  pub disjoint : AreDisjoint (busy ++ pages)
  pub ends : EndBy n (busy ++ pages)

all_fit : (d : Defs) (x : List ℕ) (n : ℕ) → length x ≤ n → (busy : List Range) (k m : ℕ) (roots : List (Option ℕ)) (ws : List Walked) → ((j : ℕ) → k ≤ j → j < k + m → 0 < block_of_key d j) → AreDisjoint busy → EndBy n busy
    → HaveWalks d x busy (numbers_from k m) roots ws → AreFit n busy (all_pages d (numbers_from k m) ws)
all_fit d x n low busy k zero roots ws some one ends h = record { disjoint = subst AreDisjoint (sym (append_none busy)) one; ends = subst (EndBy n) (sym (append_none busy)) ends }
  where
    append_none : (xs : List Range) → xs ++ [] ≡ xs
    append_none [] = refl
    append_none (r ∷ xs) = ap (λ ys. r ∷ ys) (append_none xs)
all_fit d x n low busy k (suc m) [] ws some one ends h = absurd h
all_fit d x n low busy k (suc m) (root ∷ roots) [] some one ends h = absurd h
all_fit d x n low busy k (suc m) (root ∷ roots) (w ∷ ws) some one ends h =
    let own : List Range = pages_on d k w in
    let f = is_free d k x root busy w (some k (omega arith) (omega arith)) h.0 in
    let others = all_fit d x n low (busy ++ own) (suc k) m roots ws (λ j above below. some j (omega (arith, above)) (omega (arith, below))) (joined busy own one f.disjoint f.free) (end_append n busy own ends (end_more (length x) n own low f.ends)) h.1 in
    let same : (busy ++ own) ++ all_pages d (numbers_from (suc k) m) ws ≡ busy ++ (own ++ all_pages d (numbers_from (suc k) m) ws) = append_again busy own (all_pages d (numbers_from (suc k) m) ws) in
    record { disjoint = subst AreDisjoint same others.disjoint; ends = subst (EndBy n) same others.ends }
  where
    append_again : (xs ys zs : List Range) → (xs ++ ys) ++ zs ≡ xs ++ (ys ++ zs)
    append_again [] ys zs = refl
    append_again (r ∷ xs) ys zs = ap (λ us. r ∷ us) (append_again xs ys zs)

-- where trees end, by how many bytes their pages have
pub end_is : (d : Defs) (start k n : ℕ) (ts : List Tree) → length ts ≡ n → start + total (all_pages d (numbers_from k n) (map (λ (t : Tree). t.1) ts)) ≡ end_of d start k ts
end_is d start k zero [] long = omega arith
end_is d start k (suc n) [] long = absurd (omega (arith, long))
end_is d start k zero (t ∷ ts) long = absurd (omega (arith, long))
end_is d start k (suc n) (t ∷ ts) long =
    omega (
      arith,
      sum_by-append (λ (r : Range). r.1 - r.0) (pages_on d k t.1) (all_pages d (numbers_from (suc k) n) (map (λ (t : Tree). t.1) ts)),
      total_pages (block_of_key d k) t.1.pages,
      end_is d (start + block_of_key d k * length t.1.pages) (suc k) n ts (omega (arith, long)),
    )

-- the pages of all trees, behind a first place, end within the file or at that place
pub trees_fit : (d : Defs) (x : List ℕ) (first m : ℕ) (roots : List (Option ℕ)) (ts : List Tree) → ((j : ℕ) → 1 ≤ j → j < 1 + m → 0 < block_of_key d j) → length ts ≡ m → HaveWalks d x ((0, first) ∷ []) (numbers_from 1 m) roots (map (λ (t : Tree). t.1) ts)
    → (most : ℕ) → length x ≤ most → first ≤ most → end_of d first 1 ts ≤ most
trees_fit d x first m roots ts some long h most file front =
    let pages : List Range = all_pages d (numbers_from 1 m) (map (λ (t : Tree). t.1) ts) in
    let fit = all_fit d x most file ((0, first) ∷ []) 1 m roots (map (λ (t : Tree). t.1) ts) some (refl, tt) (front, tt) h in
    omega (
      arith,
      end_is d first 1 m ts long,
      sum_by-cons (λ (r : Range). r.1 - r.0) (0, first) pages,
      total_filled most ((0, first) ∷ pages) fit.ends,
      few_bytes most ((0, first) ∷ pages) fit.disjoint,
    )
