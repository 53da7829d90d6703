-- The first page of a level, and the pairs and children behind it.
use Rattle.std.proofs.Common.{◌≡◌, ℕ, suc, ◌+◌, Bool, true, not, eqb, List, [], ◌∷◌, ◌++◌, length, take, drop, refl, sym, ◌∙◌, arith}
use Rattle.std.proofs.lemmas.Bool.{lt-ltb, ne_eqb}
use Rattle.std.proofs.lemmas.List.{length-append, length-drop, length-take}
use Rattle.myi_keypage.specs.declared.entry.Entry.{Entry}
use Rattle.myi_keypage.specs.Page.{page_with, is_node, IsBranching}
use Rattle.myi_keylist.specs.declared.pair.Pair.{Pair}
use Rattle.myi_btree.specs.Walk.{node_with}
use Rattle.myi_btree.specs.LaidPages.{count_of, level_of, with_page}

pub step_is : (k : ℕ) (fits : List Pair → Bool) (left : List Pair) (children : List ℕ) (count : ℕ) (s : Pair) (rest : List Pair) → count ≡ count_of fits left → drop count left ≡ s ∷ rest
    → level_of (suc k) fits left children ≡ with_page (node_with (take count left) (take (suc count) children)) s (level_of k fits rest (drop (suc count) children))
step_is k fits left children count s rest c d = rw (← c, d) refl

-- ---- children

-- a separator parts the entries of a level and its children
pub record Parted (front : List Entry) (rest : List Entry) (children : List ℕ) : Type 0 where
  pub front_branches : IsBranching (page_with front (take (suc (length front)) children))
  pub rest_branches : IsBranching (page_with rest (drop (suc (length front)) children))
  pub front_node : is_node (page_with front (take (suc (length front)) children)) ≡ not (eqb (length children) 0)
  pub rest_node : not (eqb (length (drop (suc (length front)) children)) 0) ≡ not (eqb (length children) 0)

flag_suc : (n : ℕ) → not (eqb (suc n) 0) ≡ true
flag_suc n = rw (ne_eqb (suc n) 0 (λ e. omega arith)) refl

pub parted : (front : List Entry) (s : Entry) (rest : List Entry) (children : List ℕ) → IsBranching (page_with (front ++ s ∷ rest) children) → Parted front rest children
parted front s rest [] b = record { front_branches = tt; rest_branches = tt; front_node = refl; rest_node = refl }
parted front s rest (c ∷ cs) b =
    let len : length cs ≡ length front + suc (length rest) = b ∙ length-append front (s ∷ rest) in
    let taken : length (take (length front) cs) ≡ length front = omega (arith, length-take (length front) cs) in
    let left : length (drop (length front) cs) ≡ suc (length rest) = omega (arith, length-drop (length front) cs) in
    record { front_branches = taken; rest_branches = branches (drop (length front) cs) left; front_node = lt-ltb 0 (suc (length (take (length front) cs))) (omega arith) ∙ sym (flag_suc (length cs)); rest_node = flags (drop (length front) cs) left ∙ sym (flag_suc (length cs)) }
  where
    branches : (ds : List ℕ) → length ds ≡ suc (length rest) → IsBranching (page_with rest ds)
    branches [] e = tt
    branches (d ∷ ds) e = omega (arith, e)

    flags : (ds : List ℕ) → length ds ≡ suc (length rest) → not (eqb (length ds) 0) ≡ true
    flags [] e = absurd cc
    flags (d ∷ ds) e = flag_suc (length ds)

pub node_flag : (entries : List Entry) (children : List ℕ) → is_node (page_with entries children) ≡ not (eqb (length children) 0)
node_flag entries [] = refl
node_flag entries (c ∷ cs) = lt-ltb 0 (suc (length cs)) (omega arith) ∙ sym (flag_suc (length cs))
