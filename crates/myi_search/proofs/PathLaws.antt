-- The path of a search.
use Rattle.std.proofs.Common.{◌≡◌, ◌⊎◌, ℕ, Bool, true, false, cond, ◌||◌, eqb, Option, Some, None, List, [], ◌∷◌, ◌++◌, refl, sym, ap, subst, ◌∙◌, inl, inr}
use Rattle.std.specs.List.{list_all}
use Rattle.std.proofs.lemmas.Option.{same_Some}
use Rattle.std.proofs.lemmas.Bool.{and_parts, and_from, eq-eqb, eqb-true, cases_Bool}
use Rattle.myi_keylist.specs.declared.pair.Pair.{Pair}
use Rattle.myi_btree.specs.Walk.{Node, Places}
use Rattle.myi_btree.specs.CachedTrees.{is_among, IsClosed}
use Rattle.myi_search.specs.Path.{next_child, HasNext, Leads, AreDifferent, IsStopped, Arrives}
use Rattle.myi_search.proofs.Lists.{or_true}

-- ---- the child that is next

pub next_is : (test : Pair → Bool) (named : ℕ → Bool) (ps : List Pair) (cs : List ℕ) (child : ℕ) → next_child test ps cs ≡ Some child → list_all named cs ≡ true → named child ≡ true
next_is test named ps [] child e all = absurd cc
next_is test named [] (c ∷ cs) child e all = ap named (sym (same_Some c child e)) ∙ (and_parts (named c) (list_all named cs) all).0
next_is test named (p ∷ ps) (c ∷ cs) child e all = by (test p) e (λ f. next_is test named ps cs child f (and_parts (named c) (list_all named cs) all).1)
  where
    by : (b : Bool) → cond b (next_child test ps cs) (Some c) ≡ Some child → (next_child test ps cs ≡ Some child → named child ≡ true) → named child ≡ true
    by true e again = again e
    by false e again = ap named (sym (same_Some c child e)) ∙ (and_parts (named c) (list_all named cs) all).0

-- a page has one next child, or none
one_next : (read : Places) (test : Pair → Bool) (at : ℕ) (c d : Option ℕ) → HasNext read test at c → HasNext read test at d → c ≡ d
one_next read test at c d x y =
    let same : x.node ≡ y.node = same_Some x.node y.node (sym x.stands ∙ y.stands) in
    sym x.next ∙ ap (λ (n : Node). next_child test n.pairs n.children) same ∙ y.next

-- ---- one page more

pub leads_more : (read : Places) (test : Pair → Bool) (root : ℕ) (path : List ℕ) (at child : ℕ) → Leads read test root path at → HasNext read test at (Some child) → Leads read test root (path ++ at ∷ []) child
leads_more read test root [] at child l next = (l, child, subst (λ (p : ℕ). HasNext read test p (Some child)) l next, refl)
leads_more read test root (p ∷ path) at child l next = (l.0, l.1, l.2, leads_more read test l.1 path at child l.3 next)

-- what is named from the root on names the pages of the path
pub path_named : (read : Places) (test : Pair → Bool) (named : ℕ → Bool) (root : ℕ) (path : List ℕ) (at : ℕ) → IsClosed read named → named root ≡ true → Leads read test root path at → (list_all named path ≡ true) × (named at ≡ true)
path_named read test named root [] at closed here l = (refl, ap named l ∙ here)
path_named read test named root (p ∷ path) at closed here l =
    let next : HasNext read test root (Some l.1) = l.2 in
    let child : named l.1 ≡ true = next_is test named next.node.pairs next.node.children l.1 next.next (closed root next.node here next.stands) in
    let rest = path_named read test named l.1 path at closed child l.3 in
    (and_from (named p) (list_all named path) (ap named l.0 ∙ here) rest.0, rest.1)

-- ---- two paths

-- a path goes on behind another one
record Longer (read : Places) (test : Pair → Bool) (short : List ℕ) (at : ℕ) (long : List ℕ) : Type 0 where
  pub rest : List ℕ
  pub is : long ≡ short ++ at ∷ rest
  pub child : ℕ
  pub next : HasNext read test at (Some child)

compare : (read : Places) (test : Pair → Bool) (root : ℕ) (path other : List ℕ) (a b : ℕ) → Leads read test root path a → Leads read test root other b → ((path ≡ other) × (a ≡ b)) ⊎ (Longer read test path a other ⊎ Longer read test other b path)
compare read test root [] [] a b l m = inl (refl, l ∙ sym m)
compare read test root [] (q ∷ other) a b l m = inr (inl (record { rest = other; is = ap (λ (x : ℕ). x ∷ other) (m.0 ∙ sym l); child = m.1; next = subst (λ (p : ℕ). HasNext read test p (Some m.1)) (sym l) m.2 }))
compare read test root (p ∷ path) [] a b l m = inr (inr (record { rest = path; is = ap (λ (x : ℕ). x ∷ path) (l.0 ∙ sym m); child = l.1; next = subst (λ (p : ℕ). HasNext read test p (Some l.1)) (sym m) l.2 }))
compare read test root (p ∷ path) (q ∷ other) a b l m =
    let head : p ≡ q = l.0 ∙ sym m.0 in
    let child : l.1 ≡ m.1 = same_Some l.1 m.1 (one_next read test root (Some l.1) (Some m.1) l.2 m.2) in
    let back : Leads read test l.1 other b = subst (λ (c : ℕ). Leads read test c other b) (sym child) m.3 in
    elim (compare read test l.1 path other a b l.3 back) [
      | inl same ↦ inl (ap (λ (x : ℕ). x ∷ path) head ∙ ap (λ (xs : List ℕ). q ∷ xs) same.0, same.1)
      | inr (inl longer) ↦ inr (inl (record { rest = longer.rest; is = ap (λ (x : ℕ). x ∷ other) (sym head) ∙ ap (λ (xs : List ℕ). p ∷ xs) longer.is; child = longer.child; next = longer.next }))
      | inr (inr longer) ↦ inr (inr (record { rest = longer.rest; is = ap (λ (x : ℕ). x ∷ path) head ∙ ap (λ (xs : List ℕ). q ∷ xs) longer.is; child = longer.child; next = longer.next }))
    ]

-- a place that stands behind itself
twice : (xs : List ℕ) (at : ℕ) (rest : List ℕ) → AreDifferent (xs ++ at ∷ rest) → is_among xs at ≡ true → ⊥
twice [] at rest d e = cc
twice (x ∷ xs) at rest d e = elim (cases_Bool (eqb x at)) [
  | inl is ↦
      let there : is_among (xs ++ at ∷ rest) at ≡ true = stands xs in
      let k : true ≡ false = sym there ∙ ap (is_among (xs ++ at ∷ rest)) (sym (eqb-true x at is)) ∙ d.0 in
      cc
  | inr off ↦ twice xs at rest d.1 (rw off at e)
]
  where
    stands : (xs : List ℕ) → is_among (xs ++ at ∷ rest) at ≡ true
    stands [] = ap (λ (b : Bool). b || is_among rest at) (eq-eqb at at refl)
    stands (y ∷ ys) = ap (λ (b : Bool). eqb y at || b) (stands ys) ∙ or_true (eqb y at)

-- nothing stands there, or it was gone into before
abbrev pub IsEnd : Places → List ℕ → ℕ → Type 0
IsEnd read path at = (read at ≡ None) ⊎ (is_among path at ≡ true)

not_longer : (read : Places) (test : Pair → Bool) (path : List ℕ) (at : ℕ) (long : List ℕ) → IsEnd read path at → AreDifferent long → Longer read test path at long → ⊥
not_longer read test path at long (inl none) d longer = let k : None ≡ Some longer.next.node = sym none ∙ longer.next.stands in cc
not_longer read test path at long (inr met) d longer = twice path at longer.rest (subst AreDifferent longer.is d) met

pub stopped_once : (read : Places) (test : Pair → Bool) (root : Option ℕ) (at other : ℕ) → IsStopped read test root at → IsStopped read test root other → at ≡ other
stopped_once read test None at other x y = absurd x
stopped_once read test (Some root) at other (path, comes, end) (long, goes, stop) = elim (compare read test root path long at other comes.leads goes.leads) [
  | inl same ↦ same.1
  | inr (inl longer) ↦ absurd (not_longer read test path at long end goes.once longer)
  | inr (inr longer) ↦ absurd (not_longer read test long other path stop comes.once longer)
]

same_end : (read : Places) (test : Pair → Bool) (path : List ℕ) (at : ℕ) → IsEnd read path at → is_among path at ≡ false → HasNext read test at None → ⊥
same_end read test path at (inl none) off next = let k : None ≡ Some next.node = sym none ∙ next.stands in cc
same_end read test path at (inr met) off next = let k : true ≡ false = sym met ∙ off in cc

pub never_both : (read : Places) (test : Pair → Bool) (root : Option ℕ) (at : ℕ) → IsStopped read test root at → Arrives read test root → ⊥
never_both read test None at x y = x
never_both read test (Some root) at (path, comes, end) (long, leaf, goes, off, last) = elim (compare read test root path long at leaf comes.leads goes.leads) [
  | inl same ↦ same_end read test path at end (ap (λ (xs : List ℕ). is_among xs at) same.0 ∙ ap (is_among long) same.1 ∙ off) (subst (λ (p : ℕ). HasNext read test p None) (sym same.1) last)
  | inr (inl longer) ↦ not_longer read test path at long end goes.once longer
  | inr (inr longer) ↦ let k : Some longer.child ≡ None = one_next read test leaf (Some longer.child) None longer.next last in cc
]
