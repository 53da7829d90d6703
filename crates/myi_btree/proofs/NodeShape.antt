-- What stands on a page is a node: it has a pair, and no children or one more than pairs.
use Rattle.std.proofs.Common.{◌≡◌, ℕ, suc, ◌+◌, ◌%◌, ◌<◌, Bool, true, false, cond, eqb, Option, Some, None, List, [], ◌∷◌, length, refl, sym, ap, subst, ◌∙◌, arith}
use Rattle.std.specs.Prelude.{is_some, option_map}
use Rattle.std.proofs.lemmas.Option.{same_Some}
use Rattle.myi_base.specs.Holding.{Holding}
use Rattle.myi_keypage.specs.Page.{Page}
use Rattle.myi_keypage.specs.PageItems.{Item, key_after}
use Rattle.myi_keypage.specs.Views.{ViewedPage, page_of, entries_after, with_child, children_of, viewed_in, page_in}
use Rattle.myi_keycache.specs.Caching.{Caching, lends}
use Rattle.myi_btree.specs.declared.place.Place.{Place}
use Rattle.myi_btree.specs.Walk.{◌>>=◌, Node, node_with, each, IsNode, AreNodes}
use Rattle.myi_btree.specs.Nodes.{pair_in, node_in}
use Rattle.myi_btree.specs.CachedTrees.{node_lent}
use Rattle.myi_btree.proofs.Frames.{bind_some}
use Rattle.myi_btree.proofs.ViewShape.{AreAlike, HasShape, view_shape}

entry_count : (before : List ℕ) (items : List Item) → length (entries_after before items) ≡ length items
entry_count before [] = refl
entry_count before (item ∷ items) = ap suc (entry_count (key_after before item) items)

each_count : {A B : Type 0} (f : A → Option B) (xs : List A) (ys : List B) → each f xs ≡ Some ys → length ys ≡ length xs
each_count f [] ys e = ap length (sym (same_Some _ _ e))
each_count f (x ∷ xs) ys e =
    let a = bind_some (f x) (λ y. each f xs >>= λ ys. Some (y ∷ ys)) ys e in
    let b = bind_some (each f xs) (λ ys. Some (a.0 ∷ ys)) ys a.2 in
    ap length (sym (same_Some _ _ b.2)) ∙ ap suc (each_count f xs b.0 b.1)

no_children : (items : List Item) → AreAlike false items → children_of items ≡ []
no_children [] h = refl
no_children (item ∷ items) h = by item.child h.0 (no_children items h.1)
  where
    by : (c : Option ℕ) → is_some c ≡ false → children_of items ≡ [] → with_child c (children_of items) ≡ []
    by None e rest = rest
    by (Some p) e rest = absurd cc

all_children : (items : List Item) → AreAlike true items → length (children_of items) ≡ length items
all_children [] h = refl
all_children (item ∷ items) h = by item.child h.0 (all_children items h.1)
  where
    by : (c : Option ℕ) → is_some c ≡ true → length (children_of items) ≡ length items → length (with_child c (children_of items)) ≡ suc (length items)
    by None e rest = absurd cc
    by (Some p) e rest = ap suc rest

child_count : (node : Bool) (first : Option ℕ) (items : List Item) → is_some first ≡ node → AreAlike node items → 0 < length (with_child first (children_of items)) → length (with_child first (children_of items)) ≡ length items + 1
child_count true None items f h some = absurd cc
child_count true (Some p) items f h some = omega (arith, all_children items h)
child_count false None items f h some = absurd (omega (arith, some, ap length (no_children items h)))
child_count false (Some p) items f h some = absurd cc

mapped : (o : Option ViewedPage) (page : Page) → option_map page_of o ≡ Some page → (s : ViewedPage) × (o ≡ Some s) × (page_of s ≡ page)
mapped None page e = absurd cc
mapped (Some s) page e = (s, refl, same_Some _ _ e)

pub node_shape : (rec_ref : ℕ) (bytes : List ℕ) (node : Node) → node_in rec_ref bytes ≡ Some node → IsNode node
unfolding node_in
node_shape rec_ref bytes node e =
    let a = bind_some (page_in rec_ref bytes) (λ page. each pair_in page.entries >>= λ pairs. Some (node_with pairs page.children)) node e in
    let b = bind_some (each pair_in a.0.entries) (λ pairs. Some (node_with pairs a.0.children)) node a.2 in
    let v = mapped (viewed_in rec_ref bytes) a.0 a.1 in
    let h : HasShape v.0 = view_shape rec_ref bytes v.0 v.1 in
    let pairs : length b.0 ≡ length v.0.items = each_count pair_in a.0.entries b.0 b.1 ∙ ap (λ (p : Page). length p.entries) (sym v.2) ∙ entry_count [] v.0.items in
    let children : a.0.children ≡ with_child v.0.first (children_of v.0.items) = ap (λ (p : Page). p.children) (sym v.2) in
    subst IsNode (same_Some (node_with b.0 a.0.children) node b.2) (record {
      some = omega (arith, pairs, h.some);
      branching = λ some. ap length children ∙ child_count h.node v.0.first v.0.items h.first h.items (subst (λ (t : List ℕ). 0 < length t) children some) ∙ omega (arith, pairs);
    })

pub lent_shape : (place : Place) (cache : Caching) (m : Holding) → AreNodes (node_lent place cache m)
unfolding node_lent
lent_shape place cache m = λ at node e. by (eqb (at % 1024) 0) at node e
  where
    by : (b : Bool) (at : ℕ) (node : Node) → cond b (lends cache m at place.block_length >>= node_in place.rec_ref) None ≡ Some node → IsNode node
    by true at node e = let a = bind_some (lends cache m at place.block_length) (node_in place.rec_ref) node e in node_shape place.rec_ref a.0 node a.2
    by false at node e = absurd cc
