-- The cache serves a walk of a tree that may be gone through.
use Rattle.std.proofs.Common.{◌≡◌, ℕ, zero, suc, nat_cmp, Bool, true, cond, ltb, Option, Some, None, List, [], ◌∷◌, ◌++◌, length, refl, sym, ap, subst, ◌∙◌, inl, inr}
use Rattle.std.specs.List.{list_all, flat_map, AllByRecursion}
use Rattle.std.specs.List.Sorted.{IsStrictlySortedBy}
use Rattle.std.proofs.lemmas.Option.{same_Some, cond_some}
use Rattle.myi_base.specs.Holding.{Holding, IfTold, Told}
use Rattle.myi_keycache.specs.Kept.{is_kept, NoOtherMeets, AllWritten}
use Rattle.myi_keycache.specs.Caching.{pages_of, Caching, IsCurrent, Stays}
use Rattle.myi_keycache.proofs.CallerLemmas.{stays_start}
use Rattle.myi_keycache.proofs.CallerLemmas.{unwritten_kept}
use Rattle.myi_btree.specs.declared.place.Place.{Place}
use Rattle.myi_btree.specs.Walk.{◌>>=◌, Node, Places, Walked, each, at_node, as_leaf, walk_of}
use Rattle.myi_btree.specs.CachedTrees.{node_lent, IsClosed, IsRootNamed, IsClear, MayGet, CanWalk, is_among, AddsNamed, ReadsOnly}
use Rattle.myi_btree.specs.Serving.{View, view, Serves, GoesOn}
use Rattle.myi_btree.specs.declared.visited.Visited.{Visited}
use Rattle.myi_btree.proofs.Among.{in_all, all_in, all_true, all_is}
use Rattle.myi_btree.proofs.Frames.{bind_some}
use Rattle.myi_btree.proofs.EventLaws.{leaf_pages}
use Rattle.myi_btree.proofs.Named.{walk_named, walk_first, HasChildren, walk_children}

-- ---- the pages of a walk

abbrev pub HasNode : Places → ℕ → Type 0
HasNode read p = (node : Node) × (read p ≡ Some node)

all_both : (P : ℕ → Type 0) (xs ys : List ℕ) → AllByRecursion P xs → AllByRecursion P ys → AllByRecursion P (xs ++ ys)
all_both P [] ys a b = b
all_both P (x ∷ xs) ys a b = (a.0, all_both P xs ys a.1 b)

each_nodes : (read : Places) (h : ℕ) → ((place : ℕ) (w : Walked) → walk_of read h place ≡ Some w → AllByRecursion (HasNode read) w.pages) → (places : List ℕ) (ws : List Walked) → each (walk_of read h) places ≡ Some ws → AllByRecursion (HasNode read) (flat_map (λ (w : Walked). w.pages) ws)
each_nodes read h ih [] ws e = subst (λ (t : List Walked). AllByRecursion (HasNode read) (flat_map (λ (w : Walked). w.pages) t)) (same_Some [] ws e) tt
each_nodes read h ih (p ∷ ps) ws e =
    let a = bind_some (walk_of read h p) (λ y. each (walk_of read h) ps >>= λ ys. Some (y ∷ ys)) ws e in
    let b = bind_some (each (walk_of read h) ps) (λ ys. Some (a.0 ∷ ys)) ws a.2 in
    subst (λ (t : List Walked). AllByRecursion (HasNode read) (flat_map (λ (w : Walked). w.pages) t)) (same_Some _ _ b.2)
    (all_both (HasNode read) a.0.pages (flat_map (λ (w : Walked). w.pages) b.0) (ih p a.0 a.1) (each_nodes read h ih ps b.0 b.1))

pub walk_nodes : (read : Places) (h place : ℕ) (w : Walked) → walk_of read h place ≡ Some w → AllByRecursion (HasNode read) w.pages
walk_nodes read zero place w e =
    let a = bind_some (read place) (λ node. as_leaf place node node.children) w e in
    subst (λ (t : List ℕ). AllByRecursion (HasNode read) t) (sym (leaf_pages place a.0 a.0.children w a.2)) ((a.0, a.1), tt)
walk_nodes read (suc h) place w e =
    let a = bind_some (read place) (λ node. each (walk_of read h) node.children >>= λ ws. cond (ltb 0 (length node.children)) (Some (at_node place node ws)) None) w e in
    let b = bind_some (each (walk_of read h) a.0.children) (λ ws. cond (ltb 0 (length a.0.children)) (Some (at_node place a.0 ws)) None) w a.2 in
    let g = cond_some _ _ _ b.2 in
    subst (λ (t : Walked). AllByRecursion (HasNode read) t.pages) g.1 ((a.0, a.1), each_nodes read h (walk_nodes read h) a.0.children b.0 b.1)

-- the pages of a walk name all that is named from its root on
pub pages_closed : (read : Places) (h root : ℕ) (w : Walked) → walk_of read h root ≡ Some w → IsClosed read (is_among w.pages)
pages_closed read h root w walk = λ p node a r. in_all (HasChildren read (is_among w.pages)) w.pages p (walk_children read (is_among w.pages) h root w walk (all_in w.pages)) a node r

-- ---- where a walk begins

pub record Begins (place : Place) (told : Option Holding) (cache : Caching) (m : Holding) (root : ℕ) : Type 0 where
  pub asked : ℕ → Bool
  pub serves : Serves place (view cache m asked) told cache
  pub at : asked root ≡ true

-- where all pages are written, any places may be asked for
begins_written : (place : Place) (told : Option Holding) (cache : Caching) (m : Holding) (root : ℕ) (named : ℕ → Bool) → told ≡ Some m → IsCurrent cache m → AllWritten (pages_of cache) → named root ≡ true → IsClosed (node_lent place cache m) named → Begins place told cache m root
begins_written place told cache m root named held current written at closed = record {
  asked = named;
  serves = record {
    closed = closed;
    current = current;
    apart = λ at a p n u. absurd (written p n u);
    there = inl written;
    now = m;
    held = held;
    name = refl;
    unwritten = λ p n u. u;
    stays = stays_start cache m current;
    same = λ all. refl;
    added = λ p n kept. inl kept;
  };
  at = at;
}

-- those of its pages, where the tree is clear
begins_clear : (place : Place) (told : Option Holding) (cache : Caching) (m : Holding) (root : ℕ) → told ≡ Some m → IsCurrent cache m → IsClear place cache m (Some root) → Begins place told cache m root
begins_clear place told cache m root held current (w, walk, meets) =
    let read : Places = node_lent place cache m in
    record {
      asked = is_among w.pages;
      serves = record {
        closed = pages_closed read walk.height root w walk.walk;
        current = current;
        apart = λ at a p n u. in_all (λ at. NoOtherMeets (is_kept (pages_of cache)) at place.block_length) w.pages at meets a p n (unwritten_kept (pages_of cache) p n u);
        there = inr (λ at a. in_all (HasNode read) w.pages at (walk_nodes read walk.height root w walk.walk) a);
        now = m;
        held = held;
        name = refl;
        unwritten = λ p n u. u;
        stays = stays_start cache m current;
        same = λ all. refl;
        added = λ p n kept. inl kept;
      };
      at = walk_first read (is_among w.pages) walk.height root w walk.walk (all_in w.pages);
    }

pub begins : (writable : Bool) (place : Place) (told : Option Holding) (cache : Caching) (m : Holding) (root : ℕ) → CanWalk writable told place cache → told ≡ Some m → IsCurrent cache m → place.root ≡ Some root → Begins place told cache m root
begins writable place told cache m root (inl written) held current is = begins_written place told cache m root (λ _. true) held current written refl (λ at node a r. all_true node.children)
begins writable place told cache m root (inr (w, f)) held current is = begins_clear place told cache m root held current (subst (λ (r : Option ℕ). IsClear place cache m r) is (f m held current))

pub may_get : (writable : Bool) (place : Place) (told : Option Holding) (cache : Caching) → CanWalk writable told place cache → MayGet writable cache
may_get writable place told cache (inl written) = inr written
may_get writable place told cache (inr (w, f)) = inl w

-- ---- where a walk begins that goes into named places

pub record BeginsIn (place : Place) (told : Option Holding) (cache : Caching) (m : Holding) (root : ℕ) (named : ℕ → Bool) : Type 0 where
  pub begins : Begins place told cache m root
  pub within : (p : ℕ) → begins.asked p ≡ true → named p ≡ true

pub begins_in : (writable : Bool) (place : Place) (told : Option Holding) (cache : Caching) (m : Holding) (root : ℕ) (named : ℕ → Bool) → CanWalk writable told place cache → told ≡ Some m → IsCurrent cache m → place.root ≡ Some root → named root ≡ true → IsClosed (node_lent place cache m) named
    → BeginsIn place told cache m root named
unfolding begins_written begins_clear
begins_in writable place told cache m root named (inl written) held current is at closed = record { begins = begins_written place told cache m root named held current written at closed; within = λ p a. a }
begins_in writable place told cache m root named (inr (may, f)) held current is at closed =
    let clear : IsClear place cache m (Some root) = subst (λ (r : Option ℕ). IsClear place cache m r) is (f m held current) in
    let w : Walked = clear.0 in
    let all : list_all named w.pages ≡ true = walk_named (node_lent place cache m) named closed clear.1.height root w clear.1.walk at in
    record { begins = begins_clear place told cache m root held current clear; within = λ p a. all_is named w.pages p all a }

-- ---- what a walk that the cache served says of the cache

pub stays_told : (writable : Bool) (place : Place) (told next : Option Holding) (old new : Caching) (root : ℕ) → CanWalk writable told place old → place.root ≡ Some root → ReadsOnly told next old new
    → ((m : Holding) (b : Begins place told old m root) → Serves place (view old m b.asked) next new) → Told told next (λ m n. IsCurrent old m → Stays old new m n)
stays_told writable place told next old new root may is r serve = record {
  told = λ m held.
      let f = r.others.told m held in
      (f.0, f.1, λ current. let s = serve m (begins writable place told old m root may held current is) in subst (λ (n : Holding). Stays old new m n) (same_Some s.now f.0 (sym s.held ∙ f.1)) s.stays);
  untold = r.others.untold;
}

pub added_told : (writable : Bool) (place : Place) (told next : Option Holding) (old new : Caching) (root : ℕ) → CanWalk writable told place old → place.root ≡ Some root
    → ((m : Holding) (b : Begins place told old m root) → Serves place (view old m b.asked) next new) → IfTold told (λ m. IsCurrent old m → AddsNamed place old m new)
added_told writable place told next old new root may is serve = λ m held current named at closed p n kept.
    let b = begins_in writable place told old m root named may held current is (subst (λ (r : Option ℕ). IsRootNamed r named) is at) closed in
    elim ((serve m b.begins).added p n kept) [
      | inl was ↦ inl was
      | inr now ↦ inr (now.0, b.within p now.1)
    ]

-- a walk that has met no page
pub first_goes : (place : Place) (v : View) (told : Option Holding) (cache : Caching) (visited : Visited) → Serves place v told cache → visited.places.keys ≡ [] → GoesOn place v told cache visited
unfolding IsStrictlySortedBy
first_goes place v told cache visited serves none = record {
  serves = serves;
  named = ap (list_all v.asked) none;
  ascends = subst (IsStrictlySortedBy nat_cmp) (sym none) tt;
}
