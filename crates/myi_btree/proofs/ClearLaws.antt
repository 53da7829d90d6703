-- Trees stay clear of other pages when one of them is gone through.
use Rattle.std.proofs.Common.{◌≡◌, ◌⊎◌, ℕ, ◌+◌, true, eqb, Option, Some, None, List, [], ◌∷◌, map, refl, sym, ap, subst, ◌∙◌, inl, inr, ◌≤◌, length}
use Rattle.std.specs.List.{AllByRecursion}
use Rattle.std.proofs.lemmas.Bool.{and_parts, eq-eqb, eqb-true, cases_Bool}
use Rattle.myi_base.specs.Ranges.{Range, are_apart, is_apart, AreDisjoint}
use Rattle.myi_base.specs.Holding.{Holding}
use Rattle.myi_keycache.specs.Kept.{is_kept, NoOtherMeets}
use Rattle.myi_keycache.specs.Caching.{pages_of, Caching, Stays, SameLent}
use Rattle.myi_btree.specs.declared.place.Place.{Place}
use Rattle.myi_btree.specs.Walk.{Walked, Agree}
use Rattle.myi_btree.specs.Visit.{page_range, HasWalk}
use Rattle.myi_btree.specs.CachedTrees.{node_lent, HasPages, IsClear, AddsAmong, IsClosed, IsRootNamed, AddsNamed, is_among, AddsItsOwn, ReadsOnce, AreApart}
use Rattle.myi_btree.proofs.Frames.{same_walk}
use Rattle.myi_btree.proofs.Once.{one_walk}
use Rattle.myi_btree.proofs.EventWalks.{apart_both}
use Rattle.myi_btree.proofs.ServeLaws.{lent_bytes, same_bytes}
use Rattle.myi_btree.proofs.Among.{in_all, or_true, all_in}
use Rattle.myi_btree.proofs.Named.{walk_first}
use Rattle.myi_btree.proofs.StartLaws.{HasNode, walk_nodes, pages_closed}

-- ---- the walk stands

agree : (place : Place) (old new : Caching) (m n : Holding) (pages : List ℕ) → SameLent old m new n → AllByRecursion (HasNode (node_lent place old m)) pages → Agree (node_lent place old m) (node_lent place new n) pages
agree place old new m n [] same nodes = tt
agree place old new m n (p ∷ ps) same nodes =
    let bytes = lent_bytes place old m p nodes.0.0 nodes.0.1 in
    (same_bytes place old new m n p (bytes.1 ∙ sym (same p place.block_length bytes.0 bytes.1)), agree place old new m n ps same nodes.1)

walk_stays : (place : Place) (old new : Caching) (m n : Holding) (root : ℕ) (w : Walked) → SameLent old m new n → HasWalk place.block_length (node_lent place old m) root w → HasWalk place.block_length (node_lent place new n) root w
walk_stays place old new m n root w same walk = record {
  height = walk.height;
  walk = same_walk (node_lent place old m) (node_lent place new n) walk.height root w walk.walk (agree place old new m n w.pages same (walk_nodes (node_lent place old m) walk.height root w walk.walk));
  disjoint = walk.disjoint;
}

-- ---- pages of one list

pub all_of : (P : ℕ → Type 0) (xs : List ℕ) → ((at : ℕ) → is_among xs at ≡ true → P at) → AllByRecursion P xs
all_of P [] f = tt
all_of P (x ∷ xs) f =
    let here : eqb x x ≡ true = eq-eqb x x refl in
    (f x (rw here refl), all_of P xs (λ at e. f at (rw e (or_true (eqb x at)))))

apart_among : (block : ℕ) (r : Range) (xs : List ℕ) (at : ℕ) → is_apart r (map (page_range block) xs) ≡ true → is_among xs at ≡ true → are_apart r (page_range block at) ≡ true
apart_among block r [] at a e = absurd cc
apart_among block r (x ∷ xs) at a e =
    let k = and_parts (are_apart r (page_range block x)) (is_apart r (map (page_range block) xs)) a in
    elim (cases_Bool (eqb x at)) [
      | inl is ↦ subst (λ (q : ℕ). are_apart r (page_range block q) ≡ true) (eqb-true x at is) k.0
      | inr other ↦ apart_among block r xs at k.1 (rw other at e)
    ]

-- two pages of a walk are one, or have no byte in common
two_pages : (block : ℕ) (xs : List ℕ) (p at : ℕ) → AreDisjoint (map (page_range block) xs) → is_among xs p ≡ true → is_among xs at ≡ true → (p ≡ at) ⊎ (are_apart (page_range block p) (page_range block at) ≡ true)
two_pages block [] p at d e f = absurd cc
two_pages block (x ∷ xs) p at d e f = elim (cases_Bool (eqb x p)) [
  | inl one ↦ elim (cases_Bool (eqb x at)) [
    | inl two ↦ inl (sym (eqb-true x p one) ∙ eqb-true x at two)
    | inr other ↦ inr (subst (λ (q : ℕ). are_apart (page_range block q) (page_range block at) ≡ true) (eqb-true x p one) (apart_among block (page_range block x) xs at d.0 (rw other at f)))
  ]
  | inr off ↦ elim (cases_Bool (eqb x at)) [
    | inl two ↦ inr (apart_both (page_range block at) (page_range block p) (subst (λ (q : ℕ). are_apart (page_range block q) (page_range block p) ≡ true) (eqb-true x at two) (apart_among block (page_range block x) xs p d.0 (rw off at e))))
    | inr other ↦ two_pages block xs p at d.1 (rw off at e) (rw other at f)
  ]
]

-- ---- the pages of a walk are named from its root on

own_named : (place : Place) (old : Caching) (m : Holding) (r : Option ℕ) (pages : List ℕ) → HasPages place old m r pages → IsRootNamed r (is_among pages) × IsClosed (node_lent place old m) (is_among pages)
own_named place old m None pages none = (tt, subst (λ (t : List ℕ). IsClosed (node_lent place old m) (is_among t)) (sym none) (λ p node e r. absurd cc))
own_named place old m (Some root) pages (w, walk, e) =
    let read = node_lent place old m in
    subst (λ (t : List ℕ). (is_among t root ≡ true) × IsClosed read (is_among t)) (sym e)
    (walk_first read (is_among w.pages) walk.height root w walk.walk (all_in w.pages), pages_closed read walk.height root w walk.walk)

pub adds_own : (place : Place) (old new : Caching) (m : Holding) → AddsNamed place old m new → AddsItsOwn place old m new
adds_own place old new m adds = λ pages has. let own = own_named place old m place.root pages has in adds (is_among pages) own.0 own.1

pub reads_own : (place : Place) (cache : Caching) (m : Holding) (pages : List ℕ) (before after : ℕ) → HasPages place cache m place.root pages → ReadsOnce place cache m before after → after ≤ before + length pages
reads_own place cache m pages before after has once = let own = own_named place cache m place.root pages has in once pages own.0 own.1

-- ---- trees stay clear

pub clear_still : (place : Place) (old new : Caching) (m n : Holding) → IsClear place old m place.root → Stays old new m n → AddsItsOwn place old m new → IsClear place new n place.root
clear_still place old new m n clear stays adds = by place.root refl clear
  where
    by : (r : Option ℕ) → place.root ≡ r → IsClear place old m r → IsClear place new n r
    by None is clear = tt
    by (Some root) is (w, walk, meets) =
        let own : AddsAmong place (is_among w.pages) (pages_of old) (pages_of new) = adds w.pages (subst (λ (r : Option ℕ). HasPages place old m r w.pages) (sym is) (w, walk, refl)) in (
          w,
          walk_stays place old new m n root w stays.lent walk,
          all_of (λ at. NoOtherMeets (is_kept (pages_of new)) at place.block_length) w.pages (λ at among p len kept. elim (own p len kept) [
            | inl was ↦ in_all (λ at. NoOtherMeets (is_kept (pages_of old)) at place.block_length) w.pages at meets among p len was
            | inr now ↦ elim (two_pages place.block_length w.pages p at walk.disjoint now.1 among) [
              | inl same ↦ inl (same, now.0)
              | inr apart ↦ inr (subst (λ (k : ℕ). are_apart (p, p + k) (page_range place.block_length at) ≡ true) (sym now.0) apart)
            ]
          ]),
        )

pub others_clear : (place other : Place) (old new : Caching) (m n : Holding) (pages others : List ℕ) → HasPages place old m place.root pages → HasPages other old m other.root others → AreApart place pages other others
    → IsClear other old m other.root → Stays old new m n → AddsItsOwn place old m new → IsClear other new n other.root
others_clear place other old new m n pages others has theirs apart clear stays adds = by other.root theirs clear
  where
    by : (r : Option ℕ) → HasPages other old m r others → IsClear other old m r → IsClear other new n r
    by None their clear = tt
    by (Some root) (v, found, are) (w, walk, meets) =
        let own : AddsAmong place (is_among pages) (pages_of old) (pages_of new) = adds pages has in
        let same : w ≡ v = one_walk (node_lent other old m) walk.height found.height root w v walk.walk found.walk in
        let all : others ≡ w.pages = are ∙ ap (λ (w : Walked). w.pages) (sym same) in (
          w,
          walk_stays other old new m n root w stays.lent walk,
          all_of (λ at. NoOtherMeets (is_kept (pages_of new)) at other.block_length) w.pages (λ at among p len kept. elim (own p len kept) [
            | inl was ↦ in_all (λ at. NoOtherMeets (is_kept (pages_of old)) at other.block_length) w.pages at meets among p len was
            | inr now ↦
                let both = in_all (λ p. AllByRecursion (λ at. are_apart (page_range place.block_length p) (page_range other.block_length at) ≡ true) others) pages p apart now.1 in
                let one = in_all (λ at. are_apart (page_range place.block_length p) (page_range other.block_length at) ≡ true) others at both (ap (λ (t : List ℕ). is_among t at) all ∙ among) in
                inr (subst (λ (k : ℕ). are_apart (p, p + k) (page_range other.block_length at) ≡ true) (sym now.0) one)
          ]),
        )
