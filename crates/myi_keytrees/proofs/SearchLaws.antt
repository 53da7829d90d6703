-- A tree is gone through, and all trees still stand.
use Rattle.std.proofs.Common.{◌≡◌, ℕ, zero, suc, ◌+◌, ◌^◌, ◌<◌, ◌≤◌, Bool, true, false, eqb, Some, None, Option, List, [], ◌∷◌, length, map, slice_set, slice_index_or, refl, sym, ap, subst, ◌∙◌, arith, inl, inr}
use Rattle.std.specs.Prelude.{IsSorted}
use Rattle.std.specs.List.{Contains}
use Rattle.std.specs.Ordering.{is_lt, ordering_reverse}
use Rattle.std.specs.declared.cmp.Ordering.TheVariants.{Less}
use Rattle.std.specs.List.Sorted.{IsStrictlySortedBy}
use Rattle.std.proofs.lemmas.Bool.{and_from, cases_Bool, eqb-true}
use Rattle.std.proofs.lemmas.Option.{same_Some}
use Rattle.myi_base.specs.Ranges.{are_apart, is_apart, AreDisjoint}
use Rattle.myi_base.specs.Holding.{Holding, IfTold, Told, OthersStay}
use Rattle.myi_keycache.specs.Caching.{Caching, pages_of, IsCurrent, SameLent, Stays}
use Rattle.myi_keylist.specs.declared.pair.Pair.{Pair}
use Rattle.myi_keylist.specs.PairOrder.{pair_cmp}
use Rattle.myi_keylist.proofs.CallerLemmas.{pair_total}
use Rattle.myi_btree.specs.declared.place.Place.{Place}
use Rattle.myi_btree.specs.declared.place.Room.{Room}
use Rattle.myi_btree.specs.Visit.{page_range}
use Rattle.myi_btree.specs.CachedTrees.{NoneMeets, HasPages, IsClear, CanWalk, AddsNamed, AddsItsOwn, is_among, ReadsOnly}
use Rattle.myi_search.specs.Trees.{HasTree}
use Rattle.myi_insertion.specs.Covers.{within, cover}
use Rattle.myi_insertion.specs.CachedChanges.{AddsPages, Exchanges}
use Rattle.myi_insertion.specs.CachedTree.{IsTree}
use Rattle.myi_insertion.proofs.CallerLemmas.{ranges_apart, walk_stays}
use Rattle.myi_keytrees.specs.Trees.{Trees}
use Rattle.myi_keytrees.specs.Standing.{list_of, HoldLists, Stand, StandThen, IfStand, StillStand, CanSearch, RoseByLevels}
use Rattle.myi_keytrees.proofs.StandLaws.{set_same, IsPlaceOf, held_here, placed_here, own_here, swapped}

-- ---- pages of which no byte lies in two

pub apart_pages : (block p : ℕ) (pages : List ℕ) → 0 < block → ((x : ℕ) → within p block x + cover block pages x ≤ 1) → is_apart (page_range block p) (map (page_range block) pages) ≡ true
apart_pages block p [] some off = refl
apart_pages block p (q ∷ pages) some off =
    and_from (are_apart (page_range block p) (page_range block q)) (is_apart (page_range block p) (map (page_range block) pages))
    (ranges_apart p block q block some some (λ x. let o = off x in omega arith)) (apart_pages block p pages some (λ x. let o = off x in omega arith))

pub disjoint_pages : (block : ℕ) (pages : List ℕ) → 0 < block → ((x : ℕ) → cover block pages x ≤ 1) → AreDisjoint (map (page_range block) pages)
disjoint_pages block [] some off = tt
disjoint_pages block (p ∷ pages) some off = (apart_pages block p pages some off, disjoint_pages block pages some (λ x. let o = off x in omega arith))

among_in : (pages : List ℕ) (p : ℕ) → is_among pages p ≡ true → Contains pages p
among_in [] p e = absurd cc
among_in (q ∷ pages) p e = elim (cases_Bool (eqb q p)) [
  | inl is ↦ (0, omega arith, eqb-true q p is)
  | inr other ↦ let r = among_in pages p (rw other at e) in (suc r.0, (let lt = r.1 in omega arith), r.2)
]

-- ---- what a tree is to a search

pub has_pages : (place : Place) (cache : Caching) (m : Holding) (root : Option ℕ) (xs : List Pair) (pages : List ℕ) → 0 < place.block_length → IsTree place cache m root xs pages → ((x : ℕ) → cover place.block_length pages x ≤ 1) → HasPages place cache m root pages
has_pages place cache m None xs pages some tree once = tree.1
has_pages place cache m (Some root) xs pages some (h, w, e, is, on) once =
    (w, record { height = h; walk = e; disjoint = disjoint_pages place.block_length w.pages some (λ x. omega (arith, once x, ap (λ (g : List ℕ). cover place.block_length g x) on)) }, on)

is_clear : (place : Place) (cache : Caching) (m : Holding) (root : Option ℕ) (pages : List ℕ) → HasPages place cache m root pages → NoneMeets place cache pages → IsClear place cache m root
is_clear place cache m None pages has none = tt
is_clear place cache m (Some root) pages (w, walk, on) none = (w, walk, subst (λ (g : List ℕ). NoneMeets place cache g) on none)

has_tree : (place : Place) (cache : Caching) (m : Holding) (root : Option ℕ) (xs : List Pair) (pages : List ℕ) → IsTree place cache m root xs pages → (h : ℕ) × HasTree place cache m root h xs
has_tree place cache m None xs pages tree = (0, tree.0)
has_tree place cache m (Some root) xs pages (h, w, e, is, on) = (h, (w, e, is))

not_less : (p q : Pair) → pair_cmp p q ≡ Less → is_lt (pair_cmp q p) ≡ false
not_less p q less = ap is_lt (pair_total.antisymm q p ∙ ap ordering_reverse less)

pub in_order : (xs : List Pair) → IsStrictlySortedBy pair_cmp xs → IsSorted pair_cmp xs
unfolding IsStrictlySortedBy
in_order [] s = λ k d low lt. absurd (omega arith)
in_order (p ∷ []) s = λ k d low lt. absurd (omega arith)
in_order (p ∷ q ∷ xs) s = λ k d low lt. by (in_order (q ∷ xs) s.1) k d lt
  where
    by : IsSorted pair_cmp (q ∷ xs) → (k : ℕ) (d : Pair) → k + 1 < length (p ∷ q ∷ xs) → is_lt (pair_cmp (slice_index_or (p ∷ q ∷ xs) (k + 1) d) (slice_index_or (p ∷ q ∷ xs) k d)) ≡ false
    by rest zero d lt = not_less p q s.0.0
    by rest (suc k) d lt =
        let next : suc k + 1 ≡ suc (k + 1) = omega arith in
        subst (λ (n : ℕ). is_lt (pair_cmp (slice_index_or (p ∷ q ∷ xs) n d) (slice_index_or (p ∷ q ∷ xs) (suc k) d)) ≡ false) (sym next) (rest k d (omega arith) (omega arith))

-- ---- a search of one tree

pub walked : (t : Trees) (m : Holding) (own : ℕ → ℕ) (lists : List (List Pair)) (s : Stand t m own lists) (k : ℕ) (p : Place) → IsPlaceOf t k p → k < length t.places → HasPages p t.cache m p.root (slice_index_or s.pages k [])
walked t m own lists s k p at lt =
    has_pages p t.cache m p.root (list_of lists k) (slice_index_or s.pages k []) (placed_here t k p at lt s.placed) (held_here t m own lists s k p at lt).tree (λ x. omega (arith, own_here t m own lists s k p at lt x, s.once x))

pub can_walk : (writable : Bool) (told : Option Holding) (t : Trees) (k : ℕ) (p : Place) → IsPlaceOf t k p → k < length t.places → CanSearch writable told t → CanWalk writable told p t.cache
can_walk writable told t k p at lt (inl none) = inl none
can_walk writable told t k p at lt (inr can) = inr (
  can.0,
  λ m held current.
      let st = can.1 m held in
      is_clear p t.cache m p.root (slice_index_or st.2.pages k []) (walked t m st.0 st.1 st.2 k p at lt) (held_here t m st.0 st.1 st.2 k p at lt).meets,
)

-- the tree of a key, in order and each pair once, as a cursor wants it
pub sought_once : (t : Trees) (told : Option Holding) (k : ℕ) (p : Place) (P : List Pair → Type 0) → IsPlaceOf t k p → k < length t.places
    → IfTold told (λ m. IsCurrent t.cache m → (h : ℕ) (xs : List Pair) → HasTree p t.cache m p.root h xs → IsStrictlySortedBy pair_cmp xs → P xs) → IfStand told t (λ m own lists. P (list_of lists k))
sought_once t told k p P at lt found = λ m held own lists s.
    let hold = held_here t m own lists s k p at lt in
    let has = has_tree p t.cache m p.root (list_of lists k) (slice_index_or s.pages k []) hold.tree in
    found m held s.current has.0 (list_of lists k) has.1 hold.ascend

-- the tree of a key, in order, as a search wants it
pub sought : (t : Trees) (told : Option Holding) (k : ℕ) (p : Place) (P : List Pair → Type 0) → IsPlaceOf t k p → k < length t.places
    → IfTold told (λ m. IsCurrent t.cache m → (h : ℕ) (xs : List Pair) → HasTree p t.cache m p.root h xs → IsSorted pair_cmp xs → P xs) → IfStand told t (λ m own lists. P (list_of lists k))
sought t told k p P at lt found = sought_once t told k p P at lt (λ m held current h xs tree once. found m held current h xs tree (in_order xs once))

pub never_sought : (t : Trees) (told : Option Holding) (k : ℕ) (p : Place) → IsPlaceOf t k p → k < length t.places
    → IfTold told (λ m. IsCurrent t.cache m → (h : ℕ) (xs : List Pair) → HasTree p t.cache m p.root h xs → ⊥) → IfStand told t (λ m own lists. ⊥)
never_sought t told k p at lt never = λ m held own lists s.
    let hold = held_here t m own lists s k p at lt in
    let has = has_tree p t.cache m p.root (list_of lists k) (slice_index_or s.pages k []) hold.tree in
    never m held s.current has.0 (list_of lists k) has.1

abbrev IsShallow : Type 0
IsShallow = (place : Place) (cache : Caching) (m : Holding) (root height : ℕ) (pairs : List Pair) → HasTree place cache m (Some root) height pairs → 2 ^ suc height ≤ length pairs + 1

short_by : (p : Place) (cache : Caching) (m : Holding) (root : Option ℕ) (h : ℕ) (xs : List Pair) (before after : ℕ) → IsShallow → HasTree p cache m root h xs → ((g : ℕ) → HasTree p cache m root g xs → after ≤ before + (g + 1)) → RoseByLevels (length xs) before after
short_by p cache m None h xs before after shallow has bound = let few = bound 0 has in record { levels = 0; fit = omega arith; few = omega (arith, few) }
short_by p cache m (Some root) h xs before after shallow has bound = let few = bound h has in record { levels = suc h; fit = shallow p cache m root h xs has; few = omega (arith, few) }

-- no more than stand on the way to a leaf, in the number of pairs
pub short : (t : Trees) (told : Option Holding) (k : ℕ) (p : Place) (before after : ℕ) → IsShallow → IsPlaceOf t k p → k < length t.places
    → IfTold told (λ m. IsCurrent t.cache m → (h : ℕ) (xs : List Pair) → HasTree p t.cache m p.root h xs → after ≤ before + (h + 1)) → IfStand told t (λ m own lists. RoseByLevels (length (list_of lists k)) before after)
short t told k p before after shallow at lt few = λ m held own lists s.
    let hold = held_here t m own lists s k p at lt in
    let has = has_tree p t.cache m p.root (list_of lists k) (slice_index_or s.pages k []) hold.tree in
    short_by p t.cache m p.root has.0 (list_of lists k) before after shallow has.1 (λ g tree. few m held s.current g (list_of lists k) tree)

-- ---- what a search does

pub tree_stays : (place : Place) (old : Caching) (m : Holding) (new : Caching) (n : Holding) (root : Option ℕ) (xs : List Pair) (pages : List ℕ) → SameLent old m new n → IsTree place old m root xs pages → IsTree place new n root xs pages
tree_stays place old m new n None xs pages same tree = tree
tree_stays place old m new n (Some root) xs pages same (h, w, e, is, on) = (h, w, walk_stays place old m new n h root w same e, is, on)

no_page : {A : Type 0} (p : ℕ) (ps : List ℕ) → ps ≡ [] → Contains ps p → A
no_page p ps none h = absurd (let lt = h.1 in omega (arith, ap length none))

read_only : (place : Place) (old : Caching) (m : Holding) (pages : List ℕ) (room : Room) (new : Caching) (n : Holding) → Stays old new m n → AddsPages place.block_length pages [] (pages_of old) (pages_of new) → new.name ≡ old.name → OthersStay old.name m n
    → Exchanges place old m pages room new n pages room []
read_only place old m pages room new n stays added name others = record {
  balance = λ x. refl;
  current = stays.current;
  lent = λ p len x some off e. stays.lent p len x e;
  added = added;
  origin = λ p h. inl h;
  stay = λ p h. inl h;
  given_up = λ p h. no_page p [] refl h;
  free = λ r h. inl h;
  rest = λ r h. inl h;
  end = omega arith;
  name = name;
  others = others;
}

lists_long : (cache : Caching) (m : Holding) (ps : List Place) (lists : List (List Pair)) (pages : List (List ℕ)) → HoldLists cache m ps lists pages → length lists ≡ length ps
lists_long cache m [] lists pages hold = ap length hold.0
lists_long cache m (p ∷ ps) [] pages hold = absurd hold
lists_long cache m (p ∷ ps) (xs ∷ lists) [] hold = absurd hold
lists_long cache m (p ∷ ps) (xs ∷ lists) (g ∷ pages) hold = ap suc (lists_long cache m ps lists pages hold.1)

abbrev pub AddsOwn : Type 0
AddsOwn = (place : Place) (old new : Caching) (m : Holding) → AddsNamed place old m new → AddsItsOwn place old m new

pub searched : (t : Trees) (told next : Option Holding) (new : Caching) (k : ℕ) (p : Place) → IsPlaceOf t k p → k < length t.places → AddsOwn → Told told next (λ m n. IsCurrent t.cache m → Stays t.cache new m n)
    → IfTold told (λ m. IsCurrent t.cache m → AddsNamed p t.cache m new) → ReadsOnly told next t.cache new → StillStand told next t (record { places = t.places; room = t.room; cache = new })
searched t told next new k p at lt adds stays added reads = λ m held own lists s.
    let g : List ℕ = slice_index_or s.pages k [] in
    let xs : List Pair = list_of lists k in
    let then = stays.told m held in
    let n : Holding = then.0 in
    let same : Stays t.cache new m n = then.2 s.current in
    let rest = reads.others.told m held in
    let others : OthersStay t.cache.name m n = subst (λ (q : Holding). OthersStay t.cache.name m q) (same_Some rest.0 n (sym rest.1 ∙ then.1)) rest.2 in
    let own_only = adds p t.cache new m (added m held s.current) g (walked t m own lists s k p at lt) in
    let pages : AddsPages p.block_length g [] (pages_of t.cache) (pages_of new) = λ at_ len is. elim (own_only at_ len is) [ inl was ↦ inl was | inr a ↦ inr (a.0, inl (among_in g at_ a.1)) ] in
    let hold = held_here t m own lists s k p at lt in
    let stands : StandThen t m own next (record { places = slice_set t.places k p; room = t.room; cache = new }) (slice_set lists k xs) =
    swapped t m n own lists s k p p xs g [] new t.room next at lt then.1 (read_only p t.cache m g t.room new n same pages reads.name others) refl refl (tree_stays p t.cache m new n p.root xs g same.lent hold.tree) hold.ascend in
    let places : slice_set t.places k p ≡ t.places = ap (λ (r : Place). slice_set t.places k r) at ∙ set_same t.places k p lt in
    let same_lists : slice_set lists k xs ≡ lists = set_same lists k [] (omega (arith, lt, lists_long t.cache m t.places lists s.pages s.hold)) in
    subst (λ (ls : List (List Pair)). StandThen t m own next (record { places = t.places; room = t.room; cache = new }) ls) same_lists
    (subst (λ (ps : List Place). StandThen t m own next (record { places = ps; room = t.room; cache = new }) (slice_set lists k xs)) places stands)
