-- One tree is changed, and the others still stand.
use Rattle.std.proofs.Common.{◌≡◌, ℕ, zero, suc, ◌+◌, ◌<◌, ◌≤◌, Bool, true, false, ◌||◌, Some, None, Option, List, [], ◌∷◌, length, slice_set, slice_index_or, refl, sym, ap, subst, ◌∙◌, arith, inl, inr}
use Rattle.std.specs.List.{AllByRecursion}
use Rattle.std.specs.Ordering.{is_eq}
use Rattle.std.specs.declared.cmp.Ordering.TheVariants.{Less, Equal}
use Rattle.std.specs.List.Sorted.{IsStrictlySortedBy}
use Rattle.std.proofs.lemmas.Bool.{cases_Bool}
use Rattle.myi_base.specs.Holding.{Holding, IfTold, Told}
use Rattle.myi_keycache.specs.Caching.{Caching, Stays}
use Rattle.myi_keylist.specs.declared.pair.Pair.{Pair}
use Rattle.myi_keylist.specs.PairOrder.{pair_cmp, put_pair}
use Rattle.myi_btree.specs.declared.place.Place.{Place}
use Rattle.myi_btree.specs.declared.place.Room.{Room}
use Rattle.myi_btree.specs.Sizes.{IsPlaced}
use Rattle.myi_btree.specs.Walk.{Places, walk_of}
use Rattle.myi_btree.specs.CachedTrees.{node_lent, NoneMeets}
use Rattle.myi_insertion.specs.Covers.{cover, stock}
use Rattle.myi_insertion.specs.CachedChanges.{CanChange, Exchanges}
use Rattle.myi_insertion.specs.CachedTree.{IsTree, Inserted}
use Rattle.myi_insertion.specs.Removal.{has_pair, without_pair, Removed}
use Rattle.myi_insertion.proofs.CallerLemmas.{other_stands, other_clear, exchange_can, put_sorted}
use Rattle.myi_keytrees.specs.Trees.{Trees, kinds}
use Rattle.myi_keytrees.specs.Standing.{list_of, put_in, taken_out, cover_each, HoldsPairs, HoldLists, Stand, StandThen, IfStand}

-- ---- lists by index

pub all_at : {A : Type 0} (P : A → Type 0) (xs : List A) (k : ℕ) (d : A) → AllByRecursion P xs → k < length xs → P (slice_index_or xs k d)
all_at P [] k d all lt = absurd (omega arith)
all_at P (x ∷ xs) zero d all lt = all.0
all_at P (x ∷ xs) (suc k) d all lt = all_at P xs k d all.1 (omega arith)

pub all_set : {A : Type 0} (P : A → Type 0) (xs : List A) (k : ℕ) (y : A) → AllByRecursion P xs → P y → AllByRecursion P (slice_set xs k y)
all_set P [] k y all is = tt
all_set P (x ∷ xs) zero y all is = (is, all.1)
all_set P (x ∷ xs) (suc k) y all is = (all.0, all_set P xs k y all.1 is)

pub set_same : {A : Type 0} (xs : List A) (k : ℕ) (d : A) → k < length xs → slice_set xs k (slice_index_or xs k d) ≡ xs
set_same [] k d lt = absurd (omega arith)
set_same (x ∷ xs) zero d lt = refl
set_same {A = A} (x ∷ xs) (suc k) d lt = ap (λ (t : List A). x ∷ t) (set_same xs k d (omega arith))

pub kinds_set : (ps : List Place) (k : ℕ) (d q : Place) → k < length ps → q.block_length ≡ (slice_index_or ps k d).block_length → q.rec_ref ≡ (slice_index_or ps k d).rec_ref → kinds (slice_set ps k q) ≡ kinds ps
kinds_set [] k d q lt e f = absurd (omega arith)
kinds_set (p ∷ ps) zero d q lt e f = ap (λ (b : ℕ). record { block_length = b; rec_ref = q.rec_ref; root = None } ∷ kinds ps) e ∙ ap (λ (r : ℕ). record { block_length = p.block_length; rec_ref = r; root = None } ∷ kinds ps) f
kinds_set (p ∷ ps) (suc k) d q lt e f = ap (λ (t : List Place). record p { root = None } ∷ t) (kinds_set ps k d q (omega arith) e f)

-- ---- bytes of pages

pub in_each : (ps : List Place) (pages : List (List ℕ)) (k : ℕ) (d : Place) (x : ℕ) → k < length ps → cover (slice_index_or ps k d).block_length (slice_index_or pages k []) x ≤ cover_each ps pages x
in_each [] pages k d x lt = absurd (omega arith)
in_each (p ∷ ps) [] k d x lt = omega arith
in_each (p ∷ ps) (g ∷ pages) zero d x lt = omega arith
in_each (p ∷ ps) (g ∷ pages) (suc k) d x lt = let i = in_each ps pages k d x (omega arith) in omega arith

pub held_at : (cache : Caching) (m : Holding) (ps : List Place) (lists : List (List Pair)) (pages : List (List ℕ)) (k : ℕ) (d : Place) → HoldLists cache m ps lists pages → k < length ps → HoldsPairs cache m (slice_index_or ps k d) (slice_index_or lists k []) (slice_index_or pages k [])
held_at cache m [] lists pages k d hold lt = absurd (omega arith)
held_at cache m (p ∷ ps) [] pages k d hold lt = absurd hold
held_at cache m (p ∷ ps) (xs ∷ lists) [] k d hold lt = absurd hold
held_at cache m (p ∷ ps) (xs ∷ lists) (g ∷ pages) zero d hold lt = hold.0
held_at cache m (p ∷ ps) (xs ∷ lists) (g ∷ pages) (suc k) d hold lt = held_at cache m ps lists pages k d hold.1 (omega arith)

set_cover : (cache : Caching) (m : Holding) (ps : List Place) (lists : List (List Pair)) (pages : List (List ℕ)) (k : ℕ) (d q : Place) (h : List ℕ) (x : ℕ) → HoldLists cache m ps lists pages → k < length ps
    → cover_each (slice_set ps k q) (slice_set pages k h) x + cover (slice_index_or ps k d).block_length (slice_index_or pages k []) x ≡ cover_each ps pages x + cover q.block_length h x
set_cover cache m [] lists pages k d q h x hold lt = absurd (omega arith)
set_cover cache m (p ∷ ps) [] pages k d q h x hold lt = absurd hold
set_cover cache m (p ∷ ps) (xs ∷ lists) [] k d q h x hold lt = absurd hold
set_cover cache m (p ∷ ps) (xs ∷ lists) (g ∷ pages) zero d q h x hold lt = omega arith
set_cover cache m (p ∷ ps) (xs ∷ lists) (g ∷ pages) (suc k) d q h x hold lt = let i = set_cover cache m ps lists pages k d q h x hold.1 (omega arith) in omega (arith, i)

-- ---- a change of one tree

-- the pages of a tree became others
pub record Swap : Type 0 where
  pub place : Place
  pub old : Caching
  pub m : Holding
  pub olds : List ℕ
  pub before : Room
  pub new : Caching
  pub n : Holding
  pub news : List ℕ
  pub after : Room
  pub given : List ℕ
  pub done : Exchanges place old m olds before new n news after given
  pub some : 0 < place.block_length

other_tree : (c : Swap) (other : Place) (root : Option ℕ) (xs : List Pair) (pages : List ℕ) → 0 < other.block_length → IsTree other c.old c.m root xs pages
    → ((x : ℕ) → cover other.block_length pages x + (cover c.place.block_length c.olds x + stock c.before x) ≤ 1) → IsTree other c.new c.n root xs pages
other_tree c other None xs pages some tree off = tree
other_tree c other (Some root) xs pages some (h, w, e, is, on) off =
    let off_w : (x : ℕ) → cover other.block_length w.pages x + (cover c.place.block_length c.olds x + stock c.before x) ≤ 1 = λ x. omega (arith, off x, ap (λ (g : List ℕ). cover other.block_length g x) on) in
    (h, w, other_stands c.place other c.old c.m c.olds c.before c.new c.n c.news c.after c.given h root w some c.done e off_w, is, on)

other_holds : (c : Swap) (other : Place) (xs : List Pair) (pages : List ℕ) → 0 < other.block_length → HoldsPairs c.old c.m other xs pages
    → ((x : ℕ) → cover other.block_length pages x + (cover c.place.block_length c.olds x + stock c.before x) ≤ 1) → HoldsPairs c.new c.n other xs pages
other_holds c other xs pages some hold off = record {
  tree = other_tree c other other.root xs pages some hold.tree off;
  ascend = hold.ascend;
  meets = other_clear c.place other c.old c.m c.olds c.before c.new c.n c.news c.after c.given pages c.some some c.done hold.meets off;
}

rest_hold : (c : Swap) (ps : List Place) (lists : List (List Pair)) (pages : List (List ℕ)) → AllByRecursion IsPlaced ps → HoldLists c.old c.m ps lists pages
    → ((x : ℕ) → cover_each ps pages x + (cover c.place.block_length c.olds x + stock c.before x) ≤ 1) → HoldLists c.new c.n ps lists pages
rest_hold c [] lists pages placed hold off = hold
rest_hold c (p ∷ ps) [] pages placed hold off = absurd hold
rest_hold c (p ∷ ps) (xs ∷ lists) [] placed hold off = absurd hold
rest_hold c (p ∷ ps) (xs ∷ lists) (g ∷ pages) placed hold off =
    (other_holds c p xs g (let l = placed.0.least in omega arith) hold.0 (λ x. let o = off x in omega arith), rest_hold c ps lists pages placed.1 hold.1 (λ x. let o = off x in omega arith))

swap_hold : (c : Swap) (ps : List Place) (lists : List (List Pair)) (pages : List (List ℕ)) (k : ℕ) (d q : Place) (ys : List Pair) → AllByRecursion IsPlaced ps → k < length ps
    → c.place ≡ slice_index_or ps k d → c.olds ≡ slice_index_or pages k [] → HoldLists c.old c.m ps lists pages → ((x : ℕ) → cover_each ps pages x + stock c.before x ≤ 1)
    → HoldsPairs c.new c.n q ys c.news → HoldLists c.new c.n (slice_set ps k q) (slice_set lists k ys) (slice_set pages k c.news)
swap_hold c [] lists pages k d q ys placed lt at on hold off new = absurd (omega arith)
swap_hold c (p ∷ ps) [] pages k d q ys placed lt at on hold off new = absurd hold
swap_hold c (p ∷ ps) (xs ∷ lists) [] k d q ys placed lt at on hold off new = absurd hold
swap_hold c (p ∷ ps) (xs ∷ lists) (g ∷ pages) zero d q ys placed lt at on hold off new =
    let is : (x : ℕ) → cover c.place.block_length c.olds x ≡ cover p.block_length g x = λ x. ap (λ (r : Place). cover r.block_length c.olds x) at ∙ ap (λ (t : List ℕ). cover p.block_length t x) on in
    (new, rest_hold c ps lists pages placed.1 hold.1 (λ x. omega (arith, off x, is x)))
swap_hold c (p ∷ ps) (xs ∷ lists) (g ∷ pages) (suc k) d q ys placed lt at on hold off new =
    let r : Place = slice_index_or ps k d in
    let is : (x : ℕ) → cover c.place.block_length c.olds x ≡ cover r.block_length (slice_index_or pages k []) x = λ x. ap (λ (t : Place). cover t.block_length c.olds x) at ∙ ap (λ (t : List ℕ). cover r.block_length t x) on in (
      other_holds c p xs g (let l = placed.0.least in omega arith) hold.0 (λ x. omega (arith, off x, is x, in_each ps pages k d x (omega arith))),
      swap_hold c ps lists pages k d q ys placed.1 (omega arith) at on hold.1 (λ x. let o = off x in omega arith) new,
    )

-- ---- the trees of one object

-- a place whose pages are made as those of another
same_place : (p q : Place) → q.block_length ≡ p.block_length → q.rec_ref ≡ p.rec_ref → q ≡ record p { root = q.root }
same_place p q long wide = ap (λ (b : ℕ). record { block_length = b; rec_ref = q.rec_ref; root = q.root }) long ∙ ap (λ (r : ℕ). record { block_length = p.block_length; rec_ref = r; root = q.root }) wide

abbrev pub object : List Place → Room → Caching → Trees
object places room cache = record { places = places; room = room; cache = cache }

-- the tree of a key
abbrev pub IsPlaceOf : Trees → ℕ → Place → Type 0
IsPlaceOf t k p = p ≡ slice_index_or t.places k p

pub kinds_here : (t : Trees) (k : ℕ) (p q : Place) → IsPlaceOf t k p → k < length t.places → q.block_length ≡ p.block_length → q.rec_ref ≡ p.rec_ref → kinds (slice_set t.places k q) ≡ kinds t.places
kinds_here t k p q at lt long wide = kinds_set t.places k p q lt (long ∙ ap (λ (r : Place). r.block_length) at) (wide ∙ ap (λ (r : Place). r.rec_ref) at)

pub placed_set : (t : Trees) (k : ℕ) (p q : Place) → IsPlaceOf t k p → k < length t.places → q.block_length ≡ p.block_length → q.rec_ref ≡ p.rec_ref → AllByRecursion IsPlaced t.places → AllByRecursion IsPlaced (slice_set t.places k q)
placed_set t k p q at lt long wide placed =
    let was : IsPlaced p = subst IsPlaced (sym at) (all_at IsPlaced t.places k p placed lt) in
    let rooted : IsPlaced (record p { root = q.root }) = record { whole = was.whole; least = was.least; most = was.most; wide = was.wide; narrow = was.narrow } in
    all_set IsPlaced t.places k q placed (subst IsPlaced (sym (same_place p q long wide)) rooted)

pub held_here : (t : Trees) (m : Holding) (own : ℕ → ℕ) (lists : List (List Pair)) (s : Stand t m own lists) (k : ℕ) (p : Place) → IsPlaceOf t k p → k < length t.places → HoldsPairs t.cache m p (list_of lists k) (slice_index_or s.pages k [])
held_here t m own lists s k p at lt = subst (λ (r : Place). HoldsPairs t.cache m r (list_of lists k) (slice_index_or s.pages k [])) (sym at) (held_at t.cache m t.places lists s.pages k p s.hold lt)

pub placed_here : (t : Trees) (k : ℕ) (p : Place) → IsPlaceOf t k p → k < length t.places → AllByRecursion IsPlaced t.places → 0 < p.block_length
placed_here t k p at lt placed = let l = (subst IsPlaced (sym at) (all_at IsPlaced t.places k p placed lt)).least in omega arith

pub own_here : (t : Trees) (m : Holding) (own : ℕ → ℕ) (lists : List (List Pair)) (s : Stand t m own lists) (k : ℕ) (p : Place) → IsPlaceOf t k p → k < length t.places
    → (x : ℕ) → cover p.block_length (slice_index_or s.pages k []) x + stock t.room x ≤ own x
own_here t m own lists s k p at lt x = omega (arith, in_each t.places s.pages k p x lt, ap (λ (r : Place). cover r.block_length (slice_index_or s.pages k []) x) at, s.owned x)

-- the pages of a tree, as far as the others let them be changed
pub can_change : (t : Trees) (m : Holding) (own : ℕ → ℕ) (lists : List (List Pair)) (s : Stand t m own lists) (k : ℕ) (p : Place) → IsPlaceOf t k p → k < length t.places → CanChange p t.cache m (slice_index_or s.pages k []) t.room
can_change t m own lists s k p at lt = record {
  current = s.current;
  meets = (held_here t m own lists s k p at lt).meets;
  spare = s.spare;
  clear = λ x. omega (arith, own_here t m own lists s k p at lt x, s.once x);
}

-- The pages of one tree became others, on which it has these pairs.
pub swapped : (t : Trees) (m n : Holding) (own : ℕ → ℕ) (lists : List (List Pair)) (s : Stand t m own lists) (k : ℕ) (p q : Place) (ys : List Pair) (news given : List ℕ) (new : Caching) (after : Room) (told : Option Holding)
    → IsPlaceOf t k p → k < length t.places → told ≡ Some n → Exchanges p t.cache m (slice_index_or s.pages k []) t.room new n news after given
    → q.block_length ≡ p.block_length → q.rec_ref ≡ p.rec_ref → IsTree q new n q.root ys news → IsStrictlySortedBy pair_cmp ys
    → StandThen t m own told (record { places = slice_set t.places k q; room = after; cache = new }) (slice_set lists k ys)
swapped t m n own lists s k p q ys news given new after told at lt held f long wide tree ascend =
    let g : List ℕ = slice_index_or s.pages k [] in
    let some : 0 < p.block_length = placed_here t k p at lt s.placed in
    let c : Swap = record { place = p; old = t.cache; m = m; olds = g; before = t.room; new = new; n = n; news = news; after = after; given = given; done = f; some = some } in
    let still : CanChange p new n news after = exchange_can p t.cache m g t.room new n news after given some (can_change t m own lists s k p at lt) f in
    let meets : NoneMeets q new news = subst (λ (b : ℕ). NoneMeets (record { block_length = b; rec_ref = q.rec_ref; root = q.root }) new news) (sym long) still.meets in
    record {
      now = n;
      held = held;
      stand = record {
        placed = placed_set t k p q at lt long wide s.placed;
        pages = slice_set s.pages k news;
        current = still.current;
        hold = swap_hold c t.places lists s.pages k p q ys s.placed lt at refl s.hold (λ x. omega (arith, s.owned x, s.once x)) (record { tree = tree; ascend = ascend; meets = meets });
        spare = still.spare;
        owned = λ x. omega (arith, s.owned x, f.balance x, set_cover t.cache m t.places lists s.pages k p q news x s.hold lt, ap (λ (r : Place). cover r.block_length g x) at, ap (λ (b : ℕ). cover b news x) long);
        once = s.once;
      };
      lent = λ at_ len x more off e. f.lent at_ len x more (λ b. omega (arith, off b, own_here t m own lists s k p at lt b)) e;
    }

-- ---- a pair that is put in

pub none_has : (p : Pair) (xs : List Pair) → has_pair p xs ≡ false → AllByRecursion (λ q. pair_cmp p q ≡ Equal → ⊥) xs
none_has p [] e = tt
none_has p (q ∷ xs) e = elim (cases_Bool (is_eq (pair_cmp p q))) [
  | inl is ↦ absurd (let k : true ≡ false = sym (ap (λ (b : Bool). b || has_pair p xs) is) ∙ e in cc)
  | inr other ↦ (λ same. let k : true ≡ false = sym (ap is_eq same) ∙ other in absurd cc, none_has p xs (rw other at e))
]

-- what stands at the places of a tree does not depend on its root
same_nodes : (p : Place) (root : Option ℕ) (cache : Caching) (m : Holding) → ◌≡◌ {A = Places} (node_lent (record p { root = root }) cache m) (node_lent p cache m)
unfolding node_lent
same_nodes p root cache m = refl

pub same_tree : (p q : Place) (cache : Caching) (m : Holding) (root : Option ℕ) (xs : List Pair) (pages : List ℕ) → q.block_length ≡ p.block_length → q.rec_ref ≡ p.rec_ref → IsTree p cache m root xs pages → IsTree q cache m root xs pages
same_tree p q cache m None xs pages long wide tree = tree
same_tree p q cache m (Some root) xs pages long wide (h, w, e, is, on) =
    let nodes : ◌≡◌ {A = Places} (node_lent q cache m) (node_lent p cache m) = ap (λ (r : Place). node_lent r cache m) (same_place p q long wide) ∙ same_nodes p q.root cache m in
    (h, w, ap (λ (read : Places). walk_of read h root) nodes ∙ e, is, on)

-- what an insertion into the tree of a key says of all trees
pub put_stands : (t : Trees) (told next : Option Holding) (k : ℕ) (p q : Place) (pair : Pair) (new : Caching) (after : Room) → IsPlaceOf t k p → k < length t.places
    → IfTold told (λ m. (xs : List Pair) (pages : List ℕ) → IsTree p t.cache m p.root xs pages → CanChange p t.cache m pages t.room → IsStrictlySortedBy pair_cmp xs → Inserted p t.cache m pages t.room next new after q.root (put_pair pair xs))
    → q.block_length ≡ p.block_length → q.rec_ref ≡ p.rec_ref
    → IfStand told t (λ m own lists. has_pair pair (list_of lists k) ≡ false → StandThen t m own next (record { places = slice_set t.places k q; room = after; cache = new }) (put_in k pair lists))
put_stands t told next k p q pair new after at lt inserted long wide = λ m held own lists s none.
    let xs : List Pair = list_of lists k in
    let hold = held_here t m own lists s k p at lt in
    let done = inserted m held xs (slice_index_or s.pages k []) hold.tree (can_change t m own lists s k p at lt) hold.ascend in
    swapped t m done.now own lists s k p q (put_pair pair xs) done.pages [] new after next at lt done.held done.changes long wide
    (same_tree p q new done.now q.root (put_pair pair xs) done.pages long wide done.tree) (put_sorted pair xs hold.ascend (none_has pair xs none))

-- where a refusal cannot be of a tree, it cannot be of these trees
pub never_stands : (t : Trees) (told : Option Holding) (k : ℕ) (p : Place) → IsPlaceOf t k p → k < length t.places
    → IfTold told (λ m. (xs : List Pair) (pages : List ℕ) → IsTree p t.cache m p.root xs pages → CanChange p t.cache m pages t.room → IsStrictlySortedBy pair_cmp xs → ⊥) → IfStand told t (λ m own lists. ⊥)
never_stands t told k p at lt never = λ m held own lists s.
    let hold = held_here t m own lists s k p at lt in
    never m held (list_of lists k) (slice_index_or s.pages k []) hold.tree (can_change t m own lists s k p at lt) hold.ascend

-- ---- a pair that is taken out

all_without : (P : Pair → Type 0) (p : Pair) (xs : List Pair) → AllByRecursion P xs → AllByRecursion P (without_pair p xs)
all_without P p [] all = tt
all_without P p (q ∷ xs) all = elim (cases_Bool (is_eq (pair_cmp p q))) [
  | inl is ↦ rw is all.1
  | inr other ↦ rw other (all.0, all_without P p xs all.1)
]

sorted_without : (p : Pair) (xs : List Pair) → IsStrictlySortedBy pair_cmp xs → IsStrictlySortedBy pair_cmp (without_pair p xs)
unfolding IsStrictlySortedBy
sorted_without p [] s = tt
sorted_without p (q ∷ xs) s = elim (cases_Bool (is_eq (pair_cmp p q))) [
  | inl is ↦ rw is s.1
  | inr other ↦ rw other (all_without (λ r. pair_cmp q r ≡ Less) p xs s.0, sorted_without p xs s.1)
]

pub taken_stands : (t : Trees) (told next : Option Holding) (k : ℕ) (p q : Place) (pair : Pair) (new : Caching) (after : Room) → IsPlaceOf t k p → k < length t.places
    → IfTold told (λ m. (xs : List Pair) (pages : List ℕ) → IsTree p t.cache m p.root xs pages → CanChange p t.cache m pages t.room → IsStrictlySortedBy pair_cmp xs → Removed p t.cache m pages t.room next new after q.root (without_pair pair xs))
    → q.block_length ≡ p.block_length → q.rec_ref ≡ p.rec_ref
    → IfStand told t (λ m own lists. StandThen t m own next (record { places = slice_set t.places k q; room = after; cache = new }) (taken_out k pair lists))
taken_stands t told next k p q pair new after at lt removed long wide = λ m held own lists s.
    let xs : List Pair = list_of lists k in
    let hold = held_here t m own lists s k p at lt in
    let done = removed m held xs (slice_index_or s.pages k []) hold.tree (can_change t m own lists s k p at lt) hold.ascend in
    swapped t m done.now own lists s k p q (without_pair pair xs) done.pages done.given new after next at lt done.held done.changes long wide
    (same_tree p q new done.now q.root (without_pair pair xs) done.pages long wide done.tree) (sorted_without pair xs hold.ascend)

-- whether the pair was there
pub there_stands : (t : Trees) (told : Option Holding) (k : ℕ) (p : Place) (pair : Pair) (there : Bool) → IsPlaceOf t k p → k < length t.places
    → IfTold told (λ m. (xs : List Pair) (pages : List ℕ) → IsTree p t.cache m p.root xs pages → CanChange p t.cache m pages t.room → IsStrictlySortedBy pair_cmp xs → there ≡ has_pair pair xs)
    → IfStand told t (λ m own lists. there ≡ has_pair pair (list_of lists k))
there_stands t told k p pair there at lt is = λ m held own lists s.
    let hold = held_here t m own lists s k p at lt in
    is m held (list_of lists k) (slice_index_or s.pages k []) hold.tree (can_change t m own lists s k p at lt) hold.ascend

-- where the pair was not there the place is as before, and so are the places of all
pub place_kept : (t : Trees) (k : ℕ) (p q : Place) → IsPlaceOf t k p → k < length t.places → q ≡ p → slice_set t.places k q ≡ t.places
place_kept t k p q at lt same = ap (λ (r : Place). slice_set t.places k r) (same ∙ at) ∙ set_same t.places k p lt

-- and nothing was put
pub same_stands : (t : Trees) (told next : Option Holding) (k : ℕ) (p : Place) (new : Caching) → IsPlaceOf t k p → k < length t.places
    → Told told next (λ m n. (xs : List Pair) (pages : List ℕ) → IsTree p t.cache m p.root xs pages → CanChange p t.cache m pages t.room → IsStrictlySortedBy pair_cmp xs → Stays t.cache new m n)
    → Told told next (λ m n. (own : ℕ → ℕ) (lists : List (List Pair)) → Stand t m own lists → Stays t.cache new m n)
same_stands t told next k p new at lt same = record {
  told = λ m held.
      let n = same.told m held in (
        n.0,
        n.1,
        λ own lists s.
            let hold = held_here t m own lists s k p at lt in
            n.2 (list_of lists k) (slice_index_or s.pages k []) hold.tree (can_change t m own lists s k p at lt) hold.ascend,
      );
  untold = same.untold;
}
