-- The walk of a tree from its first event to its end.
use Rattle.std.proofs.Common.{◌≡◌, ℕ, ◌+◌, ◌%◌, ◌<◌, ◌≤◌, Bool, true, false, cond, eqb, nat_le, Option, Some, None, List, [], ◌∷◌, ◌++◌, append-nil, length, take, drop, refl, sym, ap, subst, ◌∙◌, arith, inl, length-drop}
use Rattle.std.specs.Prelude.{is_some, Result, Ok, Err, IfOk}
use Rattle.std.specs.List.{list_all}
use Rattle.std.specs.List.Sorted.{IsStrictlySortedBy}
use Rattle.std.specs.Option.{option_to_list}
use Rattle.std.proofs.lemmas.Bool.{leb-true}
use Rattle.myi_base.specs.Holding.{Holding, bytes_of}
use Rattle.myi_keycache.specs.Kept.{Page, AllWritten, kept, is_unwritten}
use Rattle.myi_keycache.specs.Lent.{bytes_at, lent}
use Rattle.myi_keycache.specs.Caching.{Caching, pages_of, IsCurrent}
use Rattle.myi_keycache.proofs.CallerLemmas.{stays_start}
use Rattle.myi_btree.specs.declared.place.Place.{Place}
use Rattle.myi_btree.specs.Walk.{◌>>=◌, Node, Places}
use Rattle.myi_btree.specs.Nodes.{node_in}
use Rattle.myi_btree.specs.Events.{Event, Meets, MeetsTree, events, up_to_bad}
use Rattle.myi_btree.specs.Going.{IsLeft, Fits, below}
use Rattle.myi_btree.specs.TreeEvents.{AreWithin, tree_events}
use Rattle.myi_btree.specs.CachedTrees.{node_lent}
use Rattle.myi_btree.specs.Serving.{View, view, nodes_at, IsServed}
use Rattle.myi_btree.specs.Walking.{Walking, walk_at, IsStillMet, IsOver, MayGo, Goes}
use Rattle.myi_btree.proofs.CallerLemmas.{meets_once, tree_met}
use Rattle.myi_pair.specs.Trees.{node_at}
use Rattle.myi_check.specs.Walks.{EventList, GoesOn, events_in}

-- ---- where a walk begins, and where it is over

all_asked : (children : List ℕ) → list_all (λ (c : ℕ). true) children ≡ true
all_asked [] = refl
all_asked (c ∷ cs) = all_asked cs

-- any page may be asked for, where no page is unwritten
abbrev pub any_place : Caching → Holding → View
any_place cache m = view cache m (λ (c : ℕ). true)

pub may_begin : (place : Place) (held : Option Holding) (cache : Caching) (m : Holding) (root : ℕ) → held ≡ Some m → IsCurrent cache m → AllWritten (pages_of cache) → place.root ≡ Some root → MayGo place (any_place cache m) held cache [] (walk_at place)
unfolding IsStrictlySortedBy
may_begin place held cache m root told current written is = record {
  goes = record {
    serves = record {
      closed = λ at node a r. all_asked node.children;
      current = current;
      apart = λ at a p n u. absurd (written p n u);
      there = inl written;
      now = m;
      held = told;
      name = refl;
      unwritten = λ p n u. u;
      stays = stays_start cache m current;
      same = λ all. refl;
      added = λ p n kept. inl kept;
    };
    named = refl;
    ascends = tt;
  };
  has = (λ test. refl, refl);
  asks = record { down = ap (λ (o : Option ℕ). list_all (λ (c : ℕ). true) (option_to_list o)) is; path = tt };
  fits = subst (λ (o : Option ℕ). Fits None o []) (sym is) tt;
}

left_over : (block : ℕ) (read : Places) (seen : List ℕ) (height down : Option ℕ) (path : List (ℕ × Node)) → down ≡ None → path ≡ [] → IsLeft block read seen height down path []
left_over block read seen height down path none empty = subst (λ (d : Option ℕ). IsLeft block read seen height d path []) (sym none) (subst (λ (p : List (ℕ × Node)). IsLeft block read seen height None p []) (sym empty) (by height))
  where
    by : (height : Option ℕ) → IsLeft block read seen height None [] []
    by None = record { level = 0; height_is = tt; is = refl }
    by (Some h) = record { level = h; height_is = omega arith; is = refl }

over : (block : ℕ) (read : Places) (seen : List ℕ) (w : Walking) → IsOver w → IsStillMet block read seen w []
over block read seen w done = left_over block read seen w.height w.down w.path done.0 done.1

meets : (place : Place) (block : ℕ) (read : Places) (root : ℕ) (es : List Event) → place.root ≡ Some root → IsStillMet block read [] (walk_at place) es → Meets block read root es
meets place block read root es is left =
    let l : IsLeft block read [] None (Some root) [] es = subst (λ (o : Option ℕ). IsLeft block read [] None o [] es) is left in
    let (h, e, depth) = l.height_is in
    record { height = h; depth = depth; is = l.is ∙ ap (λ n. up_to_bad block [] (below read n root ++ [])) e ∙ ap (up_to_bad block []) (append-nil (events read h root)) }

-- ---- events one after the other

pub goes_first : (Of : EventList → EventList → Type 0) (place : Place) (v : View) (held : Option Holding) (cache : Caching) → MayGo place v held cache [] (walk_at place) → ((all : List Event) → Of all all) → GoesOn Of place v held cache (walk_at place)
goes_first Of place v held cache may shows = record { seen = []; may = may; back = λ left l. (left, l, shows left) }

pub goes_on : (Of Then : EventList → EventList → Type 0) (place : Place) (v : View) (held next : Option Holding) (cache after : Caching) (old new : Walking) (event : Event) → (g : GoesOn Of place v held cache old)
    → Goes place.block_length (nodes_at place v) v.asked g.seen old new (event ∷ []) → IsServed place v next after new.met
    → ((all left : List Event) → Of all (event ∷ left) → Then all left) → GoesOn Then place v next after new
goes_on Of Then place v held next cache after old new event g m served note = record {
  seen = m.after;
  may = record { goes = served; has = m.has; asks = m.asks; fits = m.fits };
  back = λ left l. let b = g.back (event ∷ left) (m.back left l) in (b.0, b.1, note b.0 left b.2);
}

-- what the whole walk shows, by the events of the tree
pub goes_over : (Of : EventList → EventList → Type 0) (place : Place) (v : View) (held : Option Holding) (cache : Caching) (old new : Walking) (root : ℕ) (all : List Event) → place.root ≡ Some root
    → (g : GoesOn Of place v held cache old) → Goes place.block_length (nodes_at place v) v.asked g.seen old new [] → IsOver new → MeetsTree place.block_length (nodes_at place v) place.root all → Of all []
goes_over Of place v held cache old new root all is g m done met =
    let block = place.block_length in
    let read = nodes_at place v in
    let b = g.back [] (m.back [] (over block read m.after new done)) in
    let one : Meets block read root b.0 = meets place block read root b.0 is b.1 in
    let two : Meets block read root all = subst (λ (r : Option ℕ). MeetsTree block read r all) is met in
    subst (λ (t : List Event). Of t []) (meets_once block read root b.0 all one two) b.2

-- ---- what the empty cache of a file lends

empty_lent : (place : Place) (pages : List Page) (file : List ℕ) → pages ≡ [] → ◌≡◌ {A = Places} (λ at. cond (eqb (at % 1024) 0) (lent pages file at place.block_length >>= node_in place.rec_ref) None) (node_at place.rec_ref place.block_length file)
unfolding node_at lent bytes_at kept
empty_lent place pages file e = rw e refl

pub node_same : (place : Place) (cache : Caching) (m : Holding) (x : List ℕ) → pages_of cache ≡ [] → m cache.name ≡ Some x → node_lent place cache m ≡ node_at place.rec_ref place.block_length x
unfolding node_lent
node_same place cache m x none held = empty_lent place (pages_of cache) (bytes_of cache.name m) none ∙ ap (λ (file : List ℕ). node_at place.rec_ref place.block_length file) (rw held refl)

-- pages stand in the file
within : (rec_ref block : ℕ) (x : List ℕ) → 0 < block → AreWithin (length x) block (node_at rec_ref block x)
unfolding node_at bytes_at
within rec_ref block x some = λ at node e. by (eqb (at % 1024) 0) at node e
  where
    here : (at : ℕ) (b : Bool) → nat_le block (length (drop at x)) ≡ b → (node : Node) → (cond b (Some (take block (drop at x))) None >>= node_in rec_ref) ≡ Some node → at + block ≤ length x
    here at true e node is = omega (arith, leb-true _ _ e, length-drop at x, some)
    here at false e node is = absurd cc

    by : (b : Bool) (at : ℕ) (node : Node) → cond b (bytes_at x at block >>= node_in rec_ref) None ≡ Some node → at + block ≤ length x
    by true at node e = here at (nat_le block (length (drop at x))) refl node e
    by false at node e = absurd cc

-- what the walk of a tree meets in an index file
pub tree_meets : (place : Place) (x : List ℕ) → 0 < place.block_length → MeetsTree place.block_length (node_at place.rec_ref place.block_length x) place.root (events_in place x)
tree_meets place x some = tree_met (length x) place.block_length (node_at place.rec_ref place.block_length x) place.root some (within place.rec_ref place.block_length x some)

pub file_meets : (place : Place) (cache : Caching) (m : Holding) (x : List ℕ) → 0 < place.block_length → pages_of cache ≡ [] → m cache.name ≡ Some x → MeetsTree place.block_length (node_lent place cache m) place.root (events_in place x)
file_meets place cache m x some none held =
    subst (λ (read : Places). MeetsTree place.block_length read place.root (events_in place x)) (sym (node_same place cache m x none held)) (tree_meets place x some)

-- ---- a tree with no root, and a cache with no page

pub root_there : (o : Option ℕ) → is_some o ≡ true → (root : ℕ) × (o ≡ Some root)
root_there None e = absurd cc
root_there (Some root) e = (root, refl)

pub none_met : (place : Place) (x : List ℕ) → is_some place.root ≡ false → events_in place x ≡ []
none_met place x e = by place.root e
  where
    by : (root : Option ℕ) → is_some root ≡ false → tree_events (length x) place.block_length (node_at place.rec_ref place.block_length x) root ≡ []
    by None e = refl
    by (Some root) e = absurd cc

pub none_written : (pages : List Page) → pages ≡ [] → AllWritten pages
unfolding is_unwritten
none_written [] e = λ p n u. absurd cc
none_written (page ∷ pages) e = absurd cc

pub ok_so : {T E : Type 0} (r : Result T E) (P Q : T → Type 0) → IfOk r P → ((x : T) → P x → Q x) → IfOk r Q
ok_so (Ok x) P Q p f = f x p
ok_so (Err e) P Q p f = p
