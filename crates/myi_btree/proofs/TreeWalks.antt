-- What a run of a cursor from the root of a tree on finds.
use Rattle.std.proofs.Common.{◌≡◌, ℕ, Bool, true, map, Option, Some, None, Result, Ok, Err, List, [], length, refl, sym, ap, subst, ◌∙◌}
use Rattle.std.specs.Prelude.{IfOk, IfErr, OnOk}
use Rattle.std.specs.List.{list_all, AllByRecursion}
use Rattle.std.specs.Option.{option_to_list}
use Rattle.std.proofs.lemmas.Bool.{and_from}
use Rattle.myi_base.specs.Holding.{Holding}
use Rattle.myi_keycache.specs.Caching.{Caching, IsCurrent}
use Rattle.myi_keylist.specs.declared.pair.Pair.{Pair}
use Rattle.myi_btree.specs.declared.place.Place.{Place}
use Rattle.myi_btree.specs.declared.visited.OpenPage.{OpenPage}
use Rattle.myi_btree.specs.declared.cursor.Cursor.{Cursor}
use Rattle.myi_btree.specs.Walk.{Places, Walked, AreNodes}
use Rattle.myi_btree.specs.Visit.{HasWalk}
use Rattle.myi_btree.specs.Events.{Event, Meets, MeetsTree, FindsPairs, FindsBad, pairs_in, walked_in}
use Rattle.myi_btree.specs.Going.{IsLeft, Fits}
use Rattle.myi_btree.specs.Serving.{View, view, Serves, IsServed}
use Rattle.myi_btree.specs.Walking.{walk_at, IsStillMet, MayGo}
use Rattle.myi_btree.specs.CachedTrees.{CanWalk}
use Rattle.std.specs.List.Sorted.{IsStrictlySortedBy}
use Rattle.myi_btree.specs.Cursors.{opened, path_of, Leaves, CanGo, Runs, RunsInto}
use Rattle.myi_btree.proofs.GoingLaws.{starts}
use Rattle.myi_btree.proofs.EventWalks.{meets_walk}
use Rattle.myi_btree.proofs.Once.{one_walk}
use Rattle.myi_btree.proofs.StartLaws.{Begins, begins, first_goes}

-- a cursor before its first page
pub record IsFirst (c : Cursor) (root : ℕ) : Type 0 where
  pub height : c.height ≡ None
  pub down : c.down ≡ Some root
  pub path : c.path.items ≡ []
  pub none : c.visited.places.keys ≡ []

pub first_can : (place : Place) (v : View) (told : Option Holding) (cache : Caching) (root : ℕ) (c : Cursor) → Serves place v told cache → v.asked root ≡ true → IsFirst c root → CanGo place v told cache [] c
first_can place v told cache root c serves at f = record {
  goes = first_goes place v told cache c.visited serves f.none;
  has = (λ test. ap (list_all test) f.none, ap length f.none);
  asks = record {
    down = ap (λ (d : Option ℕ). list_all v.asked (option_to_list d)) f.down ∙ and_from (v.asked root) true at refl;
    path = subst (λ (t : List OpenPage). AllByRecursion (λ p. list_all v.asked p.1.children ≡ true) (map opened t)) (sym f.path) tt;
  };
  fits = subst (λ (h : Option ℕ). Fits h c.down (path_of c)) (sym f.height) (subst (λ (d : Option ℕ). Fits None d (path_of c)) (sym f.down) tt);
}

first_meets : (block root : ℕ) (read : Places) (c : Cursor) (es : List Event) → IsFirst c root → Leaves block read [] c es → Meets block read root es
first_meets block root read c es f l = starts block read root es
    (subst (λ (t : List OpenPage). IsLeft block read [] None (Some root) (map opened t) es) f.path
    (subst (λ (d : Option ℕ). IsLeft block read [] None d (path_of c) es) f.down (subst (λ (h : Option ℕ). IsLeft block read [] h c.down (path_of c) es) f.height l)))

pub run_pairs : (block root : ℕ) (read : Places) (tree : Option ℕ) (c new : Cursor) (pairs : List (Pair × ℕ)) → tree ≡ Some root → IsFirst c root → Runs block read c new (λ es. pairs_in es ≡ pairs) → FindsPairs block read tree pairs
run_pairs block root read tree c new pairs is f r = rw is (r.events, first_meets block root read c r.events f r.left, r.none, r.pairs)

pub run_bad : (block root : ℕ) (read : Places) (tree : Option ℕ) (c : Cursor) (at : ℕ) → tree ≡ Some root → IsFirst c root → RunsInto block read c at → FindsBad block read tree at
run_bad block root read tree c at is f r = rw is (r.events, first_meets block root read c r.events f r.left, r.bad)

pub finds_none : (block : ℕ) (read : Places) (tree : Option ℕ) (pairs : List (Pair × ℕ)) → tree ≡ None → pairs ≡ [] → FindsPairs block read tree pairs
finds_none block read tree pairs is none = rw is ([], refl, refl, sym none)

-- as many pages were met as the walk has
pub run_count : (block root : ℕ) (read : Places) (c new : Cursor) (shown : List Event → Type 0) → AreNodes read → IsFirst c root → Runs block read c new shown → (w : Walked) → HasWalk block read root w → length new.visited.places.keys ≡ length w.pages
run_count block root read c new shown nodes f r w walk =
    let met = meets_walk block read root r.events nodes (first_meets block root read c r.events f r.left) r.none in
    let same : walked_in r.events ≡ w = one_walk read met.height walk.height root (walked_in r.events) w met.walk walk.walk in
    r.met.1 ∙ ap (λ (w : Walked). length w.pages) same

-- ---- results

pub if_ok_so : {T E : Type 0} (r : Result T E) (P Q : T → Type 0) → IfOk r P → ((x : T) → P x → Q x) → IfOk r Q
if_ok_so (Ok x) P Q h f = f x h
if_ok_so (Err e) P Q h f = tt

pub if_err_so : {T E : Type 0} (r : Result T E) (P Q : E → Type 0) → IfErr r P → ((e : E) → P e → Q e) → IfErr r Q
if_err_so (Ok x) P Q h f = tt
if_err_so (Err e) P Q h f = f e h

pub both_ok : {T E : Type 0} (r : Result T E) (P : T → Type 0) (A X : Type 0) → IfOk r P → OnOk r A → ((x : T) → P x → A → X) → OnOk r X
both_ok (Ok x) P A X h a f = f x h a
both_ok (Err e) P A X h a f = tt

-- ---- where a walk begins

served_first : (place : Place) (v : View) (told : Option Holding) (cache : Caching) → Serves place v told cache → IsServed place v told cache []
unfolding IsStrictlySortedBy
served_first place v told cache serves = record { serves = serves; named = refl; ascends = tt }

first_at : (place : Place) (v : View) (told : Option Holding) (cache : Caching) (root : ℕ) → Serves place v told cache → v.asked root ≡ true → place.root ≡ Some root → MayGo place v told cache [] (walk_at place)
first_at place v told cache root serves at is = record {
  goes = served_first place v told cache serves;
  has = (λ test. refl, refl);
  asks = record { down = ap (λ (d : Option ℕ). list_all v.asked (option_to_list d)) is ∙ and_from (v.asked root) true at refl; path = tt };
  fits = subst (λ (d : Option ℕ). Fits None d []) (sym is) tt;
}

pub may_begin : (writable : Bool) (place : Place) (told : Option Holding) (cache : Caching) (m : Holding) (root : ℕ) → CanWalk writable told place cache → told ≡ Some m → IsCurrent cache m → place.root ≡ Some root
    → (v : View) × (v.first ≡ cache) × (v.start ≡ m) × MayGo place v told cache [] (walk_at place)
may_begin writable place told cache m root may held current is =
    let b : Begins place told cache m root = begins writable place told cache m root may held current is in
    (view cache m b.asked, refl, refl, first_at place (view cache m b.asked) told cache root b.serves b.at is)

pub begin_meets : (place : Place) (block : ℕ) (read : Places) (es : List Event) → IsStillMet block read [] (walk_at place) es → MeetsTree block read place.root es
begin_meets place block read es l = by place.root l
  where
    by : (tree : Option ℕ) → IsLeft block read [] None tree [] es → MeetsTree block read tree es
    by None l = l.is
    by (Some root) l = starts block read root es l
