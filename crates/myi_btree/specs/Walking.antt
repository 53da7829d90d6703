-- A walk that is under way: where it stands, what it still meets, and what a call does to it.
use Rattle.std.specs.Prelude.{◌≡◌, ℕ, ◌+◌, ◌-◌, ◌*◌, ◌^◌, Bool, true, List, [], ◌++◌, length, sum_by, Option, Some, None}
use Rattle.std.specs.List.{list_all, AllByRecursion}
use Rattle.std.specs.Option.{option_to_list}
use Rattle.myi_base.specs.Holding.{Holding}
use Rattle.myi_keycache.specs.Caching.{Caching}
use Rattle.myi_btree.specs.declared.place.Place.{Place}
use Rattle.myi_btree.specs.Walk.{Node, Places}
use Rattle.myi_btree.specs.Events.{Event, first_bad, pages_in}
use Rattle.myi_btree.specs.Going.{IsLeft, Fits}
use Rattle.myi_btree.specs.Visited.{HasPlaces}
use Rattle.myi_btree.specs.Serving.{View, IsServed}

-- where a walk stands: how many pages stand on the way from the root to each leaf, once the first leaf was met; the page
-- that is gone into next; the open pages, each the child of the one before, with what each has left; the pages that were
-- met
pub record Walking : Type 0 where
  pub place : Place
  pub height : Option ℕ
  pub down : Option ℕ
  pub path : List (ℕ × Node)
  pub met : List ℕ

-- before the first page of a tree
abbrev pub walk_at : Place → Walking
walk_at place = record { place = place; height = None; down = place.root; path = []; met = [] }

-- nothing is left
abbrev pub IsOver : Walking → Type 0
IsOver w = (w.down ≡ None) × (w.path ≡ [])

-- what a walk has at hand: the page that is gone into next, and what its open pages have left
abbrev pub at_hand : Walking → ℕ
at_hand w = length (option_to_list w.down) + sum_by (λ (p : ℕ × Node). length p.1.pairs + length p.1.children) w.path

-- A number that each event makes smaller: no more than 2^64 pages are met, and a page has fewer than 2^64 pairs and as
-- many children.
abbrev pub steps_left : Walking → ℕ
steps_left w = (2 ^ 64 - length w.met) * 2 ^ 65 + at_hand w

-- these events are still met, where these pages were met
abbrev pub IsStillMet : ℕ → Places → List ℕ → Walking → List Event → Type 0
IsStillMet block read seen w es = IsLeft block read seen w.height w.down w.path es

abbrev pub HasRoom : Walking → Type 0
HasRoom w = Fits w.height w.down w.path

-- the children that are still to come may be asked for
pub record Asks (asked : ℕ → Bool) (w : Walking) : Type 0 where
  pub down : list_all asked (option_to_list w.down) ≡ true
  pub path : AllByRecursion (λ (p : ℕ × Node). list_all asked p.1.children ≡ true) w.path

-- a walk met these pages and may go on
pub record MayGo (place : Place) (v : View) (told : Option Holding) (cache : Caching) (seen : List ℕ) (w : Walking) : Type 0 where
  pub goes : IsServed place v told cache w.met
  pub has : HasPlaces w.met seen
  pub asks : Asks v.asked w
  pub fits : HasRoom w

-- A call met the first of the events that are left. These pages were met then, the walk may ask for those that come, and
-- what was left is what it met and what is left.
pub record Goes (block : ℕ) (read : Places) (asked : ℕ → Bool) (seen : List ℕ) (old new : Walking) (given : List Event) : Type 0 where
  pub after : List ℕ
  pub has : HasPlaces new.met after
  pub grows : first_bad given ≡ None → after ≡ seen ++ pages_in given
  pub done : (at : ℕ) → first_bad given ≡ Some at → IsOver new
  pub asks : Asks asked new
  pub fits : HasRoom new
  pub back : (es : List Event) → IsStillMet block read after new es → IsStillMet block read seen old (given ++ es)
