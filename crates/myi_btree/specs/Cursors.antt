-- The code of a walk that is under way: where it stands, and what its calls do.
use Rattle.std.specs.Prelude.{◌≡◌, ◌⊎◌, ℕ, ◌+◌, Bool, true, List, [], ◌∷◌, ◌++◌, map, Option, Some, None, nat_lt, ◌==◌, if◌then◌else◌}
use Rattle.std.specs.List.{list_all}
use Rattle.myi_base.specs.Holding.{Holding}
use Rattle.myi_keycache.specs.Caching.{Caching}
use Rattle.myi_btree.specs.declared.place.Place.{Place}
use Rattle.myi_btree.specs.declared.visited.OpenPage.{OpenPage}
use Rattle.myi_btree.specs.declared.cursor.Cursor.{Cursor}
use Rattle.myi_btree.specs.declared.event.Event.TheVariants as met
use Rattle.myi_btree.specs.declared.event.Event as declared
use Rattle.myi_btree.specs.Walk.{Node, Places}
use Rattle.myi_btree.specs.Visit.{entered}
use Rattle.myi_btree.specs.Events.{Event, page, pair, bad, first_bad, pages_in}
use Rattle.myi_btree.specs.Walking.{Walking, IsStillMet, HasRoom, Asks, MayGo, Goes}
use Rattle.myi_btree.specs.Visited.{HasPlaces, node_left}
use Rattle.myi_btree.specs.Serving.{View, nodes_at}

abbrev pub event_of : declared.Event → Event
event_of (met.Page at) = page at
event_of (met.Pair p at) = pair p at
event_of (met.Bad at) = bad at

abbrev pub events_of : Option declared.Event → List Event
events_of None = []
events_of (Some event) = event_of event ∷ []

-- the place of an open page, and what it has left
abbrev pub opened : OpenPage → ℕ × Node
opened p = (p.at, node_left p)

abbrev pub path_of : Cursor → List (ℕ × Node)
path_of cursor = map opened cursor.path.items

abbrev pub walking_of : Cursor → Walking
walking_of cursor = record { place = cursor.setup.place; height = cursor.height; down = cursor.down; path = path_of cursor; met = cursor.visited.places.keys }

abbrev pub Leaves : ℕ → Places → List ℕ → Cursor → List Event → Type 0
Leaves block read seen cursor es = IsStillMet block read seen (walking_of cursor) es

abbrev pub FitsIn : Cursor → Type 0
FitsIn cursor = HasRoom (walking_of cursor)

abbrev pub AsksFor : (ℕ → Bool) → Cursor → Type 0
AsksFor asked cursor = Asks asked (walking_of cursor)

abbrev pub CanGo : Place → View → Option Holding → Caching → List ℕ → Cursor → Type 0
CanGo place v told cache seen cursor = MayGo place v told cache seen (walking_of cursor)

abbrev pub Moves : ℕ → Places → (ℕ → Bool) → List ℕ → Cursor → Cursor → List Event → Type 0
Moves block read asked seen old new given = Goes block read asked seen (walking_of old) (walking_of new) given

-- whether a page may stand behind so many open ones: a leaf as deep as the first one, a node less deep
abbrev pub may_stand : Option ℕ → ℕ → Bool → Bool
may_stand None depth is_leaf = true
may_stand (Some height) depth is_leaf = if is_leaf then depth + 1 == height else nat_lt (depth + 1) height

-- how high the tree is then
abbrev pub height_with : Option ℕ → ℕ → Bool → Option ℕ
height_with height depth is_leaf = if is_leaf then Some (depth + 1) else height

-- nothing is left
abbrev pub IsDone : Cursor → Type 0
IsDone cursor = (cursor.down ≡ None) × (cursor.path.items ≡ [])

-- what a run of a cursor to its end met: pairs, and no bad place
pub record Runs (block : ℕ) (read : Places) (old new : Cursor) (shown : List Event → Type 0) : Type 0 where
  pub events : List Event
  pub left : Leaves block read [] old events
  pub met : HasPlaces new.visited.places.keys (pages_in events)
  pub none : first_bad events ≡ None
  pub pairs : shown events

-- a run that is under way: what it met, and that it may go on
pub record RunsOn (place : Place) (v : View) (told : Option Holding) (cache : Caching) (old new : Cursor) (shown : List Event → Type 0) : Type 0 where
  pub events : List Event
  pub can : CanGo place v told cache (pages_in events) new
  pub none : first_bad events ≡ None
  pub pairs : shown events
  pub back : (es : List Event) → Leaves place.block_length (nodes_at place v) (pages_in events) new es → Leaves place.block_length (nodes_at place v) [] old (events ++ es)

-- a run met this bad place first
pub record RunsInto (block : ℕ) (read : Places) (old : Cursor) (at : ℕ) : Type 0 where
  pub events : List Event
  pub left : Leaves block read [] old events
  pub bad : first_bad events ≡ Some at

-- a page that was gone into was opened, or may not stand there
abbrev pub Opens : Cursor → Cursor → OpenPage → Event → Type 0
Opens old new opening event = ((event ≡ page opening.at) ⊎ ((event ≡ bad opening.at) × IsDone new)) × ((block : ℕ) (read : Places) (asked : ℕ → Bool) (seen : List ℕ) → FitsIn old → AsksFor asked old → list_all asked (node_left opening).children ≡ true → entered block read opening.at seen ≡ Some (node_left opening)
    → AsksFor asked new × FitsIn new × ((es : List Event) → Leaves block read (seen ++ opening.at ∷ []) new es → Leaves block read seen old (event ∷ es)))

-- no page was gone into, and no place is bad
abbrev pub HasNoPage : List Event → Type 0
HasNoPage given = (pages_in given ≡ []) × (first_bad given ≡ None)

-- a cursor went up to its next pair or child
abbrev pub Rises : Cursor → Cursor → List Event → Type 0
Rises old new given = (block : ℕ) (read : Places) (asked : ℕ → Bool) (seen : List ℕ) → FitsIn old → AsksFor asked old → AsksFor asked new × FitsIn new × ((es : List Event) → Leaves block read seen new es → Leaves block read seen old (given ++ es))
