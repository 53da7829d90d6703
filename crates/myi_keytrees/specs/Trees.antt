-- The trees of all keys of a table, in one index file with one key cache.
use Rattle.std.specs.Prelude.{◌≡◌, List, map, None}
use Rattle.myi_keycache.specs.Caching.{Caching}
use Rattle.myi_btree.specs.declared.place.Place.{Place}
use Rattle.myi_btree.specs.declared.place.Room.{Room}

-- the place of each tree, by the number of its key from 0; the room for new pages; and the key cache of the index file
pub record Trees : Type 0 where
  pub places : List Place
  pub room : Room
  pub cache : Caching

-- how the pages of each tree are made
abbrev pub kinds : List Place → List Place
kinds places = map (λ (p : Place). record p { root = None }) places

-- the pages of each tree are made as before
abbrev pub SameKinds : List Place → List Place → Type 0
SameKinds old new = kinds new ≡ kinds old
