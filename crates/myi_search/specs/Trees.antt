-- A tree that a search goes down, in what a key cache lends.
use Rattle.std.specs.Prelude.{◌≡◌, ℕ, List, [], Option, Some, None}
use Rattle.myi_base.specs.Holding.{Holding}
use Rattle.myi_keycache.specs.Caching.{Caching}
use Rattle.myi_keylist.specs.declared.pair.Pair.{Pair}
use Rattle.myi_btree.specs.declared.place.Place.{Place}
use Rattle.myi_btree.specs.Walk.{Walked, walk_of, content}
use Rattle.myi_btree.specs.CachedTrees.{node_lent}

-- the tree has a walk with these pairs, whose leaves stand so many levels below the root; without a root it has none
abbrev pub HasTree : Place → Caching → Holding → Option ℕ → ℕ → List Pair → Type 0
HasTree place cache m None height pairs = pairs ≡ []
HasTree place cache m (Some root) height pairs = (w : Walked) × (walk_of (node_lent place cache m) height root ≡ Some w) × (pairs ≡ content w)
