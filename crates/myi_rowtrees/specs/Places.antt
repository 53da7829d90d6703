-- Where the trees of a table stand: one for each key, with the roots that the index file keeps.
use Rattle.std.specs.Prelude.{ℕ, List, [], ◌∷◌, Option}
use Rattle.myi_defs.specs.declared.types.Defs.{Defs}
use Rattle.myi_btree.specs.declared.place.Place.{Place}
use Rattle.myi_pair.specs.FirstRows.{key_numbers}
use Rattle.myi_pair.specs.Trees.{place_of}

-- the places of the trees of these keys, by these roots
abbrev pub places_from : Defs → List ℕ → List (Option ℕ) → List Place
places_from d [] roots = []
places_from d (k ∷ ks) [] = []
places_from d (k ∷ ks) (root ∷ roots) = record (place_of d k) { root = root } ∷ places_from d ks roots

abbrev pub places_of : Defs → List (Option ℕ) → List Place
places_of d roots = places_from d (key_numbers d) roots
