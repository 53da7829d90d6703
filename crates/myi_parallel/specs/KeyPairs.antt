-- What is asked for of a list of keys: the tree of each.
use Rattle.std.specs.Prelude.{ℕ, ◌+◌, List, [], ◌∷◌}
use Rattle.myi_defs.specs.declared.types.Defs.{Defs}
use Rattle.myi_keylist.specs.declared.pair.Pair.{Pair}
use Rattle.myi_keylist.specs.PairOrder.{sorted}
use Rattle.myi_pair.specs.Trees.{place_of}
use Rattle.myi_parallel.specs.declared.workers.KeyPairs.{KeyPairs}
use Rattle.myi_parallel.specs.Asked.{Asked, asked}

-- the keys have their numbers in their order, from this one on, and their pairs are laid in order
abbrev pub asked_from : ℕ → List KeyPairs → List Asked
asked_from number [] = []
asked_from number (k ∷ ks) = asked number k.place (sorted k.pairs) ∷ asked_from (number + 1) ks

-- the keys of a table from this number on, with these pairs, a list for each
abbrev pub keys_from : Defs → ℕ → List (List Pair) → List KeyPairs
keys_from d number [] = []
keys_from d number (pairs ∷ lists) = record { place = place_of d number; pairs = pairs } ∷ keys_from d (number + 1) lists
