-- The pages of trees that are laid in memory.
use Rattle.std.specs.Prelude.{List, [], ◌∷◌}
use Rattle.myi_keylist.specs.declared.pair.Pair.{Pair}
use Rattle.myi_keylist.specs.PairOrder.{sorted}
use Rattle.myi_btree.specs.declared.place.Place.{Place}
use Rattle.myi_btree.specs.declared.laid.Laid.{Laid}
use Rattle.myi_parallel.specs.Asked.{Asked}
-- the tree of these pairs, laid from place 0 on
pub use Rattle.myi_repair.specs.LaidInMemory.{IsLaid}

-- the same of the pairs in order
abbrev pub IsLaidTree : Place → List Pair → Laid → Type 0
IsLaidTree place pairs laid = IsLaid place (sorted pairs) laid

-- they are the trees that were asked for, one after the other
abbrev pub AreLaid : List Asked → List Laid → Type 0
AreLaid [] [] = Unit {0}
AreLaid [] (l ∷ ls) = ⊥
AreLaid (a ∷ asked) [] = ⊥
AreLaid (a ∷ asked) (l ∷ ls) = IsLaid a.place a.pairs l × AreLaid asked ls
