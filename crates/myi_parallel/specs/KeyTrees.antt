-- The tree of a key, as it is asked for.
use Rattle.myi_keylist.specs.PairOrder.{sorted}
use Rattle.myi_parallel.specs.declared.key_tree.KeyTree.{KeyTree}
use Rattle.myi_parallel.specs.Asked.{Asked, asked}

abbrev pub asked_of : KeyTree → Asked
asked_of t = asked t.key t.place (sorted t.pairs)
