use Rattle.std.proofs.Common.{◌≡◌, map, take}
use Rattle.myi_defs.specs.ReadDefs.{key_of}
use Rattle.myi_defs.proofs.read.keys_of.Given as goal

abbrev pub invariant-loop-item : goal.invariant-loop-item
invariant-loop-item l = l.keys.items ≡ map (key_of l.fields) (take l.item-index l.items)
