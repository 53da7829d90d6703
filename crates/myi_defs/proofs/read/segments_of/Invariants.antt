use Rattle.std.proofs.Common.{◌≡◌, map, take}
use Rattle.myi_defs.specs.ReadDefs.{segment_of}
use Rattle.myi_defs.proofs.read.segments_of.Given as goal

abbrev pub invariant-loop-item : goal.invariant-loop-item
invariant-loop-item l = l.segments.items ≡ map (segment_of l.fields) (take l.item-index l.items)
