use Rattle.std.proofs.Common.{◌-◌, suc, length}
use Rattle.myi_snapshots.specs.Knowing.{packed_of}
use Rattle.myi_readers.specs.Indexes.{IsIndexOf}
use Rattle.myi_readers.proofs.known_keys.KnownKeys.read_on.Given as goal

abbrev pub invariant-loop-self : goal.invariant-loop-self
invariant-loop-self l = IsIndexOf l.defs (suc l.key) l.known.begin (packed_of l.known) l.self

abbrev pub decreases-loop-self : goal.decreases-loop-self
decreases-loop-self l = length (packed_of l.known) - l.self.count
