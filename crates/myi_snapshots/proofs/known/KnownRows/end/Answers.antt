use Rattle.std.proofs.Common.{ap, ◌∙◌}
use Rattle.myi_snapshots.specs.Known.{end_with}
use Rattle.myi_snapshots.specs.Knowing.{Knowing, packed_of, told_place}
use Rattle.myi_snapshots.proofs.known.KnownRows.end.Goals as goal

pub returns : goal.returns
returns c = c.self.invariant.ends ∙ ap (λ (k : Knowing). told_place (end_with k.defs k.begin (packed_of k))) c.self.view_is
