use Rattle.std.proofs.Common.{refl}
use Rattle.myi_keycache.specs.Midpoint.{midpoint, without}
use Rattle.myi_keycache.proofs.laws.lists_of_four_blocks.Goals as goal

pub returns : goal.returns
unfolding midpoint without
returns c = record { each = (refl, (refl, (refl, (refl, (refl, (refl, (refl, (refl, (refl, (refl, (refl, (refl, (refl, (refl, tt)))))))))))))); third_hit = refl; evicted = refl; old_goes = refl; last_goes = refl; old = refl; end = refl }
