use Rattle.std.proofs.Common.{◌≤◌}
use Rattle.myi_base.specs.Holding.{Told}
use Rattle.myi_make.proofs.DamageLaws.{DamagesSoFar}
use Rattle.myi_make.proofs.damage.damage_blocks.Given as goal

abbrev pub invariant-loop-i : goal.invariant-loop-i
invariant-loop-i g l = record {
  later : g.F.Files.faults l.fn.files ≤ g.F.Files.faults l.files;
  so_far : Told (g.F.Files.holds l.fn.files) (g.F.Files.holds l.files) (DamagesSoFar l.name l.blocks l.i);
}
