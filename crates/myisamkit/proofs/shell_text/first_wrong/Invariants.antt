use Rattle.std.proofs.Common.{◌≡◌, ◌≤◌, map, drop, string_bytes}
use Rattle.myi_base.specs.Holding.{IfTold}
use Rattle.myisamkit.specs.Shells.{first_said, wrong_in}
use Rattle.myisamkit.proofs.shell_text.first_wrong.Given as goal

abbrev pub invariant-loop-name : goal.invariant-loop-name
invariant-loop-name g l = record {
  so_far : IfTold (g.F.Files.holds l.fn.files) (λ m. first_said (wrong_in m) (map (λ s. string_bytes s) l.fn.names) ≡ first_said (wrong_in m) (map (λ s. string_bytes s) (drop l.name-index l.names)));
  holds : g.F.Files.holds l.files ≡ g.F.Files.holds l.fn.files;
  later : g.F.Files.faults l.fn.files ≤ g.F.Files.faults l.files;
}
