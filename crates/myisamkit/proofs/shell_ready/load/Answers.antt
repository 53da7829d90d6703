use Rattle.std.proofs.Common.{subst}
use Rattle.myisamkit.specs.ShellSteps.{IsListed}
use Rattle.myisamkit.proofs.shell_ready.load.Goals as goal

pub load_table-requires-clause-table : goal.load_table-requires-clause-table
load_table-requires-clause-table g c κs within m held = subst (λ b. IsListed b c.args.job.now.name.now m) c.if-list.false (c.requires.list m held)
