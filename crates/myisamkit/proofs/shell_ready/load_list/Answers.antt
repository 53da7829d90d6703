use Rattle.std.proofs.Common.{subst}
use Rattle.myi_merge.specs.Loading.{RefusesMerge}
use Rattle.myisamkit.proofs.ShellRunLaws.{differ_so}
use Rattle.myisamkit.proofs.shell_ready.load_list.Goals as goal

pub returns-in-Err-Differs-clause-loaded : goal.returns-in-Err-Differs-clause-loaded
returns-in-Err-Differs-clause-loaded g c m held = differ_so c.args.name.now c.in-Err-Differs.field-0-0 m (subst (λ f. RefusesMerge c.args.name.now f m) c.in-Err-Differs.field-0-is (c.in-Err-Differs.ensures.refused m held))
