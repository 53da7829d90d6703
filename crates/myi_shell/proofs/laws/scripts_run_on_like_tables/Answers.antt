use Rattle.myi_shell.proofs.LikeLemmas.{run_like}
use Rattle.myi_shell.proofs.laws.scripts_run_on_like_tables.Goals as goal

pub returns : goal.returns
returns c = run_like
