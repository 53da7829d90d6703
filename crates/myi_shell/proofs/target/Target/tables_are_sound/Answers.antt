use Rattle.std.proofs.Common.{sym, subst}
use Rattle.myi_defs.specs.Sound.{IsSound}
use Rattle.myi_shell.specs.declared.target.Target.{Target}
use Rattle.myi_shell.specs.Targets.{defs_in}
use Rattle.myi_shell.proofs.ListLemmas.{list_sound}
use Rattle.myi_shell.proofs.target.Target.tables_are_sound.Goals as goal

pub returns-in-Many : goal.returns-in-Many
returns-in-Many c = subst (λ (t : Target). IsSound (defs_in t)) (sym c.in-Many.is) (list_sound c.in-Many.merge c.defs-in-Many.ensures.list)
