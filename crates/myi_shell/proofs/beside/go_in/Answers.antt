use Rattle.std.proofs.Common.{◌≡◌, Bool, true, false, sym, ap, ◌∙◌}
use Rattle.myi_history.specs.History.{is_list}
use Rattle.myi_shell.specs.declared.target.Target.{Target}
use Rattle.myi_shell.specs.Targets.{taking}
use Rattle.myi_shell.proofs.ThreadLemmas.{list_is}
use Rattle.myi_shell.proofs.beside.go_in.Goals as goal

pub unreachable-requires : goal.unreachable-requires
unreachable-requires g c = let k : true ≡ false = sym (list_is _) ∙ ap (λ (t : Target). is_list (taking t)) (sym c.in-Many.is) ∙ c.requires.single in cc
