use Rattle.myi_locks.proofs.EndLemmas.{kept_by}
use Rattle.myi_locks.proofs.locks.Locks.advance.Goals as goal

pub invariant_of-self : goal.invariant_of-self
invariant_of-self c = kept_by _ _ _ _ _ c.self.invariant c.self.view_is c.requires c.do_round.ensures
