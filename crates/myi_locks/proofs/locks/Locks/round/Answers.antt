use Rattle.myi_locks.proofs.EndLemmas.{holds_by}
use Rattle.myi_locks.proofs.locks.Locks.round.Goals as goal

pub returns-clause-some : goal.returns-clause-some
returns-clause-some c = holds_by _ _ _ _ _ _ c.self.invariant c.self.view_is c.deref.ensures.value c.in_ok-round.ensures
