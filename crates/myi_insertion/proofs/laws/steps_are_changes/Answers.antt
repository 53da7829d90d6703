use Rattle.myi_insertion.proofs.CachedLaws.{change_get, change_put, change_take, exchange_give}
use Rattle.myi_insertion.proofs.laws.steps_are_changes.Goals as goal

pub returns-clause-got : goal.returns-clause-got
returns-clause-got c = change_get

pub returns-clause-put : goal.returns-clause-put
returns-clause-put c = change_put

pub returns-clause-taken : goal.returns-clause-taken
returns-clause-taken c = change_take

pub returns-clause-given : goal.returns-clause-given
returns-clause-given c = exchange_give
