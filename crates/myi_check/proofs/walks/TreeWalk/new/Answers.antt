use Rattle.std.proofs.Common.{refl}
use Rattle.myi_check.proofs.ShowsLaws.{apart_first}
use Rattle.myi_check.proofs.walks.TreeWalk.new.Goals as goal

pub returns-clause-shows : goal.returns-clause-shows
returns-clause-shows c = λ key pairs busy all. apart_first key pairs busy (record { met = c.none.result; is_cut = _; places = c.new.result; bytes = _ }) all refl c.none.ensures c.new.ensures.empty refl
