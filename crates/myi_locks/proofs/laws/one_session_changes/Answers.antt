use Rattle.myi_locks.proofs.TogetherLemmas.{one_writer, together_kinds, own_runs}
use Rattle.myi_locks.proofs.laws.one_session_changes.Goals as goal

pub returns : goal.returns
returns c = record { one = one_writer; kinds = together_kinds; runs = own_runs }
