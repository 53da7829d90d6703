use Rattle.std.proofs.Common.{ap}
use Rattle.myi_state.specs.Changes.{Step}
use Rattle.myi_state.proofs.KeptLemmas.{refusal-leaves, row-refused, room-refused, none-refused}
use Rattle.myi_state.proofs.laws.refusals_leave_states.Goals as goal

pub returns : goal.returns
returns c = record {
  left = refusal-leaves;
  row = row-refused;
  room = room-refused;
  accepted = λ d s change row room. ap (λ (t : Step). t.reply) (none-refused d s change row room);
  changed = λ d s change row room. ap (λ (t : Step). t.state) (none-refused d s change row room);
}
