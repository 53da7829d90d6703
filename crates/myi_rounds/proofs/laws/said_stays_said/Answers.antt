use Rattle.myi_rounds.proofs.SaidLemmas.{knows_more}
use Rattle.myi_rounds.proofs.FitLemmas.{begun, all_behind}
use Rattle.myi_rounds.proofs.laws.said_stays_said.Goals as goal

pub returns : goal.returns
returns c = record {
  begun = begun;
  more = knows_more;
  behind = all_behind;
}
