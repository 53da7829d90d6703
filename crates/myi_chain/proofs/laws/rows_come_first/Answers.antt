use Rattle.std.proofs.Common.{[], refl}
use Rattle.myi_chain.proofs.StepLemmas.{to_same, to_more, to_end}
use Rattle.myi_chain.proofs.ScanLemmas.{row_first}
use Rattle.myi_chain.proofs.laws.rows_come_first.Goals as goal

pub returns : goal.returns
returns c = record {
  none = λ wanted is. to_same wanted is is refl;
  more = to_more;
  ended = λ wanted is to. to_end wanted is [] to refl;
  row = row_first;
}
