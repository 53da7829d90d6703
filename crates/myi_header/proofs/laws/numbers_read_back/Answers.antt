use Rattle.myi_header.proofs.AnalysisLaws.{numbers-read, numbers-front, numbers-between, numbers-behind, numbers-bits}
use Rattle.myi_header.proofs.laws.numbers_read_back.Goals as goal

pub returns : goal.returns
returns c = record {
  read = numbers-read;
  front = numbers-front;
  between = numbers-between;
  behind = numbers-behind;
  bits = numbers-bits;
}
