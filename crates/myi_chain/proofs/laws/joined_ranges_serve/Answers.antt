use Rattle.myi_chain.proofs.JoinedLemmas.{joined_more, rest_from}
use Rattle.myi_chain.proofs.laws.joined_ranges_serve.Goals as goal

pub returns : goal.returns
returns c = record {
  more = joined_more;
  same = λ extend read len accepts fine place p u v later same. rest_from read len fine place extend accepts p u v later same;
}
