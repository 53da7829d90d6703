use Rattle.myi_insertion.proofs.OrderLaws.{put_between, put_sorted}
use Rattle.myi_insertion.proofs.laws.pairs_are_put_in.Goals as goal

pub returns-clause-between : goal.returns-clause-between
returns-clause-between c = put_between

pub returns-clause-sorted : goal.returns-clause-sorted
returns-clause-sorted c = put_sorted
