use Rattle.myi_tail.proofs.RunLaws.{opening_followed}
use Rattle.myi_tail.proofs.laws.readers_follow_the_tail.Goals as goal

pub returns : goal.returns
returns c = opening_followed
