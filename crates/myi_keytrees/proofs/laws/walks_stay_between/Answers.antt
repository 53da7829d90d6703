use Rattle.myi_keytrees.proofs.OtherFile.{walks_stay, cut_keeps, front_keeps}
use Rattle.myi_keytrees.proofs.laws.walks_stay_between.Goals as goal

pub returns-clause-walks : goal.returns-clause-walks
returns-clause-walks c = walks_stay

pub returns-clause-cut : goal.returns-clause-cut
returns-clause-cut c = cut_keeps

pub returns-clause-front : goal.returns-clause-front
returns-clause-front c = front_keeps c.ranges_are_read.ensures.apart
