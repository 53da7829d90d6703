use Rattle.myi_btree.proofs.LayingLaws.{at_start}
use Rattle.myi_btree.proofs.laying.Laying.new.Goals as goal

pub returns-clause-comes : goal.returns-clause-comes
returns-clause-comes c =
    at_start c.args.setup.place c.args.first c.args.pairs.now c.new.result c.new-2.result c.new.ensures.places c.new-2.ensures.separators c.new-2.ensures.places c.requires.at c.requires.sized
