use Rattle.std.proofs.Common.{refl}
use Rattle.myi_insertion.proofs.SettleLaws.{part_first, part_next, part_last}
use Rattle.myi_insertion.proofs.laws.page_by_page.Goals as goal

pub returns-clause-start : goal.returns-clause-start
returns-clause-start c = λ block read height xs pages room at pairs children stand. (part_first block read height xs pages room at pairs children stand).0

pub returns-clause-step : goal.returns-clause-step
returns-clause-step c = λ block old now new height xs olds before after next at other places separators front s rest children clear part there others taken.
    (part_next block old now new height xs olds before after next at other places separators front s rest children _ _ clear part refl refl there others taken).0

pub returns-clause-end : goal.returns-clause-end
returns-clause-end c = λ block old now new height xs olds before after at places separators pairs children clear part there others.
    (part_last block old now new height xs olds before after at places separators pairs children _ _ clear part there others refl refl).0
