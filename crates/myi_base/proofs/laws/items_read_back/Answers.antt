use Rattle.myi_base.proofs.ItemLaws.{numbers-spelling, length-spelling, numbers-take}
use Rattle.myi_base.proofs.laws.items_read_back.Goals as goal

pub returns : goal.returns
returns c = record { read = numbers-spelling; length = length-spelling; same = numbers-take }
