use Rattle.myi_keys.proofs.TextCuts.{characters_front, characters_few, characters_longest}
use Rattle.myi_keys.proofs.laws.characters_cut.Goals as goal

pub returns : goal.returns
returns c = record { prefix = characters_front; few = characters_few; longest = characters_longest }
