use Rattle.myi_insertion.proofs.CachedLaws.{other_stands, other_clear, same_reading}
use Rattle.myi_insertion.proofs.laws.other_trees_stay.Goals as goal

pub returns-clause-stands : goal.returns-clause-stands
returns-clause-stands c = λ place other old new m n olds news before after given height at w pos f e off. other_stands place other old m olds before new n news after given height at w pos f e off

pub returns-clause-clear : goal.returns-clause-clear
returns-clause-clear c = λ place other old new m n olds news pages before after given pos some f none off. other_clear place other old m olds before new n news after given pages pos some f none off

pub returns-clause-root : goal.returns-clause-root
returns-clause-root c = same_reading
