use Rattle.myi_insertion.proofs.removal.+without_pair.Given as goal

abbrev pub decreases-without_pair : goal.decreases-without_pair
decreases-without_pair g l = l.levels
