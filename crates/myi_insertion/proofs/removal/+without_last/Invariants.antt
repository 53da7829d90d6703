use Rattle.myi_insertion.proofs.removal.+without_last.Given as goal

abbrev pub decreases-without_last : goal.decreases-without_last
decreases-without_last g l = l.levels
