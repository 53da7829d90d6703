use Rattle.myi_insertion.proofs.insertion.+raise.Given as goal

abbrev pub decreases-raise : goal.decreases-raise
decreases-raise g l = l.levels
