use Rattle.myi_insertion.proofs.insertion.+insert_at.Given as goal

abbrev pub decreases-insert_at : goal.decreases-insert_at
decreases-insert_at g l = l.levels
