use Rattle.myi_insertion.proofs.removal.both.Goals as goal

pub returns-then-left-pending-clause-first : goal.returns-then-left-pending-clause-first
returns-then-left-pending-clause-first c = λ pair is. (c.in_ok-first.ensures.pairs pair, c.in_ok-first.ensures.children)

pub returns-clause-second : goal.returns-clause-second
returns-clause-second c = λ pair ne. (c.in_ok-second.ensures.pairs pair, c.in_ok-second.ensures.children)
