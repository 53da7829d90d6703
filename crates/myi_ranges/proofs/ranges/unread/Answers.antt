use Rattle.std.proofs.Common.{ap, sym, ◌∙◌}
use Rattle.myi_search.specs.Cursor.{CursorAt}
use Rattle.myi_ranges.specs.declared.ranges.Reached.{Reached}
use Rattle.myi_ranges.specs.Ranges.{is_left, comes_behind}
use Rattle.myi_ranges.proofs.LeftLemmas.{stands_new}
use Rattle.myi_ranges.proofs.ranges.unread.Goals as goal

pub returns-in_ok-again-in-Behind-clause-forgotten : goal.returns-in_ok-again-in-Behind-clause-forgotten
returns-in_ok-again-in-Behind-clause-forgotten c = λ pairs. stands_new pairs c.in-Behind.cursor.last c.in_ok-again-in-Behind.again c.in_ok-again-in-Behind.ensures

pub returns-in_ok-again-in-Behind-clause-left : goal.returns-in_ok-again-in-Behind-clause-left
returns-in_ok-again-in-Behind-clause-left c = λ p. ap (λ (t : CursorAt). comes_behind t.last p) c.in_ok-again-in-Behind.ensures ∙ ap (λ (r : Reached). is_left r p) (sym c.in-Behind.is)
