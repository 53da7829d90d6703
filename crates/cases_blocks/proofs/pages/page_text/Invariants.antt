use Rattle.std.proofs.Common.{length}
use Rattle.cases_blocks.proofs.pages.page_text.Given as goal

abbrev pub decreases-loop-item : goal.decreases-loop-item
decreases-loop-item l = length l.walk
