use Rattle.std.proofs.Common.{take}
use Rattle.std.specs.Prelude.{All}
use Rattle.myi_keypage.specs.Page.{IsPlace}
use Rattle.cases_blocks.proofs.pages.are_places.Given as goal

abbrev pub invariant-loop-child : goal.invariant-loop-child
invariant-loop-child l = All IsPlace (take l.child-index l.children)
