use Rattle.std.proofs.Common.{sym}
use Rattle.std.proofs.lemmas.List.Elements.{All-more, All-same, recursion_from_All}
use Rattle.std.proofs.lemmas.List.{take_all}
use Rattle.myi_keypage.specs.Page.{IsPlace}
use Rattle.cases_blocks.proofs.pages.are_places.Goals as goal

pub loop-child-preserved : goal.loop-child-preserved
loop-child-preserved c = All-more IsPlace c.args.children.now c.loop-child.child-index _ c.loop-child-test.true c.loop-child.invariant (c.is_place.ensures (cc))

pub returns : goal.returns
returns c =
    λ e. recursion_from_All IsPlace c.args.children.now (All-same IsPlace c.args.children.now _ (sym (take_all c.loop-child.child-index c.args.children.now c.loop-child-test.false)) c.loop-child.invariant)
