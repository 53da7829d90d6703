use Rattle.std.proofs.Common.{sym}
use Rattle.std.proofs.lemmas.List.Elements.{All-more, All-same}
use Rattle.std.proofs.lemmas.List.{take_all}
use Rattle.myi_header.specs.StateOf.{IsPlace}
use Rattle.cases_formats.proofs.states.are_places.Goals as goal

pub loop-place-preserved : goal.loop-place-preserved
loop-place-preserved c = All-more IsPlace c.args.places.now c.loop-place.place-index _ c.loop-place-test.true c.loop-place.invariant (c.is_place.ensures (cc))

pub returns : goal.returns
returns c =
    λ e. All-same IsPlace c.args.places.now _ (sym (take_all c.loop-place.place-index c.args.places.now c.loop-place-test.false)) c.loop-place.invariant
