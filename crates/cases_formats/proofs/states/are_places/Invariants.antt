use Rattle.std.proofs.Common.{take}
use Rattle.std.specs.Prelude.{All}
use Rattle.myi_header.specs.StateOf.{IsPlace}
use Rattle.cases_formats.proofs.states.are_places.Given as goal

abbrev pub invariant-loop-place : goal.invariant-loop-place
invariant-loop-place l = All IsPlace (take l.place-index l.places)
