use Rattle.std.proofs.Common.{◌+◌, ◌^◌, ◌<◌, length, refl, arith}
use Rattle.cases_trees.proofs.ShiftCase.{movable, root_moves}
use Rattle.cases_trees.proofs.trees.shift.Goals as goal

pub shift-requires-clause-pages : goal.shift-requires-clause-pages
shift-requires-clause-pages c =
    let laid = c.in_ok-laid.laid in
    let room : c.in_ok-first.first + length laid.pages.items < 2 ^ 64 = omega (arith, (c.if-not-has_room.ensures refl).1, c.len.ensures, laid.pages.ok.0) in
    movable c.in_ok-place.place laid.place c.in_ok-first.first c.in_ok-pairs.pairs laid.pages.items c.in_ok-place.ensures (c.if-not-has_room.ensures refl).0 (c.if-not-are_sized.ensures refl) c.in_ok-pairs.ensures c.in_ok-laid.ensures.pages room c.in_ok-laid.ensures.place

pub shift-requires-clause-root : goal.shift-requires-clause-root
shift-requires-clause-root c =
    let laid = c.in_ok-laid.laid in
    let room : c.in_ok-first.first + length laid.pages.items < 2 ^ 64 = omega (arith, (c.if-not-has_room.ensures refl).1, c.len.ensures, laid.pages.ok.0) in
    root_moves c.in_ok-place.place laid.place c.in_ok-first.first c.in_ok-pairs.pairs laid.pages.items c.in_ok-laid.ensures.pages room c.in_ok-laid.ensures.place
