use Rattle.std.proofs.Common.{◌≡◌, ◌-◌, ◌^◌, ◌≤◌, false, ap, sym, arith}
use Rattle.myi_dellist.specs.Releasing.{most_size}
use Rattle.myi_dellist.specs.Placing.{room, append_from, end_behind}
use Rattle.myi_inserter.proofs.SizeLemmas.{room_most, one_filled, last_block}
use Rattle.myi_inserter.proofs.sizes.blocks_size.Goals as goal

pub overflow_sub-left : goal.overflow_sub-left
overflow_sub-left c =
    let inv = c.loop-left.invariant in
    let cap = room_most c.args.len inv.0 in
    omega (arith, inv.1, cap.1, c.loop-left-test.true)

pub overflow_add-size : goal.overflow_add-size
overflow_add-size c =
    let inv = c.loop-left.invariant in
    omega (arith, inv.3, c.loop-left-test.true)

pub loop-left-smaller : goal.loop-left-smaller
loop-left-smaller c =
    let inv = c.loop-left.invariant in
    let cap = room_most c.args.len inv.0 in
    omega (arith, inv.1, cap.0, cap.1, c.loop-left-test.true)

pub loop-left-preserved : goal.loop-left-preserved
loop-left-preserved c =
    let inv = c.loop-left.invariant in
    let cap = room_most c.args.len inv.0 in
    let far : 2 ^ 24 ≤ c.loop-left.left = omega (arith, c.loop-left-test.true) in
    let one = one_filled c.args.len inv.0 c.loop-left.left far in
    let same : c.loop-left.left - room c.args.len inv.0 most_size ≡ c.loop-left.left - c.loop-left.room = ap (λ n. c.loop-left.left - n) (sym inv.1) in
    let moved = ap (λ n. end_behind 0 (append_from n c.args.len false n 0)) same in (
      false,
      c.middle_room-room.ensures,
      omega (arith, inv.1, cap.1, far),
      omega (arith, inv.1, inv.3, cap.0, cap.1, far),
      omega (arith, inv.4),
    )

pub returns : goal.returns
returns c =
    let inv = c.loop-left.invariant in
    let last = last_block c.args.len inv.0 c.loop-left.left inv.2 (omega (arith, c.loop-left-test.false)) in
    omega (arith, inv.4, c.least_size.ensures)
