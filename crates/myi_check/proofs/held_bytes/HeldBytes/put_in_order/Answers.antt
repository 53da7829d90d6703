use Rattle.myi_check.proofs.HeldLemmas.{put_same, put_order, forward_permuted, forward_joined}
use Rattle.myi_check.proofs.held_bytes.HeldBytes.put_in_order.Goals as goal

pub invariant_of-self : goal.invariant_of-self
invariant_of-self c = forward_permuted c.self.inside.ranges.items c.sort_by_place.new.ranges.items c.sort_by_place.ensures.same c.self.invariant

pub invariant_of-self-2 : goal.invariant_of-self-2
invariant_of-self-2 c = forward_joined 0 c.in_ok-joined.joined.items (put_order c.self.inside.ranges.items c.sort_by_place.new.ranges.items c.deref.result.now c.in_ok-joined.joined.items c.self.invariant c.sort_by_place.ensures.same c.sort_by_place.ensures.order c.deref.ensures.value c.in_ok-joined.ensures)

pub returns-clause-same : goal.returns-clause-same
returns-clause-same c = put_same c.args.self.now c.self.inside.ranges.items c.sort_by_place.new.ranges.items c.deref.result.now c.in_ok-joined.joined.items c.self.view_is c.sort_by_place.ensures.same c.deref.ensures.value c.in_ok-joined.ensures

pub returns-clause-order : goal.returns-clause-order
returns-clause-order c = put_order c.self.inside.ranges.items c.sort_by_place.new.ranges.items c.deref.result.now c.in_ok-joined.joined.items c.self.invariant c.sort_by_place.ensures.same c.sort_by_place.ensures.order c.deref.ensures.value c.in_ok-joined.ensures
