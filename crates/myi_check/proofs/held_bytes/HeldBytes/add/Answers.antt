use Rattle.std.proofs.Common.{sym, subst}
use Rattle.myi_check.specs.HeldBytes.{SameBytes}
use Rattle.myi_check.proofs.HeldLemmas.{same_of, forward_pushed, added}
use Rattle.myi_check.proofs.held_bytes.HeldBytes.add.Goals as goal
use Rattle.myi_check.proofs.held_bytes.HeldBytes.add.Goals.{then-len-self+in_ok-put_in_order, else-len-self}

pub invariant_of-self : goal.invariant_of-self
invariant_of-self c = forward_pushed c.push_joined.result c.self-2.inside.ranges.items c.push_joined.new.ranges.items (c.args.at, c.args.end) c.self-2.invariant c.requires c.push_joined.ensures.ok c.push_joined.ensures.err

pub returns : goal.returns
returns c =
    let held : SameBytes c.args.self.now c.if-len-self.self = elim c.if-len-self.branch [
      | then-len-self+in_ok-put_in_order w ↦ subst (SameBytes c.args.self.now) (sym w.self-is) w.in_ok-put_in_order.ensures.same
      | else-len-self w ↦ same_of _ _ (sym w.self-is)
    ] in
    added c.push_joined.result c.args.self.now c.if-len-self.self c.self-2.inside.ranges.items c.push_joined.new.ranges.items (c.args.at, c.args.end) held c.self-2.view_is c.push_joined.ensures.ok
