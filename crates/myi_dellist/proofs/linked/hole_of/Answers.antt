use Rattle.std.proofs.Common.{sym}
use Rattle.myi_dellist.proofs.HoleLemmas.{head_none, head_other, head_hole, hole_place}
use Rattle.myi_dellist.proofs.linked.hole_of.Goals as goal

pub returns-in_default-clause-told : goal.returns-in_default-clause-told
returns-in_default-clause-told c d long part = head_none d c.args.at (c.in_default.ensures.block d long part)

pub returns-then-not-is_deleted-clause-told : goal.returns-then-not-is_deleted-clause-told
returns-then-not-is_deleted-clause-told c d long part = head_other d c.args.at c.in-Some.header (sym c.if-not-is_deleted.ensures) (c.in-Some.ensures.block d long part)

pub returns-clause-told : goal.returns-clause-told
returns-clause-told c d long part = head_hole d c.args.at c.in-Some.header (sym c.if-not-is_deleted.ensures) (c.in-Some.ensures.block d long part)

pub returns-clause-hole : goal.returns-clause-hole
returns-clause-hole c = hole_place c.args.bytes.now c.args.at c.args.end c.in-Some.header c.slices_are_bytes.ensures c.in-Some.ensures.header c.in-Some.ensures.place (sym c.if-not-is_deleted.ensures)
