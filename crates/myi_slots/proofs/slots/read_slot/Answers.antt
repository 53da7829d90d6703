use Rattle.std.proofs.Common.{sym}
use Rattle.myi_slots.proofs.FoundLemmas.{slot-is}
use Rattle.myi_slots.proofs.slots.read_slot.Goals as goal

pub returns-clause-inside : goal.returns-clause-inside
returns-clause-inside g c whole = (slot-is c.args.slots.size c.args.slots.end c.args.at (sym c.if-not-is_slot.ensures)).1
