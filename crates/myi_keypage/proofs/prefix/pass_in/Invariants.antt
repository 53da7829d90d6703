use Rattle.std.proofs.Common.{◌≡◌, ◌+◌, ◌≤◌, length, take, []}
use Rattle.myi_keypage.proofs.prefix.pass_in.Given as goal
use Rattle.myi_keypage.specs.PageItems.{passes, items_of}
use Rattle.myi_base.specs.Numbers.{AreBytes}

abbrev pub invariant-loop-rest : goal.invariant-loop-rest
invariant-loop-rest l = record { so_far : passes (take l.len l.key) (items_of l.node l.rec_ref l.rest) ≡ passes [] (items_of l.node l.rec_ref l.bytes); room : l.len + length l.rest ≤ length l.bytes; fits : AreBytes l.rest; key : length l.bytes ≤ length l.key }

abbrev pub decreases-loop-rest : goal.decreases-loop-rest
decreases-loop-rest l = length l.rest
