use Rattle.std.proofs.Common.{arith}
use Rattle.myi_pack.proofs.SpellingLemmas.{written-slots}
use Rattle.myi_pack.proofs.packing.pack_slot.Goals as goal

pub overflow_sub-rest : goal.overflow_sub-rest
overflow_sub-rest c =
    let n = written-slots c.in_ok-out.out.items c.push_slots.new.out.items c.args.defs.now.fields c.as_slice.result.now c.args.row.now c.as_slice-2.result.now c.in_ok-out.ensures.items c.as_slice.ensures c.as_slice-2.ensures c.in_ok-push_slots.ensures c.requires.fits in
    let s = c.requires.sound.long_slot c.requires.slot in
    omega arith
