use Rattle.std.proofs.Common.{refl, arith}
use Rattle.myi_pack.proofs.SpellingLemmas.{written-slots}
use Rattle.myi_pack.proofs.spell.spell_slot.Goals as goal

pub overflow_sub-rest : goal.overflow_sub-rest
overflow_sub-rest c =
    let n = written-slots c.args.out.now.items c.spell_slots.new.out.items c.args.defs.now.fields c.as_slice.result.now c.args.view.now c.args.view.now c.requires.empty c.as_slice.ensures refl c.in_ok-spell_slots.ensures c.requires.fits in
    let s = c.requires.sound.long_slot c.requires.slot in
    omega arith
