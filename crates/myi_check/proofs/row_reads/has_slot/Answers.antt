use Rattle.std.proofs.Common.{◌∙◌, ℕ, List, [], ap, sym, subst, unwrap_or, arith}
use Rattle.myi_pack.specs.Unpacking.{row_of}
use Rattle.myi_check.specs.Asked.{IsSlot}
use Rattle.myi_check.proofs.ReadLaws.{row_read, never_dynamic}
use Rattle.myi_check.proofs.row_reads.has_slot.Goals as goal

pub returns-clause-row : goal.returns-clause-row
returns-clause-row g c = λ is m held x file scanned.
    let d = c.args.key.now.defs.now in
    let has = c.in_ok-is.ensures is in
    let slot = subst (λ (t : List ℕ). IsSlot d.slot_length c.args.pair.now.row t c.read_slot.new.slot.items) (ap (λ o. unwrap_or o []) file) (c.in_ok-read_slot.ensures.read c.if-not-branch.false m held) in
    row_read d c.args.key.now.number c.args.pair.now x c.read_slot.new.slot.items has.0 c.requires.format (omega (arith, c.requires.sound.slot_pointer c.requires.format)) slot (ap (λ (b : List ℕ). row_of d b) (sym c.deref.ensures.value) ∙ has.1) has.2

pub has_key-requires-clause-few : goal.has_key-requires-clause-few
has_key-requires-clause-few g c dynamic = absurd (never_dynamic c.args.key.now.defs.now c.requires.format dynamic)
