use Rattle.std.proofs.Common.{◌∙◌, ap, sym, rules, arith}
use Rattle.myi_data.specs.Readable.{packs}
use Rattle.myi_slots.specs.SlotFile.{SlotFile}
use Rattle.myi_slots.proofs.FileLemmas.{row-lacks-slot, row-by-slot, slot-ends, view-packs, seam}
use Rattle.myi_slots.proofs.static_file.StaticFile.is_row.Goals as goal

pub returns-then-not-branch-clause-told : goal.returns-then-not-branch-clause-told
returns-then-not-branch-clause-told g c m held long =
    row-lacks-slot c.args.self.now c.as_str.result.now c.slots-slots.result m c.args.at c.in_ok-read_slot.field-0 (search rules) (search rules) (c.in_ok-read_slot.ensures.told m held) (search rules) long

pub returns-clause-told : goal.returns-clause-told
returns-clause-told g c m held long =
    row-by-slot c.args.self.now c.as_str.result.now c.slots-slots.result m c.args.at c.in_ok-read_slot.field-0 c.is_some.result c.read_slot.new.slot (search rules) (search rules) (c.in_ok-read_slot.ensures.told m held) (c.in_ok-read_slot.ensures.bytes m held) (search rules) long (c.is_some.ensures ∙ view-packs c.self.inside.defs c.view.result c.as_slice.result.now c.read_slot.new.slot (c.view.ensures.found) (c.as_slice.ensures.value ∙ seam _ _ _ (omega (arith, c.read_slot.ensures.length, c.deref_mut.ensures.len, c.slots-slots.ensures.wide, c.as_slice.ensures.len))) ∙ ap (λ (f : SlotFile). packs f.defs c.read_slot.new.slot) c.self.view_is)

pub returns-then-not-branch-clause-lacks : goal.returns-then-not-branch-clause-lacks
returns-then-not-branch-clause-lacks g c e m held long = sym (returns-then-not-branch-clause-told g c m held long)

pub returns-clause-has : goal.returns-clause-has
returns-clause-has g c e m held long = sym (returns-clause-told g c m held long) ∙ e

pub returns-clause-lacks : goal.returns-clause-lacks
returns-clause-lacks g c e m held long = sym (returns-clause-told g c m held long) ∙ e

pub returns-clause-inside : goal.returns-clause-inside
returns-clause-inside g c e = slot-ends c.args.self.now c.slots-slots.result c.args.at (search rules) (c.in_ok-read_slot.ensures.inside (search rules))
