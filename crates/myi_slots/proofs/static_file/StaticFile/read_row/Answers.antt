use Rattle.std.proofs.Common.{◌∙◌, ap, rules, arith}
use Rattle.myi_pack.specs.Unpacking.{row_of}
use Rattle.myi_slots.specs.SlotFile.{SlotFile}
use Rattle.myi_slots.proofs.FileLemmas.{row-lacks, row-by-bytes, seam}
use Rattle.myi_slots.proofs.static_file.StaticFile.read_row.Goals as goal

pub returns-then-not-branch-clause-told : goal.returns-then-not-branch-clause-told
returns-then-not-branch-clause-told g c m held long =
    row-lacks c.args.self.now c.as_str.result.now c.slots-slots.result m c.args.at c.in_ok-read_slot.field-0 (search rules) (search rules) (c.in_ok-read_slot.ensures.told m held) (search rules) long

pub returns-clause-told : goal.returns-clause-told
returns-clause-told g c m held long =
    row-by-bytes c.args.self.now c.as_str.result.now c.slots-slots.result m c.args.at c.in_ok-read_slot.field-0 c.read_slot.new.slot c.in_ok-row.row (search rules) (search rules) (c.in_ok-read_slot.ensures.told m held) (c.in_ok-read_slot.ensures.bytes m held) (search rules) long
    (c.in_ok-row.ensures.row ∙ ap (λ y. row_of c.self.inside.defs y) (c.as_slice.ensures.value ∙ seam _ _ _ (omega (arith, c.read_slot.ensures.length, c.deref_mut.ensures.len, c.slots-slots.ensures.wide, c.as_slice.ensures.len))) ∙ ap (λ (f : SlotFile). row_of f.defs c.read_slot.new.slot) c.self.view_is)
