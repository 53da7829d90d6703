use Rattle.std.proofs.Common.{◌∙◌, ap}
use Rattle.myi_slots.specs.SlotFile.{SlotFile}
use Rattle.myi_blocks.proofs.NoteLemmas.{starts-known, all-read}
use Rattle.myi_blocks.proofs.row_blocks.RowBlocks.places.Goals as goal

pub note_rows-requires-clause-current : goal.note_rows-requires-clause-current
note_rows-requires-clause-current g c κs within = λ m held.
    starts-known c.args.self.now c.as_str.result.now c.self.inside.defs c.end.result c.in_ok-scan.scan m (c.as_str.ensures.value ∙ c.self.invariant.3 ∙ ap (λ (f : SlotFile). f.name) c.self.view_is) (c.end.ensures ∙ ap (λ (f : SlotFile). f.counts.length) c.self.view_is) (c.requires.long m held) c.in_ok-scan.ensures

pub returns-in-Ok-clause-told : goal.returns-in-Ok-clause-told
returns-in-Ok-clause-told g c m held =
    all-read c.args.self.now c.as_str.result.now c.self.inside.defs c.end.result c.in_ok-scan.scan c.note_rows.new.places.keys m (c.as_str.ensures.value ∙ c.self.invariant.3 ∙ ap (λ (f : SlotFile). f.name) c.self.view_is) (ap (λ (f : SlotFile). f.defs) c.self.view_is) (c.end.ensures ∙ ap (λ (f : SlotFile). f.counts.length) c.self.view_is) (c.requires.long m held) c.in_ok-scan.ensures (c.in-Ok.ensures.notes m held)
