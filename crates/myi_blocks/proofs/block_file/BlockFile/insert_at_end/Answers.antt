use Rattle.std.proofs.Common.{subst}
use Rattle.myi_defs.specs.Sound.{IsSound}
use Rattle.myi_state.specs.Changes.{insert_at_end}
use Rattle.myi_slots.specs.SlotFile.{Steps}
use Rattle.myi_blocks.specs.Places.{NotedFile, MayNote}
use Rattle.myi_blocks.proofs.NoteLemmas.{append-notes}
use Rattle.myi_blocks.proofs.block_file.BlockFile.insert_at_end.Goals as goal

pub returns-clause-notes : goal.returns-clause-notes
returns-clause-notes g c m held =
    let sound : IsSound c.args.self.now.file.defs = subst (λ (f : NotedFile). IsSound f.file.defs) c.self.view_is c.self.invariant.0 in
    let t = c.in_ok-at.ensures.ok.told m held in
    let steps : Steps (insert_at_end c.args.row.now) c.args.self.now.file c.insert_at_end.new.self c.in_ok-at.at m t.0 = subst (λ (f : NotedFile). Steps (insert_at_end c.args.row.now) f.file c.insert_at_end.new.self c.in_ok-at.at m t.0) c.self.view_is t.2 in
    append-notes c.args.self.now c.note.new.self c.args.row.now c.in_ok-at.at m sound (λ s k. (steps s k).0) (subst (λ (f : NotedFile). MayNote c.in_ok-at.at f.places c.note.new.self.places) c.self.view_is c.note.ensures.places)
