use Rattle.std.proofs.Common.{◌≡◌, ◌∙◌, ap, sym, subst, refl, true, false, Err}
use Rattle.std.proofs.lemmas.Result.{err_from_is_err_and}
use Rattle.myi_base.specs.Holding.{Told, Writes}
use Rattle.myi_defs.specs.Addressable.{is_addressable}
use Rattle.myi_state.specs.Changes.{delete}
use Rattle.myi_slots.specs.SlotBytes.{hole_bytes}
use Rattle.myi_slots.specs.contracts.static_file.StaticFile.{the_view}
use Rattle.myi_slots.specs.SlotFile.{SlotFile, Steps}
use Rattle.myi_slots.proofs.FileLemmas.{slots_of, err-is, lacks-as, link-as, fits-as, hole-as, freed-as}
use Rattle.myi_slots.proofs.OthersLemmas.{others-kept}
use Rattle.myi_slots.proofs.ResultLemmas.{told-steps, link-refused}
use Rattle.myi_slots.proofs.RowSteps.{no-row-refused, delete-full, delete-steps, link-fits}
use Rattle.myi_slots.proofs.static_file.StaticFile.delete_at.Goals as goal

pub returns-then-not-branch-clause-refused : goal.returns-then-not-branch-clause-refused
returns-then-not-branch-clause-refused g c m held s k =
    no-row-refused c.args.self.now (delete c.args.at) m c.args.at c.is_row.ensures.sound c.is_row.ensures.format (λ s. refl) (sym c.if-not-branch.true ∙ c.in_ok-is_row.ensures.told m held (c.requires.long m held)) s k

pub returns-then-not-addressable-clause-refused : goal.returns-then-not-addressable-clause-refused
returns-then-not-addressable-clause-refused g c m held s k =
    let room : is_addressable c.args.self.now.defs c.args.self.now.counts.length ≡ false = sym (ap (λ (f : SlotFile). is_addressable f.defs f.counts.length) (c.self.view_is ∙ c.is_row.ensures.object)) ∙ sym c.if-not-addressable.ensures in
    delete-full c.args.self.now c.args.at m c.is_row.ensures.sound c.is_row.ensures.format (sym c.if-not-branch.false ∙ c.in_ok-is_row.ensures.told m held (c.requires.long m held)) room s k

pub returns-in_err-check_link-clause-refused : goal.returns-in_err-check_link-clause-refused
returns-in_err-check_link-clause-refused g c =
    let e = err_from_is_err_and c.from_residual-in_err-check_link.result c.from_residual-in_err-check_link.ensures.1 in
    let slots = c.slots-slots.ensures.value ∙ ap (λ (f : SlotFile). slots_of f) c.is_row.ensures.object in
    let link = ap (λ (f : SlotFile). f.counts.dellink) (c.self.view_is ∙ c.is_row.ensures.object) in
    err-is c.from_residual-in_err-check_link.result c.in_err-check_link.field-0.0 _ (e.1 ∙ ap Err e.2)
    (link-refused c.args.self.now c.args.at _ c.in_err-check_link.field-0.0 c.is_row.ensures.sound c.is_row.ensures.format (lacks-as c.args.self.now c.slots-slots.result _ c.in_err-check_link.field-0.0 slots link c.in_err-check_link.ensures.err))

pub write_hole-requires-clause-fits : goal.write_hole-requires-clause-fits
write_hole-requires-clause-fits g c lives met =
    let slots = c.slots-slots.ensures.value ∙ ap (λ (f : SlotFile). slots_of f) c.is_row.ensures.object in
    let link = ap (λ (f : SlotFile). f.counts.dellink) (c.self.view_is ∙ c.is_row.ensures.object) in
    let room : is_addressable c.args.self.now.defs c.args.self.now.counts.length ≡ true = sym (ap (λ (f : SlotFile). is_addressable f.defs f.counts.length) (c.self.view_is ∙ c.is_row.ensures.object)) ∙ sym c.if-not-addressable.ensures in
    fits-as c.args.self.now c.slots-slots.result _ slots link (link-fits c.args.self.now.defs c.args.self.now.counts.length c.args.self.now.counts.dellink c.is_row.ensures.sound c.is_row.ensures.format room (link-as c.args.self.now c.slots-slots.result _ slots link c.in_ok-check_link.ensures.ok))

pub returns-clause-ok : goal.returns-clause-ok
returns-clause-ok g c =
    let same = c.self.view_is ∙ c.is_row.ensures.object in
    let holds = c.is_row.ensures.holds in
    let slots = c.slots-slots.ensures.value ∙ ap (λ (f : SlotFile). slots_of f) c.is_row.ensures.object in
    let link = ap (λ (f : SlotFile). f.counts.dellink) same in
    let room : is_addressable c.args.self.now.defs c.args.self.now.counts.length ≡ true = sym (ap (λ (f : SlotFile). is_addressable f.defs f.counts.length) same) ∙ sym c.if-not-addressable.ensures in
    let name : c.as_str.result.now ≡ c.args.self.now.name = c.as_str.ensures.value ∙ ap (λ (f : SlotFile). f.name) same in
    let new : SlotFile = record (the_view c.self.inside) { counts = c.freed-self-inside.result } in
    let object = freed-as c.args.self.now (the_view c.self.inside) c.slots-slots.result c.args.at c.freed-self-inside.result same slots c.freed-self-inside.ensures in
    subst (λ h. Told h (g.F.Files.holds c.write_hole.new.files) (Steps (delete c.args.at) c.args.self.now new c.args.at)) holds
    (told-steps (g.F.Files.holds c.is_row.new.files) (g.F.Files.holds c.write_hole.new.files) (Writes c.as_str.result.now c.args.at (hole_bytes c.slots-slots.result.size c.slots-slots.result.width c.self.inside.counts.dellink)) (Steps (delete c.args.at) c.args.self.now new c.args.at) c.in_ok-write_hole.ensures.ok (λ m n held w.
    let told = sym holds ∙ held in
    delete-steps c.args.self.now new c.args.at m n c.is_row.ensures.sound c.is_row.ensures.format
    (sym c.if-not-branch.false ∙ c.in_ok-is_row.ensures.told m told (c.requires.long m told)) room (hole-as c.args.self.now c.as_str.result.now c.slots-slots.result c.self.inside.counts.dellink c.args.at m n name slots link w) object))

pub returns-clause-others : goal.returns-clause-others
returns-clause-others g c = others-kept _ _ _ _ _ c.is_row.ensures.holds (c.as_str.ensures.value ∙ ap (λ (f : SlotFile). f.name) (c.self.view_is ∙ c.is_row.ensures.object)) c.write_hole.ensures.others

pub returns-clause-room : goal.returns-clause-room
returns-clause-room g c =
    let room : is_addressable c.args.self.now.defs c.args.self.now.counts.length ≡ true = sym (ap (λ (f : SlotFile). is_addressable f.defs f.counts.length) (c.self.view_is ∙ c.is_row.ensures.object)) ∙ sym c.if-not-addressable.ensures in
    room

pub returns-clause-link : goal.returns-clause-link
returns-clause-link g c =
    link-as c.args.self.now c.slots-slots.result _ (c.slots-slots.ensures.value ∙ ap (λ (f : SlotFile). slots_of f) c.is_row.ensures.object) (ap (λ (f : SlotFile). f.counts.dellink) (c.self.view_is ∙ c.is_row.ensures.object)) c.in_ok-check_link.ensures.ok

pub returns-clause-numbers : goal.returns-clause-numbers
returns-clause-numbers g c =
    freed-as c.args.self.now (the_view c.self.inside) c.slots-slots.result c.args.at c.freed-self-inside.result (c.self.view_is ∙ c.is_row.ensures.object) (c.slots-slots.ensures.value ∙ ap (λ (f : SlotFile). slots_of f) c.is_row.ensures.object) c.freed-self-inside.ensures
