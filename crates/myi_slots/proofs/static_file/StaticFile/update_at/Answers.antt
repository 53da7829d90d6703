use Rattle.std.proofs.Common.{◌≡◌, ◌∙◌, ℕ, List, ap, sym, subst, refl, true, false}
use Rattle.myi_base.specs.Holding.{Told, Writes}
use Rattle.myi_defs.specs.Addressable.{is_addressable}
use Rattle.myi_pack.specs.Spelling.{spelling}
use Rattle.myi_state.specs.Changes.{update}
use Rattle.myi_slots.specs.SlotFile.{SlotFile, Steps}
use Rattle.myi_slots.proofs.OthersLemmas.{others-written}
use Rattle.myi_slots.proofs.ResultLemmas.{told-steps}
use Rattle.myi_slots.proofs.RowSteps.{no-row-refused, update-full, update-steps}
use Rattle.myi_slots.proofs.static_file.StaticFile.update_at.Goals as goal

pub returns-then-not-branch-clause-refused : goal.returns-then-not-branch-clause-refused
returns-then-not-branch-clause-refused g c m held s k =
    no-row-refused c.args.self.now (update c.args.at c.args.row.now) m c.args.at c.is_row.ensures.sound c.is_row.ensures.format (λ s. refl) (sym c.if-not-branch.true ∙ c.in_ok-is_row.ensures.told m held (c.requires.long m held)) s k

pub returns-then-not-addressable-clause-refused : goal.returns-then-not-addressable-clause-refused
returns-then-not-addressable-clause-refused g c m held s k =
    let room : is_addressable c.args.self.now.defs c.args.self.now.counts.length ≡ false = sym (ap (λ (f : SlotFile). is_addressable f.defs f.counts.length) (c.self-2.view_is ∙ c.is_row.ensures.object)) ∙ sym c.if-not-addressable.ensures in
    update-full c.args.self.now c.args.row.now c.args.at m c.is_row.ensures.sound c.is_row.ensures.format (sym c.if-not-branch.false ∙ c.in_ok-is_row.ensures.told m held (c.requires.long m held)) room s k

pub returns-clause-ok : goal.returns-clause-ok
returns-clause-ok g c =
    let same : c.is_row.new.self ≡ c.args.self.now = c.is_row.ensures.object in
    let holds = c.is_row.ensures.holds in
    let room : is_addressable c.args.self.now.defs c.args.self.now.counts.length ≡ true = sym (ap (λ (f : SlotFile). is_addressable f.defs f.counts.length) (c.self-2.view_is ∙ same)) ∙ sym c.if-not-addressable.ensures in
    let name : c.as_str.result.now ≡ c.args.self.now.name = c.as_str.ensures.value ∙ ap (λ (f : SlotFile). f.name) (c.self-2.view_is ∙ same) in
    let packed = c.as_slice.ensures.value ∙ c.in_ok-packed.ensures ∙ ap (λ (f : SlotFile). spelling f.defs c.args.row.now) c.self.view_is in
    subst (λ h. Told h (g.F.Files.holds c.write_at.new.self) (Steps (update c.args.at c.args.row.now) c.args.self.now c.is_row.new.self c.args.at)) holds
    (told-steps _ _ _ (Steps (update c.args.at c.args.row.now) c.args.self.now c.is_row.new.self c.args.at) c.in_ok-write_at.ensures.ok (λ m n held w.
    let told = sym holds ∙ held in
    update-steps c.args.self.now c.is_row.new.self c.args.row.now c.args.at c.as_slice.result.now m n c.is_row.ensures.sound c.is_row.ensures.format c.requires.fits packed
    (sym c.if-not-branch.false ∙ c.in_ok-is_row.ensures.told m told (c.requires.long m told)) room (subst (λ (q : List ℕ). Writes q c.args.at c.as_slice.result.now m n) name w) same))

pub returns-clause-others : goal.returns-clause-others
returns-clause-others g c = others-written _ _ _ _ _ _ _ c.is_row.ensures.holds (c.as_str.ensures.value ∙ ap (λ (f : SlotFile). f.name) (c.self-2.view_is ∙ c.is_row.ensures.object)) c.in_ok-write_at.ensures.ok

pub returns-clause-room : goal.returns-clause-room
returns-clause-room g c =
    let room : is_addressable c.args.self.now.defs c.args.self.now.counts.length ≡ true = sym (ap (λ (f : SlotFile). is_addressable f.defs f.counts.length) (c.self-2.view_is ∙ c.is_row.ensures.object)) ∙ sym c.if-not-addressable.ensures in
    room

pub returns-clause-inside : goal.returns-clause-inside
returns-clause-inside g c = c.in_ok-is_row.ensures.inside c.if-not-branch.false
