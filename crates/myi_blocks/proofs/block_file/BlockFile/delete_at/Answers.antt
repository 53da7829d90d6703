use Rattle.std.proofs.Common.{◌≡◌, ◌∙◌, true, false, Bool, Err, refl, subst, sym, ap}
use Rattle.std.specs.Prelude.{IfErr}
use Rattle.std.proofs.lemmas.Result.{err_from_is_err_and}
use Rattle.myi_base.specs.Holding.{IfTold, Told}
use Rattle.myi_state.specs.Changes.{delete}
use Rattle.myi_slots.specs.SlotFile.{SlotFile}
use Rattle.myi_blocks.specs.Places.{NotedFile, HasNoted, MayForget, RefusesNoted}
use Rattle.myi_blocks.specs.Standing.{StepsRow, RefusesRow}
use Rattle.myi_blocks.proofs.GoneLemmas.{none-refused, there-refused, deleted-noted}
use Rattle.myi_blocks.proofs.block_file.BlockFile.delete_at.Goals as goal

pub returns-clause-ok : goal.returns-clause-ok
returns-clause-ok g c =
    let same : c.self.inside.blocks ≡ c.args.self.now.file = ap (λ (f : NotedFile). f.file) c.self.view_is ∙ c.look_up.ensures.file in
    let h = g.F.Files.holds c.args.files.now in
    let has : HasNoted c.args.at true c.look_up.new.self.places = subst (λ (b : Bool). HasNoted c.args.at b c.look_up.new.self.places) c.if-not-has.false c.has.ensures in
    let may : MayForget c.args.at c.look_up.new.self.places c.forget.new.self.places = subst (λ (f : NotedFile). MayForget c.args.at f.places c.forget.new.self.places) c.self.view_is c.forget.ensures.places in
    let steps = subst (λ (f : SlotFile). Told h (g.F.Files.holds c.delete.new.files) (StepsRow (delete c.args.at) c.args.at f c.delete.new.self)) same (subst (λ o. Told o (g.F.Files.holds c.delete.new.files) (StepsRow (delete c.args.at) c.args.at c.self.inside.blocks c.delete.new.self)) c.look_up.ensures.holds c.in_ok-delete.ensures.ok) in
    deleted-noted c.args.self.now c.forget.new.self c.delete.new.self c.args.at c.look_up.new.self.places h (g.F.Files.holds c.delete.new.files) c.forget.ensures.file has c.look_up.ensures.kept may steps

pub returns-then-not-has-clause-refused : goal.returns-then-not-has-clause-refused
returns-then-not-has-clause-refused g c m held =
    let has : HasNoted c.args.at false c.look_up.new.self.places = subst (λ (b : Bool). HasNoted c.args.at b c.look_up.new.self.places) c.if-not-has.true c.has.ensures in
    none-refused (delete c.args.at) c.args.self.now c.args.at c.look_up.new.self.places m (λ s. refl) has (c.look_up.ensures.kept m held)

pub returns-in_err-delete-clause-refused : goal.returns-in_err-delete-clause-refused
returns-in_err-delete-clause-refused g c =
    let same : c.self.inside.blocks ≡ c.args.self.now.file = ap (λ (f : NotedFile). f.file) c.self.view_is ∙ c.look_up.ensures.file in
    let h = g.F.Files.holds c.args.files.now in
    let has : HasNoted c.args.at true c.look_up.new.self.places = subst (λ (b : Bool). HasNoted c.args.at b c.look_up.new.self.places) c.if-not-has.false c.has.ensures in
    let e = err_from_is_err_and c.from_residual-in_err-delete.result c.from_residual-in_err-delete.ensures.1 in
    let refuses = subst (λ (f : SlotFile). IfTold h (RefusesRow (delete c.args.at) c.args.at f c.in_err-delete.field-0.0)) same (subst (λ o. IfTold o (RefusesRow (delete c.args.at) c.args.at c.self.inside.blocks c.in_err-delete.field-0.0)) c.look_up.ensures.holds c.in_err-delete.ensures.refused) in
    subst (λ r. IfErr r (λ f. IfTold h (RefusesNoted (delete c.args.at) c.args.self.now f))) (sym (e.1 ∙ ap Err e.2))
    (λ m held. there-refused (delete c.args.at) c.args.self.now c.args.at c.look_up.new.self.places m c.in_err-delete.field-0.0 has (c.look_up.ensures.kept m held) (refuses m held))
