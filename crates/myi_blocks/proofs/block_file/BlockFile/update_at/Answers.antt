use Rattle.std.proofs.Common.{◌≡◌, ◌∙◌, ◌⊎◌, ℕ, true, false, Bool, List, Option, Err, refl, subst, sym, ap}
use Rattle.std.specs.Prelude.{IfErr, length}
use Rattle.std.proofs.lemmas.Result.{err_from_is_err_and}
use Rattle.myi_base.specs.Holding.{IfTold, Told}
use Rattle.myi_state.specs.Changes.{update}
use Rattle.myi_pack.specs.Spelling.{spelling}
use Rattle.myi_slots.specs.SlotFile.{SlotFile, ByCause, Never, is_reached}
use Rattle.myi_blocks.specs.BlockFile.{LacksOtherRoom, FindsOtherBad}
use Rattle.myi_blocks.specs.Places.{NotedFile, HasNoted, RefusesNoted}
use Rattle.myi_blocks.specs.Standing.{StepsRow, RefusesRow}
use Rattle.myi_blocks.specs.contracts.block_file.BlockFile.{the_view}
use Rattle.myi_blocks.proofs.GoneLemmas.{Stays, none-refused, there-refused, caused, updated-noted}
use Rattle.myi_blocks.proofs.block_file.BlockFile.update_at.Goals as goal

pub returns-then-not-has-clause-refused : goal.returns-then-not-has-clause-refused
returns-then-not-has-clause-refused g c m held =
    let has : HasNoted c.args.at false c.look_up.new.self.places = subst (λ (b : Bool). HasNoted c.args.at b c.look_up.new.self.places) c.if-not-has.true c.has.ensures in
    none-refused (update c.args.at c.args.row.now) c.args.self.now c.args.at c.look_up.new.self.places m (λ s. refl) has (c.look_up.ensures.kept m held)

pub returns-in_err-update-clause-refused : goal.returns-in_err-update-clause-refused
returns-in_err-update-clause-refused g c =
    let same : c.self.inside.blocks ≡ c.args.self.now.file = ap (λ (f : NotedFile). f.file) c.self.view_is ∙ c.look_up.ensures.file in
    let h = g.F.Files.holds c.args.files.now in
    let has : HasNoted c.args.at true c.look_up.new.self.places = subst (λ (b : Bool). HasNoted c.args.at b c.look_up.new.self.places) c.if-not-has.false c.has.ensures in
    let e = err_from_is_err_and c.from_residual-in_err-update.result c.from_residual-in_err-update.ensures.1 in
    let refuses = subst (λ (f : SlotFile). IfTold h (RefusesRow (update c.args.at c.args.row.now) c.args.at f c.in_err-update.field-0.0)) same (subst (λ o. IfTold o (RefusesRow (update c.args.at c.args.row.now) c.args.at c.self.inside.blocks c.in_err-update.field-0.0)) c.look_up.ensures.holds c.in_err-update.ensures.refused) in
    subst (λ r. IfErr r (λ f. IfTold h (RefusesNoted (update c.args.at c.args.row.now) c.args.self.now f))) (sym (e.1 ∙ ap Err e.2))
    (λ m held. there-refused (update c.args.at c.args.row.now) c.args.self.now c.args.at c.look_up.new.self.places m c.in_err-update.field-0.0 has (c.look_up.ensures.kept m held) (refuses m held))

pub returns-clause-ok : goal.returns-clause-ok
returns-clause-ok g c =
    let same : c.self.inside.blocks ≡ c.args.self.now.file = ap (λ (f : NotedFile). f.file) c.self.view_is ∙ c.look_up.ensures.file in
    let places : (the_view c.self.inside).places ≡ c.look_up.new.self.places = ap (λ (f : NotedFile). f.places) c.self.view_is in
    let h = g.F.Files.holds c.args.files.now in
    let has : HasNoted c.args.at true c.look_up.new.self.places = subst (λ (b : Bool). HasNoted c.args.at b c.look_up.new.self.places) c.if-not-has.false c.has.ensures in
    let new : NotedFile = record { file = c.update.new.self; places = (the_view c.self.inside).places } in
    let steps = subst (λ (f : SlotFile). Told h (g.F.Files.holds c.update.new.files) (StepsRow (update c.args.at c.args.row.now) c.args.at f c.update.new.self)) same (subst (λ o. Told o (g.F.Files.holds c.update.new.files) (StepsRow (update c.args.at c.args.row.now) c.args.at c.self.inside.blocks c.update.new.self)) c.look_up.ensures.holds c.in_ok-update.ensures.ok) in
    updated-noted c.args.self.now new c.args.at c.args.row.now h (g.F.Files.holds c.update.new.files) (subst (HasNoted c.args.at true) (sym places) has) (λ m held. subst (λ (o : Option (List ℕ)). Stays c.args.self.now o m) (sym places) (c.look_up.ensures.kept m held)) steps

pub returns-in_err-update-clause-causes : goal.returns-in_err-update-clause-causes
returns-in_err-update-clause-causes g c =
    let same : c.self.inside.blocks ≡ c.args.self.now.file = ap (λ (f : NotedFile). f.file) c.self.view_is ∙ c.look_up.ensures.file in
    let h = g.F.Files.holds c.args.files.now in
    let file = c.args.self.now.file in
    let at = c.args.at in
    let has : HasNoted at true c.look_up.new.self.places = subst (λ (b : Bool). HasNoted at b c.look_up.new.self.places) c.if-not-has.false c.has.ensures in
    let places : (the_view c.self.inside).places ≡ c.look_up.new.self.places = ap (λ (f : NotedFile). f.places) c.self.view_is in
    let noted : HasNoted at true (the_view c.self.inside).places = subst (HasNoted at true) (sym places) has in
    let e = err_from_is_err_and c.from_residual-in_err-update.result c.from_residual-in_err-update.ensures.1 in
    let cause = subst (λ (f : SlotFile). ByCause Never ((is_reached f.counts.length f ≡ false) ⊎ IfTold h (LacksOtherRoom f at (length (spelling f.defs c.args.row.now)))) (λ p. IfTold h (FindsOtherBad f at (length (spelling f.defs c.args.row.now)) p)) c.in_err-update.field-0.0) same
    (subst (λ o. ByCause Never ((is_reached c.self.inside.blocks.counts.length c.self.inside.blocks ≡ false) ⊎ IfTold o (LacksOtherRoom c.self.inside.blocks at (length (spelling c.self.inside.blocks.defs c.args.row.now)))) (λ p. IfTold o (FindsOtherBad c.self.inside.blocks at (length (spelling c.self.inside.blocks.defs c.args.row.now)) p)) c.in_err-update.field-0.0) c.look_up.ensures.holds c.in_err-update.ensures.causes) in
    subst (λ r. IfErr r (ByCause (λ p. (p ≡ at) × HasNoted at false (the_view c.self.inside).places) (HasNoted at true (the_view c.self.inside).places × ((is_reached file.counts.length file ≡ false) ⊎ IfTold h (LacksOtherRoom file at (length (spelling file.defs c.args.row.now))))) (λ p. HasNoted at true (the_view c.self.inside).places × IfTold h (FindsOtherBad file at (length (spelling file.defs c.args.row.now)) p)))) (sym (e.1 ∙ ap Err e.2))
    (caused c.in_err-update.field-0.0 _ _ _ _ noted cause)
