use Rattle.std.proofs.Common.{◌≡◌, ◌^◌, ◌<◌, ◌⊎◌, List, ℕ, length, false, subst, sym, rules}
use Rattle.std.specs.Prelude.{IfErr}
use Rattle.std.proofs.lemmas.Result.{err_from_is_err_and}
use Rattle.myi_base.specs.Holding.{IfTold, Told}
use Rattle.myi_dellist.specs.Replacing.{PutsAgain, RewritesRow}
use Rattle.myi_defs.specs.declared.types.RowFormat.TheVariants.{Dynamic}
use Rattle.myi_defs.specs.Sound.{IsSound}
use Rattle.myi_pack.specs.Spelling.{spelling}
use Rattle.myi_pack.proofs.CallerLemmas.{row-told}
use Rattle.myi_data.proofs.CallerLemmas.{spelling_some}
use Rattle.myi_state.specs.Changes.{update}
use Rattle.myi_slots.specs.SlotFile.{SlotFile, ByCause, Never, is_reached}
use Rattle.myi_blocks.specs.BlockFile.{list_in, LacksOtherRoom, FindsOtherBad}
use Rattle.myi_blocks.specs.Standing.{RefusesRow}
use Rattle.myi_blocks.proofs.UpdateLemmas.{update-ok, update-refused}
use Rattle.myi_blocks.proofs.row_blocks.RowBlocks.update.Goals as goal

pub replace-requires-clause-some : goal.replace-requires-clause-some
replace-requires-clause-some g c κs within =
    let sound : IsSound c.args.self.now.defs = subst (λ (f : SlotFile). IsSound f.defs) c.self.view_is c.self.invariant.0 in
    let packed : c.as_slice.result.now ≡ spelling c.args.self.now.defs c.args.row.now = search rules in
    subst (λ (y : List ℕ). 0 < length y) (sym packed) (spelling_some c.args.self.now.defs c.args.row.now sound c.requires.fits)

pub replace-requires-clause-few : goal.replace-requires-clause-few
replace-requires-clause-few g c κs within =
    let dynamic : c.args.self.now.defs.format ≡ Dynamic = subst (λ (f : SlotFile). f.defs.format ≡ Dynamic) c.self.view_is c.self.invariant.1 in
    let packed : c.as_slice.result.now ≡ spelling c.args.self.now.defs c.args.row.now = search rules in
    subst (λ (y : List ℕ). length y < 2 ^ 32) (sym packed) (row-told c.args.self.now.defs c.args.row.now dynamic c.requires.fits)

pub returns-in_err-replace-clause-refused : goal.returns-in_err-replace-clause-refused
returns-in_err-replace-clause-refused g c =
    let sound : IsSound c.args.self.now.defs = subst (λ (f : SlotFile). IsSound f.defs) c.self.view_is c.self.invariant.0 in
    let dynamic : c.args.self.now.defs.format ≡ Dynamic = subst (λ (f : SlotFile). f.defs.format ≡ Dynamic) c.self.view_is c.self.invariant.1 in
    let packed : c.as_slice.result.now ≡ spelling c.args.self.now.defs c.args.row.now = search rules in
    let e = err_from_is_err_and c.from_residual-in_err-replace.result c.from_residual-in_err-replace.ensures.1 in
    subst (λ r. IfErr r (λ f. IfTold (g.F.Files.holds c.args.files.now) (RefusesRow (update c.args.at c.args.row.now) c.args.at c.args.self.now f))) (sym e.1)
    (update-refused c.args.self.now c.args.at c.args.row.now c.as_slice.result.now (g.F.Files.holds c.args.files.now) e.0 sound dynamic c.requires.fits packed
    (search rules))

pub returns-in_err-replace-clause-causes : goal.returns-in_err-replace-clause-causes
returns-in_err-replace-clause-causes g c =
    let packed : c.as_slice.result.now ≡ spelling c.args.self.now.defs c.args.row.now = search rules in
    let e = err_from_is_err_and c.from_residual-in_err-replace.result c.from_residual-in_err-replace.ensures.1 in
    let h = g.F.Files.holds c.args.files.now in
    subst (λ r. IfErr r (ByCause Never ((is_reached c.args.self.now.counts.length c.args.self.now ≡ false) ⊎ IfTold h (LacksOtherRoom c.args.self.now c.args.at (length (spelling c.args.self.now.defs c.args.row.now)))) (λ p. IfTold h (FindsOtherBad c.args.self.now c.args.at (length (spelling c.args.self.now.defs c.args.row.now)) p)))) (sym e.1)
    (subst (λ (y : List ℕ). (ByCause Never ((is_reached c.args.self.now.counts.length c.args.self.now ≡ false) ⊎ IfTold h (LacksOtherRoom c.args.self.now c.args.at (length y))) (λ p. IfTold h (FindsOtherBad c.args.self.now c.args.at (length y) p))) e.0) packed (search rules))

pub returns-clause-ok : goal.returns-clause-ok
returns-clause-ok g c =
    let sound : IsSound c.args.self.now.defs = subst (λ (f : SlotFile). IsSound f.defs) c.self.view_is c.self.invariant.0 in
    let dynamic : c.args.self.now.defs.format ≡ Dynamic = subst (λ (f : SlotFile). f.defs.format ≡ Dynamic) c.self.view_is c.self.invariant.1 in
    let packed : c.as_slice.result.now ≡ spelling c.args.self.now.defs c.args.row.now = search rules in
    update-ok c.args.self.now c.replace.new.self c.args.at c.args.row.now c.as_slice.result.now c.in_ok-replace.field-0 (g.F.Files.holds c.args.files.now) (g.F.Files.holds c.replace.new.files) sound dynamic c.requires.fits packed (search rules) (search rules) (search rules) (search rules)

pub returns-clause-puts : goal.returns-clause-puts
returns-clause-puts g c =
    let packed : c.as_slice.result.now ≡ spelling c.args.self.now.defs c.args.row.now = search rules in
    subst (λ (y : List ℕ). Told (g.F.Files.holds c.args.files.now) (g.F.Files.holds c.replace.new.files) (PutsAgain (list_in c.args.self.now) (list_in c.replace.new.self) c.args.at y)) packed c.in_ok-replace.ensures.ok

pub returns-clause-written : goal.returns-clause-written
returns-clause-written g c =
    let packed : c.as_slice.result.now ≡ spelling c.args.self.now.defs c.args.row.now = search rules in
    subst (λ (y : List ℕ). Told (g.F.Files.holds c.args.files.now) (g.F.Files.holds c.replace.new.files) (RewritesRow (list_in c.args.self.now) (list_in c.replace.new.self) c.args.at y)) packed c.in_ok-replace.ensures.written
