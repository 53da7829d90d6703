use Rattle.std.proofs.Common.{◌≡◌, ◌^◌, ◌<◌, ◌⊎◌, List, ℕ, length, false, subst, sym, rules}
use Rattle.std.specs.Prelude.{IfErr}
use Rattle.std.proofs.lemmas.Result.{err_from_is_err_and}
use Rattle.myi_base.specs.Holding.{IfTold, Told}
use Rattle.myi_defs.specs.declared.types.RowFormat.TheVariants.{Dynamic}
use Rattle.myi_defs.specs.Sound.{IsSound}
use Rattle.myi_pack.specs.Spelling.{spelling}
use Rattle.myi_pack.proofs.CallerLemmas.{row-told}
use Rattle.myi_data.proofs.CallerLemmas.{spelling_some}
use Rattle.myi_state.specs.Changes.{insert}
use Rattle.myi_slots.specs.SlotFile.{SlotFile, Refuses, ByCause, Never, is_reached}
use Rattle.myi_dellist.specs.Putting.{Puts, ends_of}
use Rattle.myi_blocks.specs.BlockFile.{list_in, LacksRoom, FindsBad}
use Rattle.myi_blocks.proofs.ResultLemmas.{insert-ok, insert-refused}
use Rattle.myi_blocks.proofs.AddedLemmas.{new-adds}
use Rattle.myi_blocks.proofs.row_blocks.RowBlocks.insert.Goals as goal

pub put-requires-clause-some : goal.put-requires-clause-some
put-requires-clause-some g c κs within =
    let sound : IsSound c.args.self.now.defs = subst (λ (f : SlotFile). IsSound f.defs) c.self.view_is c.self.invariant.0 in
    let packed : c.as_slice.result.now ≡ spelling c.args.self.now.defs c.args.row.now = search rules in
    subst (λ (y : List ℕ). 0 < length y) (sym packed) (spelling_some c.args.self.now.defs c.args.row.now sound c.requires.fits)

pub put-requires-clause-few : goal.put-requires-clause-few
put-requires-clause-few g c κs within =
    let dynamic : c.args.self.now.defs.format ≡ Dynamic = subst (λ (f : SlotFile). f.defs.format ≡ Dynamic) c.self.view_is c.self.invariant.1 in
    let packed : c.as_slice.result.now ≡ spelling c.args.self.now.defs c.args.row.now = search rules in
    subst (λ (y : List ℕ). length y < 2 ^ 32) (sym packed) (row-told c.args.self.now.defs c.args.row.now dynamic c.requires.fits)

pub returns-in_err-put-clause-refused : goal.returns-in_err-put-clause-refused
returns-in_err-put-clause-refused g c =
    let sound : IsSound c.args.self.now.defs = subst (λ (f : SlotFile). IsSound f.defs) c.self.view_is c.self.invariant.0 in
    let dynamic : c.args.self.now.defs.format ≡ Dynamic = subst (λ (f : SlotFile). f.defs.format ≡ Dynamic) c.self.view_is c.self.invariant.1 in
    let packed : c.as_slice.result.now ≡ spelling c.args.self.now.defs c.args.row.now = search rules in
    let e = err_from_is_err_and c.from_residual-in_err-put.result c.from_residual-in_err-put.ensures.1 in
    subst (λ r. IfErr r (λ f. IfTold (g.F.Files.holds c.args.files.now) (Refuses (insert c.args.row.now) c.args.self.now f))) (sym e.1)
    (insert-refused c.args.self.now c.args.row.now c.as_slice.result.now (g.F.Files.holds c.args.files.now) e.0 sound dynamic c.requires.fits packed
    (search rules))

pub returns-in_err-put-clause-causes : goal.returns-in_err-put-clause-causes
returns-in_err-put-clause-causes g c =
    let packed : c.as_slice.result.now ≡ spelling c.args.self.now.defs c.args.row.now = search rules in
    let e = err_from_is_err_and c.from_residual-in_err-put.result c.from_residual-in_err-put.ensures.1 in
    subst (λ r. IfErr r (ByCause Never ((is_reached c.args.self.now.counts.length c.args.self.now ≡ false) ⊎ IfTold (g.F.Files.holds c.args.files.now) (LacksRoom c.args.self.now (length (spelling c.args.self.now.defs c.args.row.now)))) (λ p. IfTold (g.F.Files.holds c.args.files.now) (FindsBad c.args.self.now (length (spelling c.args.self.now.defs c.args.row.now)) p)))) (sym e.1)
    (subst (λ (y : List ℕ). (ByCause Never ((is_reached c.args.self.now.counts.length c.args.self.now ≡ false) ⊎ IfTold (g.F.Files.holds c.args.files.now) (LacksRoom c.args.self.now (length y))) (λ p. IfTold (g.F.Files.holds c.args.files.now) (FindsBad c.args.self.now (length y) p))) e.0) packed (search rules))

pub returns-clause-ok : goal.returns-clause-ok
returns-clause-ok g c =
    let sound : IsSound c.args.self.now.defs = subst (λ (f : SlotFile). IsSound f.defs) c.self.view_is c.self.invariant.0 in
    let dynamic : c.args.self.now.defs.format ≡ Dynamic = subst (λ (f : SlotFile). f.defs.format ≡ Dynamic) c.self.view_is c.self.invariant.1 in
    let packed : c.as_slice.result.now ≡ spelling c.args.self.now.defs c.args.row.now = search rules in
    insert-ok c.args.self.now c.put.new.self c.args.row.now c.as_slice.result.now c.in_ok-put.put (g.F.Files.holds c.args.files.now) (g.F.Files.holds c.put.new.files) sound dynamic c.requires.fits packed (search rules) (search rules) (search rules) (search rules)

pub returns-clause-written : goal.returns-clause-written
returns-clause-written g c =
    let packed : c.as_slice.result.now ≡ spelling c.args.self.now.defs c.args.row.now = search rules in
    subst (λ (y : List ℕ). Told (g.F.Files.holds c.args.files.now) (g.F.Files.holds c.put.new.files) (Puts c.args.self.now.name (ends_of (list_in c.args.self.now)) y (ends_of (list_in c.put.new.self)))) packed c.in_ok-put.ensures.written

pub returns-clause-appended : goal.returns-clause-appended
returns-clause-appended g c =
    let dynamic : c.args.self.now.defs.format ≡ Dynamic = subst (λ (f : SlotFile). f.defs.format ≡ Dynamic) c.self.view_is c.self.invariant.1 in
    let packed : c.as_slice.result.now ≡ spelling c.args.self.now.defs c.args.row.now = search rules in
    new-adds c.args.self.now c.put.new.self c.args.row.now c.as_slice.result.now (g.F.Files.holds c.args.files.now) (g.F.Files.holds c.put.new.files) dynamic packed c.in_ok-put.ensures.appended
