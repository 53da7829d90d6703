use Rattle.std.proofs.Common.{◌≡◌, ◌^◌, ◌<◌, List, ℕ, length, subst, sym, rules}
use Rattle.std.specs.Prelude.{IfErr}
use Rattle.std.proofs.lemmas.Result.{err_from_is_err_and}
use Rattle.myi_base.specs.Holding.{IfTold}
use Rattle.myi_defs.specs.declared.types.RowFormat.TheVariants.{Dynamic}
use Rattle.myi_defs.specs.Sound.{IsSound}
use Rattle.myi_pack.specs.Spelling.{spelling}
use Rattle.myi_pack.proofs.CallerLemmas.{row-told}
use Rattle.myi_data.proofs.CallerLemmas.{spelling_some}
use Rattle.myi_state.specs.Changes.{insert_at_end}
use Rattle.myi_slots.specs.SlotFile.{SlotFile, Refuses}
use Rattle.myi_blocks.proofs.ResultLemmas.{append-ok, append-refused}
use Rattle.myi_blocks.proofs.AddedLemmas.{end-adds}
use Rattle.myi_blocks.proofs.row_blocks.RowBlocks.insert_at_end.Goals as goal

pub append-requires-clause-some : goal.append-requires-clause-some
append-requires-clause-some g c κs within =
    let sound : IsSound c.args.self.now.defs = subst (λ (f : SlotFile). IsSound f.defs) c.self.view_is c.self.invariant.0 in
    let packed : c.as_slice.result.now ≡ spelling c.args.self.now.defs c.args.row.now = search rules in
    subst (λ (y : List ℕ). 0 < length y) (sym packed) (spelling_some c.args.self.now.defs c.args.row.now sound c.requires.fits)

pub append-requires-clause-few : goal.append-requires-clause-few
append-requires-clause-few g c κs within =
    let dynamic : c.args.self.now.defs.format ≡ Dynamic = subst (λ (f : SlotFile). f.defs.format ≡ Dynamic) c.self.view_is c.self.invariant.1 in
    let packed : c.as_slice.result.now ≡ spelling c.args.self.now.defs c.args.row.now = search rules in
    subst (λ (y : List ℕ). length y < 2 ^ 32) (sym packed) (row-told c.args.self.now.defs c.args.row.now dynamic c.requires.fits)

pub returns-in_err-put-clause-refused : goal.returns-in_err-put-clause-refused
returns-in_err-put-clause-refused g c =
    let dynamic : c.args.self.now.defs.format ≡ Dynamic = subst (λ (f : SlotFile). f.defs.format ≡ Dynamic) c.self.view_is c.self.invariant.1 in
    let packed : c.as_slice.result.now ≡ spelling c.args.self.now.defs c.args.row.now = search rules in
    let e = err_from_is_err_and c.from_residual-in_err-put.result c.from_residual-in_err-put.ensures.1 in
    subst (λ r. IfErr r (λ f. IfTold (g.F.Files.holds c.args.files.now) (Refuses (insert_at_end c.args.row.now) c.args.self.now f))) (sym e.1)
    (append-refused c.args.self.now c.args.row.now c.as_slice.result.now (g.F.Files.holds c.args.files.now) e.0 dynamic packed
    (search rules))

pub returns-clause-ok : goal.returns-clause-ok
returns-clause-ok g c =
    let sound : IsSound c.args.self.now.defs = subst (λ (f : SlotFile). IsSound f.defs) c.self.view_is c.self.invariant.0 in
    let dynamic : c.args.self.now.defs.format ≡ Dynamic = subst (λ (f : SlotFile). f.defs.format ≡ Dynamic) c.self.view_is c.self.invariant.1 in
    let packed : c.as_slice.result.now ≡ spelling c.args.self.now.defs c.args.row.now = search rules in
    append-ok c.args.self.now c.append.new.self c.args.row.now c.as_slice.result.now c.in_ok-put.put (g.F.Files.holds c.args.files.now) (g.F.Files.holds c.append.new.files) sound dynamic c.requires.fits packed (search rules) (search rules) (search rules) (search rules)

pub returns-clause-appended : goal.returns-clause-appended
returns-clause-appended g c =
    let dynamic : c.args.self.now.defs.format ≡ Dynamic = subst (λ (f : SlotFile). f.defs.format ≡ Dynamic) c.self.view_is c.self.invariant.1 in
    let packed : c.as_slice.result.now ≡ spelling c.args.self.now.defs c.args.row.now = search rules in
    end-adds c.args.self.now c.append.new.self c.args.row.now c.as_slice.result.now (g.F.Files.holds c.args.files.now) (g.F.Files.holds c.append.new.files) dynamic packed c.in_ok-put.ensures.appended
