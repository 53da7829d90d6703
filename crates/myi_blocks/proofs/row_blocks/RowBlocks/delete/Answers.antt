use Rattle.std.proofs.Common.{◌≡◌, ◌∙◌, length, true, false, ap, refl, subst, sym, rules}
use Rattle.std.specs.Prelude.{IfErr}
use Rattle.std.proofs.lemmas.Result.{err_from_is_err_and}
use Rattle.myi_base.specs.Holding.{IfTold, bytes_of}
use Rattle.myi_defs.specs.declared.types.RowFormat.TheVariants.{Dynamic}
use Rattle.myi_defs.specs.Addressable.{is_addressable}
use Rattle.myi_defs.specs.Sound.{IsSound}
use Rattle.myi_dellist.specs.FreeList.{ListState}
use Rattle.myi_state.specs.Changes.{delete}
use Rattle.myi_slots.specs.declared.fault.DataFault.{DataFault}
use Rattle.myi_slots.specs.declared.fault.DataFault.TheVariants as fault
use Rattle.myi_slots.specs.SlotFile.{SlotFile, ByCause, Never, is_reached}
use Rattle.myi_blocks.specs.BlockFile.{end_limit, list_in, FindsRowBad}
use Rattle.myi_blocks.specs.Standing.{RefusesRow}
use Rattle.myi_blocks.specs.contracts.row_blocks.RowBlocks.{the_view}
use Rattle.myi_blocks.proofs.DeleteLemmas.{delete-ok, delete-refused, list-is, freed-told, freed-tallied, freed-refused}
use Rattle.myi_blocks.proofs.AddedLemmas.{gone-told}
use Rattle.myi_blocks.proofs.row_blocks.RowBlocks.delete.Goals as goal

pub release_row-requires-clause-long : goal.release_row-requires-clause-long
release_row-requires-clause-long g c κs within = λ m held. subst (λ (f : SlotFile). length (bytes_of f.name m) ≡ f.counts.length) (sym c.self.view_is) (c.requires.long m held)

pub returns-then-not-addressable-clause-refused : goal.returns-then-not-addressable-clause-refused
returns-then-not-addressable-clause-refused g c =
    let sound : IsSound c.args.self.now.defs = subst (λ (f : SlotFile). IsSound f.defs) c.self.view_is c.self.invariant.0 in
    let dynamic : c.args.self.now.defs.format ≡ Dynamic = subst (λ (f : SlotFile). f.defs.format ≡ Dynamic) c.self.view_is c.self.invariant.1 in
    let past : is_addressable c.self.inside.defs c.self.inside.list.end ≡ false = ap (is_addressable c.self.inside.defs) (sym c.end.ensures) ∙ sym c.addressable.ensures ∙ c.if-not-addressable.true in
    delete-refused c.args.self.now c.args.at (g.F.Files.holds c.args.files.now) fault.Full sound dynamic (subst (λ (f : SlotFile). is_addressable f.defs f.counts.length ≡ false) c.self.view_is past)

pub returns-in_err-freed-clause-causes : goal.returns-in_err-freed-clause-causes
returns-in_err-freed-clause-causes g c =
    let reached : is_addressable c.self.inside.defs c.self.inside.list.end ≡ true = ap (is_addressable c.self.inside.defs) (sym c.end.ensures) ∙ sym c.addressable.ensures ∙ c.if-not-addressable.false in
    let limit : c.self.inside.list.end_below ≡ end_limit c.args.self.now.defs = c.self.invariant.2 reached ∙ ap (λ (f : SlotFile). end_limit f.defs) c.self.view_is in
    let same : c.self.inside.list ≡ list_in c.args.self.now = list-is c.self.inside.list c.args.self.now (ap (λ (f : SlotFile). f.name) c.self.view_is) (ap (λ (f : SlotFile). f.counts.dellink) c.self.view_is) (ap (λ (f : SlotFile). f.counts.length) c.self.view_is) limit in
    let e = err_from_is_err_and c.from_residual.result c.from_residual.ensures.1 in
    subst (λ r. IfErr r (ByCause Never (is_reached c.args.self.now.counts.length c.args.self.now ≡ false) (λ p. IfTold (g.F.Files.holds c.args.files.now) (FindsRowBad c.args.self.now c.args.at p)))) (sym e.1)
    (subst (ByCause Never (is_reached c.args.self.now.counts.length c.args.self.now ≡ false) (λ p. IfTold (g.F.Files.holds c.args.files.now) (FindsRowBad c.args.self.now c.args.at p))) (sym e.2)
    (freed-refused c.args.self.now c.self.inside.list c.args.at (g.F.Files.holds c.args.files.now) c.in_err-freed.field-0.0 same c.in_err-freed.ensures.damaged c.in_err-freed.ensures.room))

pub returns-in_err-freed-clause-refused : goal.returns-in_err-freed-clause-refused
returns-in_err-freed-clause-refused g c =
    let sound : IsSound c.args.self.now.defs = subst (λ (f : SlotFile). IsSound f.defs) c.self.view_is c.self.invariant.0 in
    let dynamic : c.args.self.now.defs.format ≡ Dynamic = subst (λ (f : SlotFile). f.defs.format ≡ Dynamic) c.self.view_is c.self.invariant.1 in
    let reached : is_addressable c.self.inside.defs c.self.inside.list.end ≡ true = ap (is_addressable c.self.inside.defs) (sym c.end.ensures) ∙ sym c.addressable.ensures ∙ c.if-not-addressable.false in
    let limit : c.self.inside.list.end_below ≡ end_limit c.args.self.now.defs = c.self.invariant.2 reached ∙ ap (λ (f : SlotFile). end_limit f.defs) c.self.view_is in
    let same : c.self.inside.list ≡ list_in c.args.self.now = list-is c.self.inside.list c.args.self.now (ap (λ (f : SlotFile). f.name) c.self.view_is) (ap (λ (f : SlotFile). f.counts.dellink) c.self.view_is) (ap (λ (f : SlotFile). f.counts.length) c.self.view_is) limit in
    let e = err_from_is_err_and c.from_residual.result c.from_residual.ensures.1 in
    let h = g.F.Files.holds c.args.files.now in
    subst (λ r. IfErr r (λ f. IfTold h (RefusesRow (delete c.args.at) c.args.at c.args.self.now f))) (sym e.1)
    (subst (λ (f : DataFault). IfTold h (RefusesRow (delete c.args.at) c.args.at c.args.self.now f)) (sym e.2)
    (delete-refused c.args.self.now c.args.at h _ sound dynamic (freed-refused c.args.self.now c.self.inside.list c.args.at h c.in_err-freed.field-0.0 same c.in_err-freed.ensures.damaged c.in_err-freed.ensures.room)))

pub returns-clause-frees : goal.returns-clause-frees
returns-clause-frees g c =
    let reached : is_addressable c.self.inside.defs c.self.inside.list.end ≡ true = ap (is_addressable c.self.inside.defs) (sym c.end.ensures) ∙ sym c.addressable.ensures ∙ c.if-not-addressable.false in
    let limit : c.self.inside.list.end_below ≡ end_limit c.args.self.now.defs = c.self.invariant.2 reached ∙ ap (λ (f : SlotFile). end_limit f.defs) c.self.view_is in
    let same : c.self.inside.list ≡ list_in c.args.self.now = list-is c.self.inside.list c.args.self.now (ap (λ (f : SlotFile). f.name) c.self.view_is) (ap (λ (f : SlotFile). f.counts.dellink) c.self.view_is) (ap (λ (f : SlotFile). f.counts.length) c.self.view_is) limit in
    let k = c.release_row.new.self in
    let new : SlotFile = the_view (record { name = c.self.inside.name; list = k; defs = c.self.inside.defs; tally = c.without_row-self-inside.result; row = c.self.inside.row }) in
    let then : k ≡ list_in new = list-is k new refl refl refl (ap (λ (l : ListState). l.end_below) c.in_ok-freed.ensures.state ∙ c.self.invariant.2 reached) in
    freed-told (g.F.Files.holds c.args.files.now) (g.F.Files.holds c.release_row.new.files) c.self.inside.list k (list_in c.args.self.now) (list_in new) c.args.at same then c.in_ok-freed.ensures.ok

pub returns-clause-ok : goal.returns-clause-ok
returns-clause-ok g c =
    let sound : IsSound c.args.self.now.defs = subst (λ (f : SlotFile). IsSound f.defs) c.self.view_is c.self.invariant.0 in
    let dynamic : c.args.self.now.defs.format ≡ Dynamic = subst (λ (f : SlotFile). f.defs.format ≡ Dynamic) c.self.view_is c.self.invariant.1 in
    let reached : is_addressable c.self.inside.defs c.self.inside.list.end ≡ true = ap (is_addressable c.self.inside.defs) (sym c.end.ensures) ∙ sym c.addressable.ensures ∙ c.if-not-addressable.false in
    let limit : c.self.inside.list.end_below ≡ end_limit c.args.self.now.defs = c.self.invariant.2 reached ∙ ap (λ (f : SlotFile). end_limit f.defs) c.self.view_is in
    let same : c.self.inside.list ≡ list_in c.args.self.now = list-is c.self.inside.list c.args.self.now (ap (λ (f : SlotFile). f.name) c.self.view_is) (ap (λ (f : SlotFile). f.counts.dellink) c.self.view_is) (ap (λ (f : SlotFile). f.counts.length) c.self.view_is) limit in
    let k = c.release_row.new.self in
    let new : SlotFile = the_view (record { name = c.self.inside.name; list = k; defs = c.self.inside.defs; tally = c.without_row-self-inside.result; row = c.self.inside.row }) in
    let then : k ≡ list_in new = list-is k new refl refl refl (ap (λ (l : ListState). l.end_below) c.in_ok-freed.ensures.state ∙ c.self.invariant.2 reached) in
    let frees = freed-told (g.F.Files.holds c.args.files.now) (g.F.Files.holds c.release_row.new.files) c.self.inside.list k (list_in c.args.self.now) (list_in new) c.args.at same then c.in_ok-freed.ensures.ok in
    let tallies = freed-tallied (g.F.Files.holds c.args.files.now) c.self.inside.list (list_in c.args.self.now) c.args.at c.in_ok-freed.freed same c.in_ok-freed.ensures.tallies in
    delete-ok c.args.self.now new c.args.at c.in_ok-freed.freed (g.F.Files.holds c.args.files.now) (g.F.Files.holds c.release_row.new.files) sound dynamic frees tallies (search rules)
    (subst (λ (f : SlotFile). is_addressable f.defs f.counts.length ≡ true) c.self.view_is reached)

pub returns-clause-written : goal.returns-clause-written
returns-clause-written g c =
    let reached : is_addressable c.self.inside.defs c.self.inside.list.end ≡ true = ap (is_addressable c.self.inside.defs) (sym c.end.ensures) ∙ sym c.addressable.ensures ∙ c.if-not-addressable.false in
    let limit : c.self.inside.list.end_below ≡ end_limit c.args.self.now.defs = c.self.invariant.2 reached ∙ ap (λ (f : SlotFile). end_limit f.defs) c.self.view_is in
    let same : c.self.inside.list ≡ list_in c.args.self.now = list-is c.self.inside.list c.args.self.now (ap (λ (f : SlotFile). f.name) c.self.view_is) (ap (λ (f : SlotFile). f.counts.dellink) c.self.view_is) (ap (λ (f : SlotFile). f.counts.length) c.self.view_is) limit in
    let k = c.release_row.new.self in
    let new : SlotFile = the_view (record { name = c.self.inside.name; list = k; defs = c.self.inside.defs; tally = c.without_row-self-inside.result; row = c.self.inside.row }) in
    let then : k ≡ list_in new = list-is k new refl refl refl (ap (λ (l : ListState). l.end_below) c.in_ok-freed.ensures.state ∙ c.self.invariant.2 reached) in
    gone-told (g.F.Files.holds c.args.files.now) (g.F.Files.holds c.release_row.new.files) c.self.inside.list k (list_in c.args.self.now) (list_in new) c.args.at same then c.in_ok-freed.ensures.frees
