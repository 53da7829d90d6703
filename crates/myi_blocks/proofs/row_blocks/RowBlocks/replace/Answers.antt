use Rattle.std.proofs.Common.{◌≡◌, ◌∙◌, ◌⊎◌, inl, length, true, false, ap, refl, subst, sym, arith}
use Rattle.std.specs.Prelude.{IfErr}
use Rattle.std.proofs.lemmas.Result.{err_from_is_err_and}
use Rattle.myi_base.specs.Holding.{IfTold, bytes_of}
use Rattle.myi_defs.specs.declared.types.RowFormat.TheVariants.{Dynamic}
use Rattle.myi_defs.specs.Addressable.{is_addressable}
use Rattle.myi_dellist.specs.FreeList.{ListState}
use Rattle.myi_slots.specs.SlotFile.{SlotFile, ByCause, Never, is_reached}
use Rattle.myi_blocks.specs.BlockFile.{end_limit, list_in, FindsOtherBad, LacksOtherRoom}
use Rattle.myi_blocks.specs.contracts.row_blocks.RowBlocks.{the_view}
use Rattle.myi_blocks.proofs.StepLemmas.{reached-below}
use Rattle.myi_blocks.proofs.DeleteLemmas.{list-is}
use Rattle.myi_blocks.proofs.UpdateLemmas.{again-told, again-tallied, again-refused}
use Rattle.myi_blocks.proofs.AddedLemmas.{other-told}
use Rattle.myi_blocks.proofs.row_blocks.RowBlocks.replace.Goals as goal

pub replace-requires-clause-long : goal.replace-requires-clause-long
replace-requires-clause-long g c κs within = λ m held. subst (λ (f : SlotFile). length (bytes_of f.name m) ≡ f.counts.length) (sym c.self.view_is) (c.requires.long m held)

pub returns-then-not-addressable-clause-causes : goal.returns-then-not-addressable-clause-causes
returns-then-not-addressable-clause-causes g c =
    let past : is_addressable c.self.inside.defs c.self.inside.list.end ≡ false = ap (is_addressable c.self.inside.defs) (sym c.end-before.ensures) ∙ sym c.addressable.ensures ∙ c.if-not-addressable.true in
    inl (subst (λ (f : SlotFile). is_addressable f.defs f.counts.length ≡ false) c.self.view_is past)

pub returns-in_err-new-clause-causes : goal.returns-in_err-new-clause-causes
returns-in_err-new-clause-causes g c =
    let reached : is_addressable c.self.inside.defs c.self.inside.list.end ≡ true = ap (is_addressable c.self.inside.defs) (sym c.end-before.ensures) ∙ sym c.addressable.ensures ∙ c.if-not-addressable.false in
    let limit : c.self.inside.list.end_below ≡ end_limit c.args.self.now.defs = c.self.invariant.2 reached ∙ ap (λ (f : SlotFile). end_limit f.defs) c.self.view_is in
    let same : c.self.inside.list ≡ list_in c.args.self.now = list-is c.self.inside.list c.args.self.now (ap (λ (f : SlotFile). f.name) c.self.view_is) (ap (λ (f : SlotFile). f.counts.dellink) c.self.view_is) (ap (λ (f : SlotFile). f.counts.length) c.self.view_is) limit in
    let e = err_from_is_err_and c.from_residual.result c.from_residual.ensures.1 in
    let h = g.F.Files.holds c.args.files.now in
    let len = length c.args.packed.now in
    let long : IfTold h (λ m. length (bytes_of c.self.inside.list.name m) ≡ c.self.inside.list.end) = λ m held. subst (λ (f : SlotFile). length (bytes_of f.name m) ≡ f.counts.length) (sym c.self.view_is) (c.requires.long m held) in
    subst (λ r. IfErr r (ByCause Never ((is_reached c.args.self.now.counts.length c.args.self.now ≡ false) ⊎ IfTold h (LacksOtherRoom c.args.self.now c.args.at len)) (λ p. IfTold h (FindsOtherBad c.args.self.now c.args.at len p)))) (sym e.1)
    (subst (ByCause Never ((is_reached c.args.self.now.counts.length c.args.self.now ≡ false) ⊎ IfTold h (LacksOtherRoom c.args.self.now c.args.at len)) (λ p. IfTold h (FindsOtherBad c.args.self.now c.args.at len p))) (sym e.2)
    (again-refused c.args.self.now c.self.inside.list c.args.at len h c.in_err-new.field-0.0 same long c.in_err-new.ensures.damaged c.in_err-new.ensures.full))

pub returns-clause-ok : goal.returns-clause-ok
returns-clause-ok g c =
    let reached : is_addressable c.self.inside.defs c.self.inside.list.end ≡ true = ap (is_addressable c.self.inside.defs) (sym c.end-before.ensures) ∙ sym c.addressable.ensures ∙ c.if-not-addressable.false in
    let limit : c.self.inside.list.end_below ≡ end_limit c.args.self.now.defs = c.self.invariant.2 reached ∙ ap (λ (f : SlotFile). end_limit f.defs) c.self.view_is in
    let same : c.self.inside.list ≡ list_in c.args.self.now = list-is c.self.inside.list c.args.self.now (ap (λ (f : SlotFile). f.name) c.self.view_is) (ap (λ (f : SlotFile). f.counts.dellink) c.self.view_is) (ap (λ (f : SlotFile). f.counts.length) c.self.view_is) limit in
    let k = c.replace.new.self in
    let new : SlotFile = the_view (record { name = c.self.inside.name; list = k; defs = c.self.inside.defs; tally = c.with_other-self-inside.result; row = c.self.inside.row }) in
    let then : k ≡ list_in new = list-is k new refl refl refl (ap (λ (l : ListState). l.end_below) c.in_ok-new.ensures.state ∙ c.self.invariant.2 reached) in
    again-told (g.F.Files.holds c.args.files.now) (g.F.Files.holds c.replace.new.files) c.self.inside.list k (list_in c.args.self.now) (list_in new) c.args.at c.args.packed.now same then c.in_ok-new.ensures.ok

pub returns-clause-tallies : goal.returns-clause-tallies
returns-clause-tallies g c =
    let reached : is_addressable c.self.inside.defs c.self.inside.list.end ≡ true = ap (is_addressable c.self.inside.defs) (sym c.end-before.ensures) ∙ sym c.addressable.ensures ∙ c.if-not-addressable.false in
    let limit : c.self.inside.list.end_below ≡ end_limit c.args.self.now.defs = c.self.invariant.2 reached ∙ ap (λ (f : SlotFile). end_limit f.defs) c.self.view_is in
    let same : c.self.inside.list ≡ list_in c.args.self.now = list-is c.self.inside.list c.args.self.now (ap (λ (f : SlotFile). f.name) c.self.view_is) (ap (λ (f : SlotFile). f.counts.dellink) c.self.view_is) (ap (λ (f : SlotFile). f.counts.length) c.self.view_is) limit in
    again-tallied (g.F.Files.holds c.args.files.now) c.self.inside.list (list_in c.args.self.now) c.args.at (length c.args.packed.now) c.in_ok-new.new same c.in_ok-new.ensures.tallies

pub returns-clause-room : goal.returns-clause-room
returns-clause-room g c =
    let dynamic : c.args.self.now.defs.format ≡ Dynamic = subst (λ (f : SlotFile). f.defs.format ≡ Dynamic) c.self.view_is c.self.invariant.1 in
    let reached : is_addressable c.self.inside.defs c.self.inside.list.end ≡ true = ap (is_addressable c.self.inside.defs) (sym c.end-before.ensures) ∙ sym c.addressable.ensures ∙ c.if-not-addressable.false in
    let limit : c.self.inside.list.end_below ≡ end_limit c.args.self.now.defs = c.self.invariant.2 reached ∙ ap (λ (f : SlotFile). end_limit f.defs) c.self.view_is in
    reached-below c.args.self.now.defs c.replace.new.self.end dynamic (omega (arith, limit, c.in_ok-new.ensures.room))

pub returns-clause-written : goal.returns-clause-written
returns-clause-written g c =
    let reached : is_addressable c.self.inside.defs c.self.inside.list.end ≡ true = ap (is_addressable c.self.inside.defs) (sym c.end-before.ensures) ∙ sym c.addressable.ensures ∙ c.if-not-addressable.false in
    let limit : c.self.inside.list.end_below ≡ end_limit c.args.self.now.defs = c.self.invariant.2 reached ∙ ap (λ (f : SlotFile). end_limit f.defs) c.self.view_is in
    let same : c.self.inside.list ≡ list_in c.args.self.now = list-is c.self.inside.list c.args.self.now (ap (λ (f : SlotFile). f.name) c.self.view_is) (ap (λ (f : SlotFile). f.counts.dellink) c.self.view_is) (ap (λ (f : SlotFile). f.counts.length) c.self.view_is) limit in
    let k = c.replace.new.self in
    let new : SlotFile = the_view (record { name = c.self.inside.name; list = k; defs = c.self.inside.defs; tally = c.with_other-self-inside.result; row = c.self.inside.row }) in
    let then : k ≡ list_in new = list-is k new refl refl refl (ap (λ (l : ListState). l.end_below) c.in_ok-new.ensures.state ∙ c.self.invariant.2 reached) in
    other-told (g.F.Files.holds c.args.files.now) (g.F.Files.holds c.replace.new.files) c.self.inside.list k (list_in c.args.self.now) (list_in new) c.args.at c.args.packed.now same then c.in_ok-new.ensures.rewrites
