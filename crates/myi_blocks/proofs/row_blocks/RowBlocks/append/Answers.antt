use Rattle.std.proofs.Common.{◌≡◌, ◌∙◌, ℕ, [], length, true, false, ap, subst, sym, arith}
use Rattle.std.specs.Prelude.{IfErr}
use Rattle.std.proofs.lemmas.Result.{err_from_is_err_and}
use Rattle.myi_base.specs.Holding.{bytes_of}
use Rattle.myi_defs.specs.declared.types.RowFormat.TheVariants.{Dynamic}
use Rattle.myi_defs.specs.Addressable.{is_addressable}
use Rattle.myi_dellist.specs.Placing.{place_at_end}
use Rattle.myi_dellist.specs.FreeList.{ListState}
use Rattle.myi_dellist.specs.Rows.{Tallies}
use Rattle.myi_dellist.specs.Rows as rows
use Rattle.myi_dellist.proofs.CallerLemmas.{end-grows}
use Rattle.myi_slots.specs.SlotFile.{SlotFile, ByCause, Never, is_reached}
use Rattle.myi_blocks.specs.BlockFile.{end_limit, end_with}
use Rattle.myi_blocks.proofs.StepLemmas.{reached-below, never-reached}
use Rattle.myi_blocks.proofs.ResultLemmas.{long-refused}
use Rattle.myi_blocks.proofs.row_blocks.RowBlocks.append.Goals as goal

pub returns-then-not-addressable-clause-causes : goal.returns-then-not-addressable-clause-causes
returns-then-not-addressable-clause-causes g c =
    let dynamic : c.args.self.now.defs.format ≡ Dynamic = subst (λ (f : SlotFile). f.defs.format ≡ Dynamic) c.self.view_is c.self.invariant.1 in
    let end : c.self.inside.list.end ≡ c.args.self.now.counts.length = ap (λ (f : SlotFile). f.counts.length) c.self.view_is in
    let len : ℕ = length c.args.packed.now in
    let past : is_addressable c.self.inside.defs c.self.inside.list.end ≡ false = ap (is_addressable c.self.inside.defs) (sym c.end-before.ensures) ∙ sym c.addressable.ensures ∙ c.if-not-addressable.true in
    let gone : is_addressable c.args.self.now.defs c.args.self.now.counts.length ≡ false = subst (λ (f : SlotFile). is_addressable f.defs f.counts.length ≡ false) c.self.view_is past in
    never-reached c.args.self.now.defs c.args.self.now.counts.length (end_with c.args.self.now len) dynamic gone (end-grows (record { holes = []; end = c.args.self.now.counts.length }) len c.requires.some)

pub put_at_end-requires-clause-long : goal.put_at_end-requires-clause-long
put_at_end-requires-clause-long g c κs within = λ m held. subst (λ (f : SlotFile). length (bytes_of f.name m) ≡ f.counts.length) (sym c.self.view_is) (c.requires.long m held)

pub returns-in_err-put-clause-causes : goal.returns-in_err-put-clause-causes
returns-in_err-put-clause-causes g c =
    let dynamic : c.args.self.now.defs.format ≡ Dynamic = subst (λ (f : SlotFile). f.defs.format ≡ Dynamic) c.self.view_is c.self.invariant.1 in
    let end : c.self.inside.list.end ≡ c.args.self.now.counts.length = ap (λ (f : SlotFile). f.counts.length) c.self.view_is in
    let reached : is_addressable c.self.inside.defs c.self.inside.list.end ≡ true = ap (is_addressable c.self.inside.defs) (sym c.end-before.ensures) ∙ sym c.addressable.ensures ∙ c.if-not-addressable.false in
    let limit : c.self.inside.list.end_below ≡ end_limit c.args.self.now.defs = c.self.invariant.2 reached ∙ ap (λ (f : SlotFile). end_limit f.defs) c.self.view_is in
    let len : ℕ = length c.args.packed.now in
    let e = err_from_is_err_and c.from_residual.result c.from_residual.ensures.1 in
    subst (λ r. IfErr r (ByCause Never (is_reached (end_with c.args.self.now len) c.args.self.now ≡ false) Never)) (sym e.1)
    (subst (ByCause Never (is_reached (end_with c.args.self.now len) c.args.self.now ≡ false) Never) (sym e.2)
    (long-refused c.args.self.now c.self.inside.list len c.in_err-put.field-0.0 dynamic end limit c.in_err-put.ensures.full c.in_err-put.ensures.found))

pub returns-clause-tallies : goal.returns-clause-tallies
returns-clause-tallies g c = λ holes.
    let end : c.self.inside.list.end ≡ c.args.self.now.counts.length = ap (λ (f : SlotFile). f.counts.length) c.self.view_is in
    subst (λ (x : ℕ). Tallies holes (place_at_end (record { holes = holes; end = x }) (length c.args.packed.now)) c.in_ok-put.put) end (c.in_ok-put.ensures.tallies holes)

pub returns-clause-room : goal.returns-clause-room
returns-clause-room g c =
    let dynamic : c.args.self.now.defs.format ≡ Dynamic = subst (λ (f : SlotFile). f.defs.format ≡ Dynamic) c.self.view_is c.self.invariant.1 in
    let end : c.self.inside.list.end ≡ c.args.self.now.counts.length = ap (λ (f : SlotFile). f.counts.length) c.self.view_is in
    let reached : is_addressable c.self.inside.defs c.self.inside.list.end ≡ true = ap (is_addressable c.self.inside.defs) (sym c.end-before.ensures) ∙ sym c.addressable.ensures ∙ c.if-not-addressable.false in
    let limit : c.self.inside.list.end_below ≡ end_limit c.args.self.now.defs = c.self.invariant.2 reached ∙ ap (λ (f : SlotFile). end_limit f.defs) c.self.view_is in
    let now : c.put_at_end.new.self.end ≡ rows.end_with c.self.inside.list (length c.args.packed.now) = ap (λ (l : ListState). l.end) c.in_ok-put.ensures.end in
    reached-below c.args.self.now.defs c.put_at_end.new.self.end dynamic (omega (arith, now, limit, c.in_ok-put.ensures.room))
