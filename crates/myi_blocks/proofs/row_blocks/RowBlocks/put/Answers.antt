use Rattle.std.proofs.Common.{◌≡◌, ◌∙◌, length, true, ap, subst, sym, arith}
use Rattle.myi_base.specs.Holding.{bytes_of}
use Rattle.myi_defs.specs.declared.types.RowFormat.TheVariants.{Dynamic}
use Rattle.myi_defs.specs.Addressable.{is_addressable}
use Rattle.myi_slots.specs.SlotFile.{SlotFile}
use Rattle.myi_blocks.specs.BlockFile.{end_limit}
use Rattle.myi_blocks.proofs.StepLemmas.{reached-below}
use Rattle.myi_blocks.proofs.row_blocks.RowBlocks.put.Goals as goal

pub put-requires-clause-long : goal.put-requires-clause-long
put-requires-clause-long g c κs within = λ m held. subst (λ (f : SlotFile). length (bytes_of f.name m) ≡ f.counts.length) (sym c.self.view_is) (c.requires.long m held)

pub returns-clause-room : goal.returns-clause-room
returns-clause-room g c =
    let dynamic : c.args.self.now.defs.format ≡ Dynamic = subst (λ (f : SlotFile). f.defs.format ≡ Dynamic) c.self.view_is c.self.invariant.1 in
    let reached : is_addressable c.self.inside.defs c.self.inside.list.end ≡ true = ap (is_addressable c.self.inside.defs) (sym c.end-before.ensures) ∙ sym c.addressable.ensures ∙ c.if-not-addressable.false in
    let limit : c.self.inside.list.end_below ≡ end_limit c.args.self.now.defs = c.self.invariant.2 reached ∙ ap (λ (f : SlotFile). end_limit f.defs) c.self.view_is in
    reached-below c.args.self.now.defs c.put.new.self.end dynamic (omega (arith, limit, c.in_ok-put.ensures.room))
