use Rattle.std.proofs.Common.{◌∙◌, ap, arith}
use Rattle.myi_order.specs.declared.key_parts.KeyParts.{KeyParts}
use Rattle.myi_order.proofs.NumberLaws.{part_appended, parts_appended}
use Rattle.myi_order.proofs.numbers.all_numbers.Goals as goal

pub loop-part-preserved : goal.loop-part-preserved
loop-part-preserved c =
    part_appended c.args.parts.now _ c.loop-part.numbers.items c.extend_from_slice.new.self.items c.as_slice.result.now c.loop-part.part-index c.part-item.result (omega arith) (c.as_slice.ensures ∙ ap (λ (p : KeyParts). p.per) c.part-item.is)
    c.in_ok-extend_from_slice.ensures.items c.loop-part.invariant

pub returns : goal.returns
returns c = parts_appended c.args.parts.now c.loop-part.numbers.items c.loop-part.part-index (omega arith) c.loop-part.invariant
