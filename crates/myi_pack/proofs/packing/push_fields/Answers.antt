use Rattle.std.proofs.Common.{◌∙◌, ◌/◌, ◌<◌, ℕ, length, length-append, get_or, ap, arith, refl}
use Rattle.myi_defs.specs.declared.types.RowFormat.TheVariants.{Dynamic}
use Rattle.myi_pack.proofs.SpellingLemmas.{no_value}
use Rattle.myi_pack.proofs.FlagLemmas.{step, room, next-count, next-fits, length-flag, first-field, first-value}
use Rattle.myi_pack.proofs.packing.push_fields.Goals as goal

pub unreachable-requires : goal.unreachable-requires
unreachable-requires c =
    let none = no_value Dynamic c.args.fields.now c.loop-field.field-index c.loop-field.rest.now c.loop-field-test.true c.in_default.len_below in
    absurd (cc (none, c.loop-field.invariant.fits))

pub set_flag-requires : goal.set_flag-requires
set_flag-requires c =
    let m = length c.args.out.now.items in
    let f = get_or c.args.fields.now c.loop-field.field-index _ in
    let g = first-field c.args.fields.now c.loop-field.field-index _ f c.loop-field-test.true refl in
    λ t. let k : c.loop-field.k / 8 < m = room f _ _ c.as_slice.result.now c.loop-field.k _ m c.in_ok-bit.bit g c.loop-field.invariant.count c.requires.room c.in_ok-bit.ensures.flag t in
    omega (arith, ap length c.in_ok-bit.ensures.bytes, length-append {A = ℕ})

pub loop-field-preserved : goal.loop-field-preserved
loop-field-preserved c =
    let m = length c.args.out.now.items in
    let f = get_or c.args.fields.now c.loop-field.field-index _ in
    let g = first-field c.args.fields.now c.loop-field.field-index _ f c.loop-field-test.true refl in
    let u = first-value c.loop-field.rest.now c.value-item.result c.as_slice.result.now c.in-len1-up.len_at_least c.value-item.is c.as_slice.ensures in
    let long = length-flag c.loop-field.out.items _ c.push_field.new.out.items c.set_flag.new.out.items c.loop-field.k c.in_ok-bit.bit c.in_ok-bit.ensures.bytes c.set_flag.ensures in
    record {
      fits = (next-fits f _ _ _ _ _ g u c.loop-field.invariant.fits).1;
      count = next-count f _ _ c.loop-field.k c.next_flag-k.result _ g c.loop-field.invariant.count c.next_flag-k.ensures.value;
      few = omega (arith, c.next_flag-k.ensures.few);
      long = omega (arith, c.loop-field.invariant.long);
      same = step m c.loop-field.k c.next_flag-k.result c.in_ok-bit.bit f _ _ c.as_slice.result.now c.loop-field.rest.now _ c.loop-field.out.items c.push_field.new.out.items c.set_flag.new.out.items g u c.loop-field.invariant.long
          (room f _ _ c.as_slice.result.now c.loop-field.k _ m c.in_ok-bit.bit g c.loop-field.invariant.count c.requires.room c.in_ok-bit.ensures.flag)
          c.in_ok-bit.ensures.bytes c.in_ok-bit.ensures.flag c.set_flag.ensures c.next_flag-k.ensures.value ∙ c.loop-field.invariant.same;
    }
