use Rattle.std.proofs.Common.{◌≡◌, ◌-◌, take, drop, length, Some, arith, rules}
use Rattle.std.proofs.lemmas.List.{take_rest}
use Rattle.myi_defs.specs.declared.types.RowFormat.TheVariants.{Dynamic}
use Rattle.myi_pack.specs.Flags.{flag_at}
use Rattle.myi_pack.specs.Unpacking.{field_of}
use Rattle.myi_pack.specs.Views.{field_value}
use Rattle.myi_pack.proofs.PlaceLemmas.{cut_ends}
use Rattle.myi_pack.proofs.places.cut_at.Goals as goal

pub overflow_sub-next : goal.overflow_sub-next
overflow_sub-next c =
    let front : take (length c.args.bytes.now - c.args.place.begin) (drop c.args.place.begin c.args.bytes.now) ≡ drop c.args.place.begin c.args.bytes.now = take_rest c.args.bytes.now c.args.place.begin in
    let is : field_of Dynamic c.args.field.now c.flag_at-bit.result (take (length c.args.bytes.now - c.args.place.begin) (drop c.args.place.begin c.args.bytes.now)) ≡ Some (field_value c.args.field.now.length c.unwrap.result.0, c.unwrap.result.1.now) = search rules in
    (cut_ends c.args.field.now c.flag_at-bit.result (flag_at c.args.flags.now c.args.place.flag) c.args.bytes.now c.args.place.begin _ (field_value c.args.field.now.length c.unwrap.result.0) c.unwrap.result.1.now c.requires.length (λ i. omega (arith, c.type_inv.bytes i)) c.requires.inside c.flag_at-bit.ensures front is).0

pub returns-clause-found : goal.returns-clause-found
returns-clause-found c =
    let front : take (length c.args.bytes.now - c.args.place.begin) (drop c.args.place.begin c.args.bytes.now) ≡ drop c.args.place.begin c.args.bytes.now = take_rest c.args.bytes.now c.args.place.begin in
    let is : field_of Dynamic c.args.field.now c.flag_at-bit.result (take (length c.args.bytes.now - c.args.place.begin) (drop c.args.place.begin c.args.bytes.now)) ≡ Some (field_value c.args.field.now.length c.unwrap.result.0, c.unwrap.result.1.now) = search rules in
    (cut_ends c.args.field.now c.flag_at-bit.result (flag_at c.args.flags.now c.args.place.flag) c.args.bytes.now c.args.place.begin _ (field_value c.args.field.now.length c.unwrap.result.0) c.unwrap.result.1.now c.requires.length (λ i. omega (arith, c.type_inv.bytes i)) c.requires.inside c.flag_at-bit.ensures front is).1
