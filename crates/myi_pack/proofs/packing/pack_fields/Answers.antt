use Rattle.std.proofs.Common.{arith}
use Rattle.myi_pack.proofs.FlagLemmas.{few-flags, written-flags}
use Rattle.myi_pack.proofs.packing.pack_fields.Goals as goal

pub returns : goal.returns
returns c =
    written-flags c.args.fields.now c.args.values.now c.div_ceil.result c.flag_count.result c.in_ok-out.out.items c.push_repeated.new.out.items c.push_fields.new.out.items
    c.flag_count.ensures.value (omega (arith, c.div_ceil.ensures)) (few-flags c.args.fields.now c.args.values.now) c.in_ok-out.ensures.items c.in_ok-push_repeated.ensures c.in_ok-push_fields.ensures
