use Rattle.std.proofs.Common.{◌<◌, get_or, length, refl, arith}
use Rattle.myi_make.proofs.DamageLaws.{any_beyond, one_damaged}
use Rattle.myi_make.proofs.damage.damage_blocks.Goals as goal

pub loop-i-preserved : goal.loop-i-preserved
loop-i-preserved g c =
    let was = c.loop-i.invariant in
    let few : c.loop-i.i < length c.args.blocks.now = omega (arith, c.loop-i-test.true) in
    let b = get_or c.args.blocks.now c.loop-i.i (0, 0) in
    record {
      later = omega (arith, was.later, c.write_at.ensures.cause.later);
      so_far = one_damaged c.args.name.now _ c.args.blocks.now c.loop-i.i b _ _ _ few (λ d. any_beyond c.args.blocks.now c.loop-i.i d (0, 0) few) refl (omega arith) was.so_far c.in_ok-write_at.ensures.ok;
    }
