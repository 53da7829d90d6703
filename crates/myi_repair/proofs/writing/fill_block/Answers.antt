use Rattle.std.proofs.Common.{◌≡◌, length, arith, sym, subst}
use Rattle.myi_frames.specs.Sizes.{least_size}
use Rattle.myi_frames.specs.Writing.{IsWritable, whole_spec}
use Rattle.myi_frames.proofs.CallerLemmas.{least-writable}
use Rattle.myi_repair.proofs.writing.fill_block.Goals as goal

pub write_frame-requires : goal.write_frame-requires
write_frame-requires c =
    let n = length c.args.packed.now in
    let e : length c.deref_mut.result.now ≡ least_size n = omega (arith, c.deref_mut.ensures.len, c.in_ok-resize.ensures.len, c.least_size.ensures) in
    subst (λ size. IsWritable (whole_spec n) n size) (sym e) (least-writable n c.requires).0
