use Rattle.std.proofs.Common.{◌≤◌, ◌^◌, arith}
use Rattle.std.proofs.Math.Nat.{pow-le-pow_right}
use Rattle.myi_pack.proofs.packing.blob_end.Goals as goal

pub pow-requires : goal.pow-requires
pow-requires c =
    let most : 256 ^ c.args.width ≤ 256 ^ 4 = pow-le-pow_right (omega arith) c.requires in
    omega arith
