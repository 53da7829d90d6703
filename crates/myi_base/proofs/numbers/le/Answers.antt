use Rattle.std.proofs.Common.{arith, length}
use Rattle.myi_base.proofs.NumberLaws.{low_num-below}
use Rattle.myi_base.specs.Numbers.{low_num}
use Rattle.myi_base.proofs.numbers.le.Goals as goal

pub returns-clause-below : goal.returns-clause-below
unfolding low_num
returns-clause-below c =
    rw c.read_uint.ensures (low_num-below (length c.args.bytes.now) c.args.bytes.now (λ i. omega (arith, c.type_inv.bytes i)))
