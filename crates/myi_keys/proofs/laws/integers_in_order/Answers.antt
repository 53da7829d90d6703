use Rattle.myi_keys.specs.Weights.{weights}
use Rattle.myi_keys.proofs.IntegerOrders.{signed_by, unsigned_by}
use Rattle.myi_keys.proofs.laws.integers_in_order.Goals as goal

pub returns : goal.returns
unfolding weights
returns c = record {
  signed = λ seg x y. signed_by seg.seg seg.language seg.length x y;
  unsigned = λ seg x y. unsigned_by seg.seg seg.language seg.length x y;
}
