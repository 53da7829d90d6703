use Rattle.std.proofs.Common.{arith, refl, ◌∙◌}
use Rattle.std.proofs.Math.ListN.{length-set}
use Rattle.myi_rowkeys.proofs.ListLemmas.{sorted_next}
use Rattle.myi_rowkeys.proofs.row_keys.sort_unique.Goals as goal

pub loop-index-preserved : goal.loop-index-preserved
loop-index-preserved c = record {
  all = length-set c.loop-index.lists c.loop-index.index c.sort_if_unique.new.list ∙ c.loop-index.invariant.all;
  so_far = sorted_next c.args.keys.now c.args.lists.now c.loop-index.lists _ c.loop-index.index _ c.index-lists-index.result _ (omega (arith, c.loop-index.invariant.all, c.requires)) c.requires c.loop-index.invariant.so_far c.index-keys-index.is c.sort_if_unique.ensures refl;
}
