use Rattle.myi_keys.specs.Weights.{weights}
use Rattle.myi_keys.proofs.CallerLemmas.{weights_short, weights_few}
use Rattle.myi_keys.proofs.WeightSizes.{bytes_by, size_by}
use Rattle.myi_keys.proofs.laws.weights_fit.Goals as goal

pub returns : goal.returns
unfolding weights
returns c = record {
  bytes = λ seg content. bytes_by seg.seg seg.language seg.length content;
  content = λ seg content. size_by seg.seg seg.language seg.length content;
  segment = weights_short;
  sized = weights_few;
}
