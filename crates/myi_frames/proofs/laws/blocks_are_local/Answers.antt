use Rattle.myi_frames.proofs.BlockLemmas.{block-own, block-none}
use Rattle.myi_frames.proofs.FileLemmas.{block-grown, block-resized, block-elsewhere}
use Rattle.myi_frames.proofs.laws.blocks_are_local.Goals as goal

pub returns : goal.returns
returns c = record {
  own = λ d e p b here same. block-own d e p b same here;
  grown = block-grown;
  resized = block-resized;
  elsewhere = block-elsewhere;
  none = block-none;
}
