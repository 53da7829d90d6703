use Rattle.myi_frames.proofs.CallerLemmas.{block-stands, block-bytes, block-bounded, block-sized}
use Rattle.myi_frames.proofs.BlockLemmas.{block-short, block-unaligned, block-unknown}
use Rattle.myi_frames.proofs.laws.blocks_stand.Goals as goal

pub returns : goal.returns
returns c = record {
  stands = block-stands;
  short = block-short;
  unaligned = block-unaligned;
  unknown = block-unknown;
  bounded = block-bounded;
  bytes = block-bytes;
  sized = block-sized;
}
