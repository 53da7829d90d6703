use Rattle.myi_frames.proofs.CallerLemmas.{start-writable, middle-writable, block-start, block-middle, block-start-few, block-middle-few}
use Rattle.myi_frames.proofs.laws.rooms_are_greatest.Goals as goal

pub returns : goal.returns
returns c = record {
  start_writable = start-writable;
  middle_writable = middle-writable;
  start = block-start;
  middle = block-middle;
  few_in_start = block-start-few;
  few_in_middle = block-middle-few;
}
