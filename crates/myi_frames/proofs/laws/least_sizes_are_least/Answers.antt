use Rattle.myi_frames.proofs.CallerLemmas.{least-writable, least-sized, least-least, least-together}
use Rattle.myi_frames.proofs.SizeLemmas.{writable-sized}
use Rattle.myi_frames.proofs.laws.least_sizes_are_least.Goals as goal

pub returns : goal.returns
returns c = record {
  writable = least-writable;
  written = writable-sized;
  sized = least-sized;
  least = least-least;
  together = least-together;
}
