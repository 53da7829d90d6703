use Rattle.myi_frames.proofs.HeadLemmas.{header-deleted, header-next, header-prev}
use Rattle.myi_frames.proofs.laws.headers_are_bounded.Goals as goal

pub returns : goal.returns
returns c = record { deleted = header-deleted; next = header-next; prev = header-prev }
