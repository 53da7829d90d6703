use Rattle.myi_frames.proofs.FileLemmas.{length-overwritten, part-overwritten}
use Rattle.myi_frames.proofs.laws.writes_leave_the_rest.Goals as goal

pub returns : goal.returns
returns c = record { length = length-overwritten; bytes = part-overwritten }
