use Rattle.myi_snapshots.proofs.AppendLemmas.{one_more, last, kept, same_holes, ends, grows}
use Rattle.myi_snapshots.proofs.laws.appended_rows_stand_behind.Goals as goal

pub returns : goal.returns
returns c = record { one_more = one_more; last = last; state = kept; holes = same_holes; ends = ends; grows = grows }
