use Rattle.myi_data.proofs.CallerLemmas.{fresh_ahead, fresh_known, ahead_ended, ahead_same, known_same, after_known}
use Rattle.myi_data.proofs.laws.scans_begin_with_all.Goals as goal

pub returns : goal.returns
returns c = record {
  fresh = fresh_ahead;
  known = fresh_known;
  ended = ahead_ended;
  ahead = ahead_same;
  stays = known_same;
  after = after_known;
}
