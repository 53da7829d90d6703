use Rattle.myi_tail.proofs.RuleLaws.{opens, stores_word, stores_count, looks_at_count, loads_count, loads_word, splits_seat, joins_seat}
use Rattle.myi_tail.proofs.laws.steps_keep_the_rule.Goals as goal

pub returns : goal.returns
returns c = record {
  opening = opens;
  word_stored = stores_word;
  count_stored = stores_count;
  count_looked_at = looks_at_count;
  count_loaded = loads_count;
  word_loaded = loads_word;
  seat_split = splits_seat;
  seat_joined = joins_seat;
}
