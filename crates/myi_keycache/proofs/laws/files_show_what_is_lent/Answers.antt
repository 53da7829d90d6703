use Rattle.myi_keycache.proofs.LentLemmas.{lends_long, lends_found, all_written, lends_file, written_none}
use Rattle.myi_keycache.proofs.laws.files_show_what_is_lent.Goals as goal
use Rattle.myi_keycache.specs.Caching.{pages_of}

pub returns : goal.returns
returns c = record {
  long = lends_long;
  found = lends_found;
  file = λ cache m all. all_written (pages_of cache) _ all;
  lent = lends_file;
  none = λ cache e. written_none (pages_of cache) e;
}
