use Rattle.myi_header.proofs.CallerLemmas.{header-long, header-read, header-state, header-marked, header-elsewhere}
use Rattle.myi_header.proofs.laws.headers_read_back.Goals as goal

pub returns : goal.returns
returns c = record {
  long = header-long;
  read = header-read;
  state = header-state;
  marked = header-marked;
  elsewhere = header-elsewhere;
}
