use Rattle.myi_keypage.proofs.CallerLemmas.{page_again}
use Rattle.myi_keypage.proofs.ShownIn.{page_is, page_from, page_once, page_used}
use Rattle.myi_keypage.proofs.PageIs.{one_page}
use Rattle.myi_keypage.proofs.laws.pages_read_back.Goals as goal

pub returns : goal.returns
returns c = record {
  once = one_page;
  read = page_is;
  page = page_from;
  written = page_again;
  spelling = page_once;
  used = page_used;
}
