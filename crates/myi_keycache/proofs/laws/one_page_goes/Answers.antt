use Rattle.myi_keycache.proofs.LeaveLemmas.{leaving_goes, page_gone, page_stays, all_stay, aged_stays, page_asked}
use Rattle.myi_keycache.proofs.laws.one_page_goes.Goals as goal

pub returns : goal.returns
returns c = record {
  leaving = leaving_goes;
  gone = page_gone;
  stay = page_stays;
  leaves = all_stay;
  aged = λ setup lists at len p n page is l there. aged_stays setup lists at len p n page is.some_block l there;
  asked = λ setup lists at len is l. page_asked setup lists at len is.some_block l;
}
