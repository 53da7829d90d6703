use Rattle.myi_pack.proofs.CallerLemmas.{next_rest}
use Rattle.myi_pack.proofs.laws.views_go_on.Goals as goal

pub returns : goal.returns
returns c = next_rest
