use Rattle.myi_pack.proofs.CallerLemmas.{row-wins}
use Rattle.myi_pack.proofs.laws.shorter_forms_win.Goals as goal

pub returns : goal.returns
returns c = row-wins
