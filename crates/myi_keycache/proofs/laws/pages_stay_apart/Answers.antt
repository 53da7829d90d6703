use Rattle.myi_keycache.proofs.KeptLemmas.{unwritten_kept, none_kept}
use Rattle.myi_keycache.proofs.laws.pages_stay_apart.Goals as goal

pub returns-clause-unwritten : goal.returns-clause-unwritten
returns-clause-unwritten c = unwritten_kept

pub returns-clause-none : goal.returns-clause-none
returns-clause-none c at len p n kept = absurd (none_kept p n kept)

pub returns-clause-kept : goal.returns-clause-kept
returns-clause-kept c pages at len apart p n u = apart p n (unwritten_kept pages p n u)
