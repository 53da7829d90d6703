use Rattle.std.proofs.Common.{sym, ◌∙◌}
use Rattle.myi_keycache.proofs.CallerLemmas.{lends_file}
use Rattle.myi_keytrees.proofs.FileLaws.{stand_in}
use Rattle.myi_keytrees.proofs.laws.written_trees_stand_in_the_file.Goals as goal

pub returns-clause-trees : goal.returns-clause-trees
returns-clause-trees c = λ t m own lists first some written none s. stand_in t m own lists first some written none s

pub returns-clause-first : goal.returns-clause-first
returns-clause-first c = λ t m own lists first bytes written s is. sym (lends_file t.cache m 0 first written s.current) ∙ is
