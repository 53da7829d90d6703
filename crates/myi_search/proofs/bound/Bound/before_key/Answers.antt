use Rattle.std.proofs.Common.{ap, ◌∙◌}
use Rattle.myi_keys.specs.Comparing.{key_front}
use Rattle.myi_keys.proofs.CallerLemmas.{front_again}
use Rattle.myi_search.specs.Path.{is_below}
use Rattle.myi_search.proofs.bound.Bound.before_key.Goals as goal

pub returns : goal.returns
returns c = ap is_below (ap key_front c.code.ensures.value ∙ front_again _ c.code.ensures.key)
