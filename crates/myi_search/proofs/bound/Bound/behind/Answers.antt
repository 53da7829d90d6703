use Rattle.std.proofs.Common.{List, Some, sym, ap, ◌∙◌}
use Rattle.std.specs.Option.{option_copied}
use Rattle.myi_keys.specs.declared.values.KeySeg.{KeySeg}
use Rattle.myi_keys.specs.Comparing.{key_front}
use Rattle.myi_keys.proofs.CallerLemmas.{front_again}
use Rattle.myi_keylist.specs.PairOrder.{pair_with}
use Rattle.myi_search.specs.Path.{is_up_to}
use Rattle.myi_search.proofs.bound.Bound.behind.Goals as goal

pub returns-in-Some : goal.returns-in-Some
returns-in-Some c = ap (λ (k : List KeySeg). is_up_to (Some (pair_with k c.in-Some.pair.now.row))) (ap key_front c.code.ensures.value ∙ front_again _ c.code.ensures.key) ∙ ap is_up_to (ap option_copied (sym c.in-Some.is))
