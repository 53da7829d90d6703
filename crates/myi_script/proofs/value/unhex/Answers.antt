use Rattle.myi_script.proofs.ReadingLemmas.{pair_step}
use Rattle.myi_script.proofs.value.unhex.Goals as goal

pub loop-rest-preserved : goal.loop-rest-preserved
loop-rest-preserved c = pair_step _ c.loop-rest.rest.now c.args.word.now _ _ c.in-len2-up.len_at_least c.loop-rest.invariant c.in-Some.ensures c.in_ok-push-in-Some.ensures.items
