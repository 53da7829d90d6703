use Rattle.myi_keycache.proofs.TakeLemmas.{no_order}
use Rattle.myi_keycache.proofs.blocks.Blocks.new.Goals as goal

pub invariant_of-result : goal.invariant_of-result
invariant_of-result c =
    no_order c.args.setup c.new.result.entries _ c.new.ensures.empty c.in_ok-new.ensures c.requires
