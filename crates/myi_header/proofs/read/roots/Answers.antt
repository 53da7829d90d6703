use Rattle.myi_header.specs.StateOf.{roots_in}
use Rattle.myi_header.proofs.RootLaws.{roots_step}
use Rattle.myi_header.proofs.read.roots.Goals as goal

pub loop-key-preserved : goal.loop-key-preserved
loop-key-preserved c =
    rw (c.in_ok-push.ensures.items, c.pointer_of.ensures, c.u64_at.ensures) (roots_step c.loop-key.roots.items c.args.keys c.loop-key.key c.args.bytes.now (roots_in c.args.keys c.args.bytes.now) c.loop-key-test.true c.loop-key.invariant)
