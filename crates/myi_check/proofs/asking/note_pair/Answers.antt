use Rattle.std.proofs.Common.{refl}
use Rattle.myi_check.specs.Asked.{OfKey}
use Rattle.myi_check.proofs.AskedWalks.{pair_asked}
use Rattle.myi_check.proofs.asking.note_pair.Goals as goal

pub note_next-requires : goal.note_next-requires
note_next-requires g c = c.in_ok-is_next.ensures.few c.if-branch.true

pub returns-then-branch-clause-asks : goal.returns-then-branch-clause-asks
returns-then-branch-clause-asks g c = λ good busy all left a.
    pair_asked (OfKey (g.F.Files.holds c.args.files.now) c.args.key.now) c.args.key.now.tree busy c.args.walk.now (record c.args.walk.now { met = c.note_next.new.self }) c.args.pair c.args.at all left refl refl refl c.note_next.ensures (c.in_ok-is_next.ensures.next c.if-branch.true) a
