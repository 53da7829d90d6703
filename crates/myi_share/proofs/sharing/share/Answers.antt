use Rattle.std.proofs.Common.{refl}
use Rattle.myi_share.proofs.sharing.share.Goals as goal

pub returns-in-Ok-clause-parts : goal.returns-in-Ok-clause-parts
returns-in-Ok-clause-parts g c = record {
  rest = refl;
  whole = c.in-Ok.ensures.parts.whole;
  kept = c.in-Ok.ensures.parts.kept;
  inserter = c.in-Ok.ensures.parts.inserter;
  readers = c.in-Ok.ensures.parts.readers;
}
