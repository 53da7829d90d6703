use Rattle.std.proofs.Common.{refl, arith}
use Rattle.myi_readers.proofs.IndexLemmas.{no_index}
use Rattle.myi_readers.proofs.known_keys.KnownKeys.new.Goals as goal

pub returns : goal.returns
returns c = λ d k packed. no_index d k c.args.end packed (record { places = c.new.result; count = 0; end = c.args.end }) refl refl (omega (arith, c.ranges.end.fits)) c.new.ensures
