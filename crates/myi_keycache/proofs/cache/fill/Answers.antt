use Rattle.std.proofs.Common.{arith}
use Rattle.myi_base.specs.Holding.{bytes_of}
use Rattle.myi_keycache.proofs.ReadLemmas.{filled_page, short_page}
use Rattle.myi_keycache.proofs.cache.fill.Goals as goal

pub returns-then-count-size-clause-short : goal.returns-then-count-size-clause-short
returns-then-count-size-clause-short g c p e = (cc, λ m held. short_page (bytes_of c.args.name.now m) c.args.into.now c.args.at c.in_ok-count.count c.if-count-size.true (c.in_ok-count.ensures.told m held))

pub returns-clause-page : goal.returns-clause-page
returns-clause-page g c m held = filled_page (bytes_of c.args.name.now m) c.args.into.now c.read_at.new.into c.args.at c.in_ok-count.count (omega arith) (c.in_ok-count.ensures.told m held) (c.in_ok-count.ensures.bytes m held)
