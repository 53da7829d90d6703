use Rattle.std.proofs.Common.{arith, [], Option, subst}
use Rattle.myi_base.specs.Holding.{Holding}
use Rattle.myi_adapters.specs.TwoReaders.{told_by}
use Rattle.myi_share.specs.Sharing.{IsInserterOf}
use Rattle.myi_share.proofs.PartLemmas.{sharing_at}
use Rattle.myi_share.proofs.opening.parts_of.Goals as goal

pub returns-clause-inserter : goal.returns-clause-inserter
returns-clause-inserter g c =
    let i = c.in_ok-inserter.inserter in
    subst (λ (told : Option Holding). IsInserterOf (sharing_at c.args.table.now c.args.number c.args.tail.appender.tail) told (told_by g.F.Reader.FileReader.holds i.files) i.table []) c.in_ok-readers.ensures.holds c.in_ok-inserter.ensures.of

pub returns-clause-readers : goal.returns-clause-readers
returns-clause-readers g c = c.in_ok-readers.ensures.of c.args.tail.appender.tail c.requires.new

pub returns-clause-new : goal.returns-clause-new
returns-clause-new g c = c.in_ok-readers.ensures.new c.args.tail.appender.tail c.requires.new

pub returns-clause-cause : goal.returns-clause-cause
returns-clause-cause g c = record { later = omega (arith, c.in_ok-readers.ensures.cause.later, c.in_ok-inserter.ensures.cause.later); cause = λ e. absurd cc }
