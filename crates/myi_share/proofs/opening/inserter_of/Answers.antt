use Rattle.std.proofs.Common.{ap}
use Rattle.myi_tail.specs.Seats.{Appending}
use Rattle.myi_share.proofs.opening.inserter_of.Goals as goal

pub returns-clause-of : goal.returns-clause-of
returns-clause-of g c =
    let i = c.in_ok-table.ensures in
    record {
      ready = i.ready;
      defs = i.defs;
      tail = ap (λ (a : Appending). a.tail) i.appender;
      number = i.number;
      stands = λ m told s hold.
          let o = c.in_ok-files.ensures.told m told in
          let b = i.base s m o.0 hold c.requires.written o.2 o.3 in
          (o.0, o.1, b.0, b.1);
      can = λ m told s hold. tt;
      untold = c.in_ok-files.ensures.untold;
    }
