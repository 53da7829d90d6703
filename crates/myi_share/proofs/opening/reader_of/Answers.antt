use Rattle.std.proofs.Common.{ap}
use Rattle.myi_tail.specs.Seats.{TailReader}
use Rattle.myi_share.proofs.opening.reader_of.Goals as goal

pub returns-clause-of : goal.returns-clause-of
returns-clause-of g c =
    let r = c.in_ok-table.ensures in
    record {
      ready = r.ready;
      defs = r.defs;
      tail = ap (λ (s : TailReader). s.tail) r.seat;
      number = r.number;
      stands = λ m told s hold.
          let o = c.in_ok-files.ensures.told m told in
          let b = r.base s m o.0 hold c.requires.written o.2 o.3 in
          (o.0, o.1, b.0, b.1);
      untold = c.in_ok-files.ensures.untold;
    }
