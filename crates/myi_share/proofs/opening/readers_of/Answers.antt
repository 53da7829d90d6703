use Rattle.std.proofs.Common.{rules, arith, length-append, [], ◌∷◌, sym, subst, ◌∙◌}
use Rattle.std.proofs.lemmas.Iterator.Consumers.{YieldsList-turn}
use Rattle.std.proofs.lemmas.Iterator.Adapters.{YieldsList-from_vec}
use Rattle.myi_adapters.specs.TwoReaders.{told_by}
use Rattle.myi_tail.specs.Seats.{IsNew}
use Rattle.myi_share.specs.Sharing.{IsReaderOf}
use Rattle.myi_share.proofs.PartLemmas.{one_more, sharing_at, new_reader}
use Rattle.myi_share.proofs.opening.readers_of.Goals as goal

pub loop-seat-preserved : goal.loop-seat-preserved
loop-seat-preserved g c =
    let was = c.loop-seat.invariant in
    let t = YieldsList-turn (YieldsList-from_vec {s = c.into_iter-seat-iterator.result} c.args.seats.items (search rules) (search rules)) c.loop-seat.yielded c.loop-seat.seat-iterator c.loop-seat.yielded_by c.next.result c.next.new.self c.in-Some.seat c.in-Some.is c.next.ensures.steps in
    let shows = g.F.Reader.FileReader.holds in
    let told = g.F.Files.holds c.args.files.now in
    let reader = c.in_ok-reader.reader in (
      tt,
      tt,
      c.in_ok-reader.ensures.holds ∙ was.2,
      omega (arith, was.3, c.in_ok-reader.ensures.cause.later),
      omega (arith, was.4, length-append c.loop-seat.yielded (c.in-Some.seat ∷ []), c.in_ok-push.ensures.len),
      λ tail all.
          one_more (λ r. IsReaderOf (sharing_at c.args.table.now c.args.number tail) told (told_by shows r.files) r.table × IsNew tail r.table.seat) c.loop-seat.readers.items c.push.new.self.items reader (search rules) (was.5 tail all)
          (new_reader c.args.table.now c.args.number tail c.in-Some.seat (g.F.Files.holds c.loop-seat.files) told (told_by shows reader.files) reader.table (subst (IsNew tail) (sym t.1) (all _ c.in-Some.seat t.0)) was.2 c.in_ok-reader.ensures.seat c.in_ok-reader.ensures.of),
    )

pub returns-clause-of : goal.returns-clause-of
returns-clause-of g c tail all k d lt = (c.loop-seat.invariant.5 tail all k d lt).0

pub returns-clause-new : goal.returns-clause-new
returns-clause-new g c tail all k d lt = (c.loop-seat.invariant.5 tail all k d lt).1
