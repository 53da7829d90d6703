use Rattle.std.proofs.Common.{Option, arith, slice_index_or, sym, subst, ◌∙◌}
use Rattle.myi_base.specs.Holding.{Holding}
use Rattle.myi_adapters.specs.TwoReaders.{told_by}
use Rattle.myi_table.specs.Table.{IsKept}
use Rattle.myi_tail.specs.Seats.{TailId, IsNew}
use Rattle.myi_share.proofs.PartLemmas.{of_its_sharing, of_that_sharing, still_kept}
use Rattle.myi_share.proofs.CloseLemmas.{counts_up}
use Rattle.myi_share.proofs.sharing.begin_sharing.Goals as goal

pub returns-in_err-flush-clause-kept : goal.returns-in_err-flush-clause-kept
returns-in_err-flush-clause-kept g c = still_kept (g.F.Files.holds c.args.files.now) (g.F.Files.holds c.flush.new.files) c.args.table.now c.flush.new.self c.requires.whole c.requires.kept c.flush.ensures.still c.flush.ensures.others.untold

pub returns-in_err-tail-clause-kept : goal.returns-in_err-tail-clause-kept
returns-in_err-tail-clause-kept g c = still_kept (g.F.Files.holds c.args.files.now) (g.F.Files.holds c.flush.new.files) c.args.table.now c.flush.new.self c.requires.whole c.requires.kept c.flush.ensures.still c.flush.ensures.others.untold

pub returns-in_err-parts-clause-kept : goal.returns-in_err-parts-clause-kept
returns-in_err-parts-clause-kept g c =
    subst (λ (o : Option Holding). IsKept o c.flush.new.self) (sym c.parts_of.ensures.holds)
    (still_kept (g.F.Files.holds c.args.files.now) (g.F.Files.holds c.flush.new.files) c.args.table.now c.flush.new.self c.requires.whole c.requires.kept c.flush.ensures.still c.flush.ensures.others.untold)

pub returns-in_err-parts-clause-still : goal.returns-in_err-parts-clause-still
returns-in_err-parts-clause-still g c = λ m told s hold. let h = c.flush.ensures.still m told s hold in (h.0, c.parts_of.ensures.holds ∙ h.1, h.2)

pub returns-clause-still : goal.returns-clause-still
returns-clause-still g c = λ m told s hold. let h = c.flush.ensures.still m told s hold in (h.0, c.parts_of.ensures.holds ∙ h.1, h.2)

pub returns-clause-kept : goal.returns-clause-kept
returns-clause-kept g c =
    subst (λ (o : Option Holding). IsKept o c.flush.new.self) (sym c.parts_of.ensures.holds)
    (still_kept (g.F.Files.holds c.args.files.now) (g.F.Files.holds c.flush.new.files) c.args.table.now c.flush.new.self c.requires.whole c.requires.kept c.flush.ensures.still c.flush.ensures.others.untold)

pub returns-clause-parts : goal.returns-clause-parts
returns-clause-parts g c =
    let p = c.in_ok-parts.parts in
    let i = c.in_ok-parts.ensures.inserter in
    record {
      whole = c.flush.ensures.whole;
      kept = subst (λ (o : Option Holding). IsKept o c.flush.new.self) (sym c.parts_of.ensures.holds)
          (still_kept (g.F.Files.holds c.args.files.now) (g.F.Files.holds c.flush.new.files) c.args.table.now c.flush.new.self c.requires.whole c.requires.kept c.flush.ensures.still c.flush.ensures.others.untold);
      inserter = of_its_sharing _ c.args.number c.in_ok-tail.tail.appender.tail _ _ (told_by g.F.Reader.FileReader.holds p.inserter.files) p.inserter.table _ c.in_ok-parts.ensures.holds i;
      readers = λ k d lt. of_that_sharing _ c.args.number c.in_ok-tail.tail.appender.tail _ _ _ p.inserter.table _ c.in_ok-parts.ensures.holds i.tail i.number (c.in_ok-parts.ensures.readers k d lt);
    }

pub returns-clause-new : goal.returns-clause-new
returns-clause-new g c k d lt = subst (λ (t : TailId). IsNew t (slice_index_or c.in_ok-parts.parts.readers.items k d).table.seat) (sym c.in_ok-parts.ensures.inserter.tail) (c.in_ok-parts.ensures.new k d lt)

pub returns-clause-cause : goal.returns-clause-cause
returns-clause-cause g c = record { later = omega (arith, c.flush.ensures.cause.later, c.parts_of.ensures.cause.later); cause = λ e. absurd cc }

pub returns-in_err-flush-clause-counts : goal.returns-in_err-flush-clause-counts
returns-in_err-flush-clause-counts g c = counts_up c.args.table.now c.flush.new.self c.flush.ensures.counted c.flush.ensures.same.added

pub returns-in_err-tail-clause-counts : goal.returns-in_err-tail-clause-counts
returns-in_err-tail-clause-counts g c = counts_up c.args.table.now c.flush.new.self c.flush.ensures.counted c.flush.ensures.same.added

pub returns-in_err-parts-clause-counts : goal.returns-in_err-parts-clause-counts
returns-in_err-parts-clause-counts g c = counts_up c.args.table.now c.flush.new.self c.flush.ensures.counted c.flush.ensures.same.added

pub returns-clause-counts : goal.returns-clause-counts
returns-clause-counts g c = counts_up c.args.table.now c.flush.new.self c.flush.ensures.counted c.flush.ensures.same.added
