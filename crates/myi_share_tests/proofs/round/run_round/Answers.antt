use Rattle.std.proofs.Common.{rules, ◌≡◌, ◌∙◌, refl, ap, sym, subst, get_or, Option, Some, IfSome}
use Rattle.case_lines.specs.declared.untold.UntoldReader.{UntoldReader}
use Rattle.myi_inserter.specs.declared.file_inserter.Inserter.{Inserter}
use Rattle.myi_share_tests.proofs.Parts.{all_of_part, same_part}
use Rattle.myi_share_tests.specs.Parts.{Part, of_inserter, of_reader, IsPutPart}
use Rattle.myi_share_tests.specs.Jobs.{part_of}
use Rattle.myi_share_tests.proofs.round.run_round.Goals as goal

pub close-requires-clause-parts : goal.close-requires-clause-parts
close-requires-clause-parts g c κs =
    let was = c.in-Ok.ensures.parts in
    let part = of_inserter c.in-Ok.field-0.inserter.table in
    let all = all_of_part part_of part c.in_ok-jobs.jobs.items c.run_them.new.jobs.items c.run_them.ensures c.in_ok-jobs.ensures in
    let left = c.in_ok-inserter.ensures part all in
    let here : c.in_ok-inserter.field-0.inserter ≡ Some c.in_ok-inserter-2.inserter = search rules in
    let one : IsPutPart part c.in_ok-inserter-2.inserter.table = subst (λ (o : Option (Inserter UntoldReader)). IfSome o (λ i. IsPutPart part i.table)) here left.0 in (
      one.1.0,
      record {
        rest = refl;
        whole = was.whole;
        kept = was.kept;
        inserter = record {
          ready = one.1.1;
          defs = ap (λ (p : Part). p.defs) one.0 ∙ was.inserter.defs;
          tail = refl;
          number = refl;
          stands = λ m is. absurd cc;
          can = λ m is. absurd cc;
          untold = λ _. refl;
        };
        readers = λ k d h.
            let r = left.1 k d h in
            record {
              ready = r.1;
              defs = ap (λ (p : Part). p.defs) r.0 ∙ was.inserter.defs;
              tail = ap (λ (p : Part). p.tail) r.0 ∙ sym (ap (λ (p : Part). p.tail) one.0);
              number = ap (λ (p : Part). p.number) r.0 ∙ sym (ap (λ (p : Part). p.number) one.0);
              stands = λ m is. absurd cc;
              untold = λ _. refl;
            };
      },
    )

pub jobs_of-requires-clause-readers : goal.jobs_of-requires-clause-readers
jobs_of-requires-clause-readers g c = λ k d h.
    let was = c.in-Ok.ensures.parts in
    let r = was.readers k d h in
    let reader = (get_or c.in-Ok.field-0.readers.items k d).table in
    (same_part (of_reader reader) (of_inserter c.in-Ok.field-0.inserter.table) (r.defs ∙ sym was.inserter.defs) r.tail r.number, r.ready)
