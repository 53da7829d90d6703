use Rattle.std.proofs.Common.{ℕ, ◌++◌, List, Option, map, refl, sym, ap, subst, ◌∙◌, arith}
use Rattle.myi_base.specs.Holding.{Holding, IfTold}
use Rattle.myi_pack.specs.Packed.{Values}
use Rattle.myi_data.specs.Scanning.{TableScan, IsAsKnown}
use Rattle.myi_tablestate.specs.Listed.{placed}
use Rattle.myi_table.specs.Reading.{rows_to_come, IsFirst}
use Rattle.myi_readers.specs.Placed.{placed_before}
use Rattle.myi_readers.proofs.ScanLemmas.{before_more, before_all}
use Rattle.myi_readers.proofs.reader.TableReader.base_rows.Goals as goal

pub loop-rows-init : goal.loop-rows-init
loop-rows-init g c = record {
  test = ap (λ (s : TableScan). s.test) c.in_ok-scan.ensures.scan;
  current = λ m held. let k = c.requires.kept m held in (c.in_ok-scan.ensures.all m k.0 k.1 k.2).known;
  holds = refl;
  later = omega arith;
  so_far = λ m held own s h. ap (λ (rows : List (ℕ × Values)). rows ++ placed_before c.args.below (rows_to_come c.in_ok-scan.scan m)) c.new-rows.ensures.items ∙ ap (placed_before c.args.below) (c.in_ok-scan.ensures.all m own s h).rows;
}

pub loop-rows-preserved : goal.loop-rows-preserved
loop-rows-preserved g c =
    let was = c.loop-rows.invariant in
    let new = c.next_row.new.scan in
    record {
      test = c.in_ok-row.ensures.same.test ∙ was.test;
      current = subst (λ (told : Option Holding). IfTold told (IsAsKnown new)) (sym c.next_row.ensures.holds) c.in_ok-row.ensures.current;
      holds = c.next_row.ensures.holds ∙ was.holds;
      later = omega (arith, was.later, c.next_row.ensures.cause.later);
      so_far = λ m held own s h.
          let first = subst (λ (o : Option (ℕ × Values)). IsFirst (rows_to_come c.loop-rows.scan m) (rows_to_come new m) o) c.in-Some.is (c.in_ok-row.ensures.row m (was.holds ∙ held)) in
          before_more c.args.below c.loop-rows.rows.items c.push_before.new.rows.items (map placed s.rows) (rows_to_come c.loop-rows.scan m) (rows_to_come new m) c.in-Some.row (was.so_far m held own s h) first c.in_ok-push_before.ensures;
    }

pub returns-clause-rows : goal.returns-clause-rows
returns-clause-rows g c = λ m held own s h.
    let was = c.loop-rows.invariant in
    let none = subst (λ (o : Option (ℕ × Values)). IsFirst (rows_to_come c.loop-rows.scan m) (rows_to_come c.next_row.new.scan m) o) c.in_default.is (c.in_ok-row.ensures.row m (was.holds ∙ held)) in
    before_all c.args.below c.loop-rows.rows.items (map placed s.rows) (rows_to_come c.loop-rows.scan m) (was.so_far m held own s h) none
