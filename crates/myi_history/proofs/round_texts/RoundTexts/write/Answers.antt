use Rattle.std.proofs.Common.{List, ℕ, length, sym, subst}
use Rattle.std.specs.List.{AllByRecursion}
use Rattle.std.proofs.lemmas.Result.{on_ok_weaker, on_err_weaker}
use Rattle.myi_base.specs.Holding.{IfTold}
use Rattle.myi_base.specs.Output.{Appends, AppendsPart}
use Rattle.myi_history.specs.declared.round_texts.Said.{Said}
use Rattle.myi_history.specs.RoundTexts.{IsWithin}
use Rattle.myi_history.proofs.LineOrderLemmas.{permuted_all, written_in_order, written_each}
use Rattle.myi_history.proofs.round_texts.RoundTexts.write.Goals as goal

pub write_parts-written-requires : goal.write_parts-written-requires
write_parts-written-requires g c = record {
  within = subst (λ (b : List ℕ). AllByRecursion (IsWithin (length b)) c.deref-2.result.now) (sym c.deref.ensures.value)
      (subst (λ (xs : List Said). AllByRecursion (IsWithin (length c.self.inside.bytes.items)) xs) (sym c.deref-2.ensures.value)
      (permuted_all (IsWithin (length c.self.inside.bytes.items)) c.self.inside.said.items c.sort_by_line.new.said.items c.sort_by_line.ensures.same c.self.invariant));
}

pub invariant_of-self : goal.invariant_of-self
invariant_of-self g c = permuted_all (IsWithin (length c.self.inside.bytes.items)) c.self.inside.said.items c.sort_by_line.new.said.items c.sort_by_line.ensures.same c.self.invariant

pub returns-clause-ok : goal.returns-clause-ok
returns-clause-ok g c =
    let v = g.O.Sink.written c.args.out.now in
    let u = g.O.Sink.written c.write_parts-written.new.out in
    on_ok_weaker c.write_parts-written.result (λ said own.
    subst (λ (t : List ℕ). IfTold v (Appends t u)) (written_in_order c.self.inside.bytes.items c.deref.result.now c.self.inside.said.items c.sort_by_line.new.said.items c.deref-2.result.now c.args.self.now c.sort_by_line.ensures.same c.sort_by_line.ensures.order c.self.view_is c.deref.ensures.value c.deref-2.ensures.value own) said) c.write_parts-written.ensures.ok

pub returns-clause-err : goal.returns-clause-err
returns-clause-err g c =
    let v = g.O.Sink.written c.args.out.now in
    let u = g.O.Sink.written c.write_parts-written.new.out in
    on_err_weaker c.write_parts-written.result (λ part own.
    subst (λ (t : List ℕ). IfTold v (AppendsPart t u)) (written_in_order c.self.inside.bytes.items c.deref.result.now c.self.inside.said.items c.sort_by_line.new.said.items c.deref-2.result.now c.args.self.now c.sort_by_line.ensures.same c.sort_by_line.ensures.order c.self.view_is c.deref.ensures.value c.deref-2.ensures.value own) part) c.write_parts-written.ensures.err

pub returns-clause-each : goal.returns-clause-each
returns-clause-each g c =
    on_ok_weaker c.write_parts-written.result (λ said before told.
    written_each c.self.inside.bytes.items c.deref.result.now c.self.inside.said.items c.sort_by_line.new.said.items c.deref-2.result.now c.args.self.now before (g.O.Sink.written c.write_parts-written.new.out) c.sort_by_line.ensures.same c.self.view_is c.deref.ensures.value c.deref-2.ensures.value (said before told)) c.write_parts-written.ensures.ok
