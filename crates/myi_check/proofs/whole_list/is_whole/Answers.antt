use Rattle.std.proofs.Common.{◌≡◌, ◌∙◌, ℕ, true, List, length, sym, ap, subst}
use Rattle.std.proofs.lemmas.Result.{IfOk-weaker}
use Rattle.myi_base.specs.Holding.{bytes_of}
use Rattle.myi_check.specs.ListWalk.{MeetsEach, OfRows, AreNamedIn}
use Rattle.myi_check.proofs.UnmetLemmas.{whole_items}
use Rattle.myi_check.proofs.WholeLemmas.{some_holds, good}
use Rattle.myi_check.proofs.whole_list.is_whole.Goals as goal

pub returns-clause-whole : goal.returns-clause-whole
returns-clause-whole g c =
    let defs = c.args.defs.now in
    let deleted = c.args.deleted.now in
    let numbers = c.in-Some-2.numbers in
    let marks = c.meets_each.new.numbers in
    let value = c.deref_mut.ensures.value in
    let nexts = some_holds c.in_ok-numbers.field-0 numbers _ c.in-Some-2.is c.in_ok-numbers.ensures.next in
    let as_many : length marks ≡ length numbers.items = c.meets_each.ensures.long ∙ ap (λ (ns : List ℕ). length ns) value in
    let are_marks : c.deref.result.now ≡ marks = c.deref.ensures.value ∙ whole_items marks numbers.items numbers.len numbers.ok.0 as_many in
    let met : c.meets_each.result ≡ true = c.if-not-meets_each.false in
    let each = subst (λ (ns : List ℕ). MeetsEach c.unit_of-unit.result deleted ns marks c.in-Some.first) value (c.meets_each.ensures.each met) in
    IfOk-weaker c.are_named.result _ _
    (λ r was named m held. let rows = bytes_of c.args.rows.now m in
    good defs c.args.end c.unit_of-unit.result deleted numbers.items marks c.in-Some.first c.args.head rows c.unit_of-unit.ensures.unit (sym c.widened.ensures ∙ c.in-Some.ensures.place) each (nexts m held)
    (subst (λ (ms : List ℕ). OfRows defs c.args.end deleted (AreNamedIn defs deleted ms) rows) are_marks (was named m (c.in_ok-numbers.ensures.holds ∙ held))))
    c.are_named.ensures.named
