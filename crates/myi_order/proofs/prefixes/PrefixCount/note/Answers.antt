use Rattle.std.proofs.Common.{◌∙◌, ◌+◌, refl, ap, get_or, arith}
use Rattle.myi_order.specs.Shared.{ended}
use Rattle.myi_order.proofs.PrefixCountLaws.{note_counted, whole}
use Rattle.myi_order.proofs.prefixes.PrefixCount.note.Goals as goal

pub returns-clause-counted : goal.returns-clause-counted
returns-clause-counted c =
    let old = c.args.self.now in
    let counts = c.count_longer.new.counts in
    let same = c.deref_mut.ensures.value in
    note_counted old _ c.args.pair c.shared_by_last-shared.result counts (whole counts old.ended.items old.ended.len old.ended.ok.0 (omega (arith, c.deref_mut.ensures.len, old.ended.ok.0))) c.in_ok-self.ensures refl c.shared_by_last-shared.ensures (omega (arith, c.deref_mut.ensures.len, old.ended.ok.0))
    (λ j few. c.count_longer.ensures j (omega (arith, few, c.deref_mut.ensures.len, old.ended.ok.0)) ∙ ap (λ xs. get_or xs j 0 + ended (j + 1) c.shared_by_last-shared.result) same)
