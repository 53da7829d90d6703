use Rattle.std.proofs.Common.{◌≡◌, List, take, sym, ap, subst, ◌∙◌}
use Rattle.myi_table.specs.Table.{OpenTable}
use Rattle.myi_merge.specs.Merged.{OpenMerge, IsMerge, AreWhole, FirstBroken}
use Rattle.myi_merge.proofs.ScanLemmas.{broken_at}
use Rattle.myi_merge.proofs.merge.Merge.refuse_reading.Goals as goal

pub returns-in-Some-clause-first : goal.returns-in-Some-clause-first
returns-in-Some-clause-first c =
    let ts : List OpenTable = c.deref-table-items.result.now in
    let t : OpenTable = c.table-item.result in
    let same : ts ≡ c.args.self.now.tables = c.deref-table-items.ensures.value ∙ ap (λ (w : OpenMerge). w.tables) c.self.view_is in
    let whole : AreWhole (take c.loop-table.table-index ts) = subst (λ (us : List OpenTable). AreWhole (take c.loop-table.table-index us)) (sym same) c.loop-table.invariant in
    subst (λ (us : List OpenTable). FirstBroken us c.in-Some.cause) same
    (broken_at ts c.loop-table.table-index t c.in-Some.cause c.loop-table-test.true whole (ap (λ (u : OpenTable). u.broken) (sym c.table-item.is) ∙ sym c.broken.ensures ∙ c.in-Some.is))

pub returns-in-Some-clause-sound : goal.returns-in-Some-clause-sound
returns-in-Some-clause-sound c = subst IsMerge c.self.view_is c.self.invariant

pub returns-clause-sound : goal.returns-clause-sound
returns-clause-sound c = subst IsMerge c.self.view_is c.self.invariant
