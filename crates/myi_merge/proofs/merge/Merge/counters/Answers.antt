use Rattle.std.proofs.Common.{rules, ◌≡◌, List, reverse, ap, ◌∙◌, Bor}
use Rattle.std.proofs.lemmas.Iterator.Adapters.{YieldsList-from_rev_slice}
use Rattle.std.proofs.lemmas.Iterator.Consumers.{YieldsList-end}
use Rattle.std.proofs.lemmas.List.{reverse-reverse}
use Rattle.myi_table.specs.Table.{OpenTable}
use Rattle.myi_merge.specs.Merged.{OpenMerge, counted_by}
use Rattle.myi_merge.proofs.ScanLemmas.{map_reverse}
use Rattle.myi_merge.proofs.merge.Merge.counters.Goals as goal

pub returns-clause-sum : goal.returns-clause-sum
returns-clause-sum c =
    let ts : List OpenTable = c.deref.result.now in
    let all = YieldsList-end (YieldsList-from_rev_slice {s = c.into_iter-table-iterator.result} ts (search rules)) c.loop-table.yielded c.loop-table.table-iterator c.loop-table.yielded_by c.next.result c.next.new.self c.in-None.is c.next.ensures.steps in
    let same : ts ≡ c.args.self.now.tables = c.deref.ensures.value ∙ ap (λ (w : OpenMerge). w.tables) c.self.view_is in
    c.loop-table.invariant.2 ∙ ap counted_by (map_reverse (λ (t : Bor OpenTable). t.now) c.loop-table.yielded ∙ ap reverse all.0 ∙ reverse-reverse ts ∙ same)
