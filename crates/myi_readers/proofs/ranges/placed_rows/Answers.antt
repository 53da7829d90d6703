use Rattle.std.proofs.Common.{rules, ◌≡◌, List, map, sym, ◌∙◌, ap}
use Rattle.std.proofs.lemmas.List.{map-id}
use Rattle.std.proofs.lemmas.Iterator.Consumers.{YieldsList-end}
use Rattle.std.proofs.lemmas.Iterator.Adapters.{YieldsList-from_vec}
use Rattle.myi_readers.specs.declared.keyed_row.KeyedRow.{KeyedRow}
use Rattle.myi_readers.specs.KeyedRows.{placed_of}
use Rattle.myi_readers.proofs.ranges.placed_rows.Goals as goal

pub returns : goal.returns
returns c =
    let whole = YieldsList-end (YieldsList-from_vec {s = c.into_iter-one-iterator.result} c.args.found.items (search rules) (search rules)) c.loop-one.yielded c.loop-one.one-iterator c.loop-one.yielded_by c.next.result c.next.new.self c.in-None.is c.next.ensures.steps in
    let same : c.loop-one.yielded ≡ c.args.found.items = sym (map-id c.loop-one.yielded) ∙ whole.0 in
    c.loop-one.invariant.2 ∙ ap (λ (l : List KeyedRow). map placed_of l) same
