use Rattle.std.proofs.Common.{◌∙◌, ap}
use Rattle.std.specs.Ordering.{nat_cmp}
use Rattle.std.specs.BTreeMap.{insert_entry}
use Rattle.myi_chain.specs.Chain.{ranges_at}
use Rattle.myi_chain.proofs.JoinsLemmas.{more_far, first_apart, row_added, row_put}
use Rattle.myi_chain.proofs.joins.add_row.Goals as goal

pub put_all-requires-clause-apart : goal.put_all-requires-clause-apart
put_all-requires-clause-apart c = more_far (c.args.at, c.args.to) c.args.far.now.entries (ranges_at c.args.more.now) c.requires.apart

pub grow-requires-clause-apart : goal.grow-requires-clause-apart
grow-requires-clause-apart c = first_apart c.args.at c.args.to c.args.far.now.entries c.put_all.new.far.entries (ranges_at c.args.more.now) c.requires.apart c.in_ok-put_all.ensures.same

pub returns-then-grow-clause-same : goal.returns-then-grow-clause-same
returns-then-grow-clause-same c = row_added c.args.to (c.args.at, c.args.to) c.args.far.now.entries c.put_all.new.far.entries c.grow.new.far.entries (ranges_at c.args.more.now) c.in_ok-put_all.ensures.same (c.grow.ensures.grown c.if-grow.true)

pub returns-in-Ok-clause-same : goal.returns-in-Ok-clause-same
returns-in-Ok-clause-same c =
    let more = ranges_at c.args.more.now in
    let put = c.in_ok-put_all.ensures in
    let apart = first_apart c.args.at c.args.to c.args.far.now.entries c.put_all.new.far.entries more c.requires.apart put.same in
    (row_put c.args.at c.args.to c.args.far.now.entries c.put_all.new.far.entries c.insert.new.self.entries more put.order apart c.requires.first put.same (c.in-Ok.ensures.entries ∙ ap (λ es. insert_entry nat_cmp es c.args.at c.args.to) (c.grow.ensures.same c.if-grow.false))).1

pub returns-in-Ok-clause-order : goal.returns-in-Ok-clause-order
returns-in-Ok-clause-order c =
    let more = ranges_at c.args.more.now in
    let put = c.in_ok-put_all.ensures in
    let apart = first_apart c.args.at c.args.to c.args.far.now.entries c.put_all.new.far.entries more c.requires.apart put.same in
    (row_put c.args.at c.args.to c.args.far.now.entries c.put_all.new.far.entries c.insert.new.self.entries more put.order apart c.requires.first put.same (c.in-Ok.ensures.entries ∙ ap (λ es. insert_entry nat_cmp es c.args.at c.args.to) (c.grow.ensures.same c.if-grow.false))).0
