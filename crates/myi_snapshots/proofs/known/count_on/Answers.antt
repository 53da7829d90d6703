use Rattle.std.proofs.Common.{◌+◌, drop, refl, ◌∙◌, arith}
use Rattle.std.proofs.lemmas.List.Sums.{prefix_len-le-length}
use Rattle.myi_snapshots.specs.Known.{is_row}
use Rattle.myi_snapshots.proofs.CountLemmas.{next_passes, counted_left, told_more, told_last}
use Rattle.myi_snapshots.proofs.known.count_on.Goals as goal

pub loop-size-init : goal.loop-size-init
loop-size-init c =
    let p = is_row c.args.defs.now in
    let rows = c.args.rows.now.rows in
    (omega (arith, c.requires.counted, prefix_len-le-length p rows), omega (arith, c.ranges.end.fits), counted_left p rows c.args.counted c.requires.counted, refl)

pub loop-size-preserved : goal.loop-size-preserved
loop-size-preserved c =
    let p = is_row c.args.defs.now in
    let rows = c.args.rows.now.rows in
    let inv = c.loop-size.invariant in
    let e = c.in-Some.ensures.size in
    let o = next_passes p rows c.loop-size.count (c.loop-size.count + 1) refl e.0 e.1 in
    let counted = inv.2 in
    let one = o.0 in
    let next = c.saturating_add-behind.ensures in (
      omega (arith, e.0),
      omega arith,
      omega arith,
      told_more c.args.defs.now p rows c.loop-size.count (c.loop-size.count + 1) c.loop-size.behind c.in-Some.size c.saturating_add-behind.result refl e.0 e.1 e.2 c.saturating_add-behind.ensures ∙ inv.3,
    )

pub overflow_add-count : goal.overflow_add-count
overflow_add-count c = omega (arith, c.in-Some.ensures.size.0, c.in-Some.ensures.few)

pub returns-clause-count : goal.returns-clause-count
returns-clause-count c = let inv = c.loop-size.invariant in let counted = inv.2 in let none = c.in_default.ensures.size in omega arith

pub returns-clause-end : goal.returns-clause-end
returns-clause-end c =
    let inv = c.loop-size.invariant in
    told_last c.args.defs.now (is_row c.args.defs.now) (drop c.loop-size.count c.args.rows.now.rows) c.loop-size.behind c.in_default.ensures.size inv.1 ∙ inv.3
