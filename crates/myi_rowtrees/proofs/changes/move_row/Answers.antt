use Rattle.std.proofs.Common.{sym, ◌∙◌, arith}
use Rattle.std.proofs.lemmas.Result.{err_from_is_err_and}
use Rattle.myi_rowtrees.proofs.EachLemmas.{same_count, same_pointers, room_at, room_of}
use Rattle.myi_rowtrees.proofs.MoveLemmas.{move_step, move_never, move_whole}
use Rattle.myi_search.proofs.CallerLemmas.{counts_on}
use Rattle.myi_rowtrees.proofs.ToldLemmas.{if_err, others_follow}
use Rattle.myi_rowtrees.proofs.changes.move_row.Goals as goal

pub move_pair-requires-clause-row : goal.move_pair-requires-clause-row
move_pair-requires-clause-row g c κs within = λ d.
    let p = c.index-new-i.result in
    let count = same_count c.args.trees.now.places c.loop-i.trees.places c.loop-i.invariant.kinds in
    let room = room_of c.args.new.now c.loop-i.i p c.loop-i.trees.places (same_pointers c.args.trees.now.places c.loop-i.trees.places c.args.new.now c.loop-i.invariant.kinds c.requires.rows) c.loop-i-test.true (sym c.index-new-i.is) in
    room_at p.row c.loop-i.i c.loop-i.trees.places d room (omega (arith, c.loop-i-test.true, c.requires.each, count))

pub returns-in_err-move_pair-clause-never : goal.returns-in_err-move_pair-clause-never
returns-in_err-move_pair-clause-never g c =
    let e = err_from_is_err_and c.from_residual.result c.from_residual.ensures.1 in
    if_err c.from_residual.result e.0 _ e.1
    (λ p d. move_never c.args.trees.now c.loop-i.trees (g.F.Files.holds c.args.files.now) (g.F.Files.holds c.loop-i.files) c.args.old.now c.args.new.now c.loop-i.i c.loop-i.invariant.moved (c.in_err-move_pair.ensures.never p (sym e.2 ∙ d)))

pub returns-in_err-move_pair-clause-counted : goal.returns-in_err-move_pair-clause-counted
returns-in_err-move_pair-clause-counted g c = counts_on c.args.trees.now.cache c.loop-i.trees.cache c.move_pair.new.trees.cache c.loop-i.invariant.counted c.in_err-move_pair.ensures.counted

pub loop-i-preserved : goal.loop-i-preserved
loop-i-preserved g c =
    let k = c.loop-i.invariant in
    let n = c.in_ok-move_pair.ensures in
    record {
      moved = move_step c.args.trees.now c.loop-i.trees c.move_pair.new.trees (g.F.Files.holds c.args.files.now) (g.F.Files.holds c.loop-i.files) (g.F.Files.holds c.move_pair.new.files) c.args.old.now c.args.new.now c.loop-i.i c.index-old-i.result c.index-new-i.result k.moved n.moved c.loop-i-test.true c.requires.before c.requires.each (sym c.index-old-i.is) (sym c.index-new-i.is);
      kinds = n.kinds ∙ k.kinds;
      whole = n.whole;
      counted = counts_on c.args.trees.now.cache c.loop-i.trees.cache c.move_pair.new.trees.cache k.counted n.counted;
      others = others_follow (g.F.Files.holds c.args.files.now) (g.F.Files.holds c.loop-i.files) (g.F.Files.holds c.move_pair.new.files) c.args.trees.now.cache.name c.loop-i.trees.cache.name k.name k.others n.others;
      name = n.name ∙ k.name;
      faults = let one = k.faults in let two = n.cause.later in omega (arith, one, two);
      reads = let one = k.reads in let two = n.reads in omega (arith, one, two);
    }

pub returns-clause-moved : goal.returns-clause-moved
returns-clause-moved g c = move_whole c.args.trees.now c.loop-i.trees (g.F.Files.holds c.args.files.now) (g.F.Files.holds c.loop-i.files) c.args.old.now c.args.new.now c.loop-i.i c.loop-i.invariant.moved (let done = c.loop-i-test.false in let one = c.requires.before in let two = c.requires.each in omega (arith, done, one, two)) c.loop-i-test.false
