use Rattle.std.proofs.Common.{sym, ◌∙◌, arith}
use Rattle.std.proofs.lemmas.Result.{err_from_is_err_and}
use Rattle.myi_rowtrees.proofs.EachLemmas.{take_step, take_never, take_whole}
use Rattle.myi_search.proofs.CallerLemmas.{counts_on}
use Rattle.myi_rowtrees.proofs.ToldLemmas.{if_err, others_follow}
use Rattle.myi_rowtrees.proofs.changes.take_row.Goals as goal

pub returns-in_err-remove-clause-never : goal.returns-in_err-remove-clause-never
returns-in_err-remove-clause-never g c =
    let e = err_from_is_err_and c.from_residual.result c.from_residual.ensures.1 in
    if_err c.from_residual.result e.0 _ e.1
    (λ p d. take_never c.args.trees.now c.loop-i.trees (g.F.Files.holds c.args.files.now) (g.F.Files.holds c.loop-i.files) c.args.pairs.now c.loop-i.i c.loop-i.invariant.taken (c.in_err-remove.ensures.never p (sym e.2 ∙ d)))

pub returns-in_err-remove-clause-counted : goal.returns-in_err-remove-clause-counted
returns-in_err-remove-clause-counted g c = counts_on c.args.trees.now.cache c.loop-i.trees.cache c.remove.new.self.cache c.loop-i.invariant.counted c.in_err-remove.ensures.counted

pub loop-i-preserved : goal.loop-i-preserved
loop-i-preserved g c =
    let k = c.loop-i.invariant in
    let n = c.in_ok-remove.ensures in
    record {
      taken = take_step c.args.trees.now c.loop-i.trees c.remove.new.self (g.F.Files.holds c.args.files.now) (g.F.Files.holds c.loop-i.files) (g.F.Files.holds c.remove.new.files) c.args.pairs.now c.loop-i.i c.index-pairs-i.result k.taken n.removed c.loop-i-test.true c.requires.each (sym c.index-pairs-i.is);
      kinds = n.kinds ∙ k.kinds;
      whole = n.whole;
      counted = counts_on c.args.trees.now.cache c.loop-i.trees.cache c.remove.new.self.cache k.counted n.counted;
      others = others_follow (g.F.Files.holds c.args.files.now) (g.F.Files.holds c.loop-i.files) (g.F.Files.holds c.remove.new.files) c.args.trees.now.cache.name c.loop-i.trees.cache.name k.name k.others n.others;
      name = n.name ∙ k.name;
      faults = let one = k.faults in let two = n.cause.later in omega (arith, one, two);
      reads = let one = k.reads in let two = n.reads in omega (arith, one, two);
    }

pub returns-clause-taken : goal.returns-clause-taken
returns-clause-taken g c = take_whole c.args.trees.now c.loop-i.trees (g.F.Files.holds c.args.files.now) (g.F.Files.holds c.loop-i.files) c.args.pairs.now c.loop-i.i c.loop-i.invariant.taken c.loop-i-test.false
