use Rattle.std.proofs.Common.{◌∙◌, arith}
use Rattle.myi_saferepair.proofs.HeldLaws.{held_next, held_there, still_follow, others_follow}
use Rattle.myi_saferepair.proofs.repeats.repeats_any.Goals as goal

pub returns-in_err-is_held-clause-stand : goal.returns-in_err-is_held-clause-stand
returns-in_err-is_held-clause-stand g c = still_follow (g.F.Files.holds c.args.files.now) (g.F.Files.holds c.loop-i.files) (g.F.Files.holds c.is_held.new.files) c.args.trees.now c.loop-i.trees c.is_held.new.trees c.loop-i.invariant.stand c.in_err-is_held.ensures.stand

pub returns-then-branch-clause-held : goal.returns-then-branch-clause-held
returns-then-branch-clause-held g c = λ m told own lists s.
    let one = c.loop-i.invariant.stand m told own lists s in
    (c.loop-i.i, c.loop-i-test.true, held_there c.args.defs.now c.args.pairs.now lists c.loop-i.i c.index-pairs-i.result _ c.loop-i-test.true c.index-pairs-i.is (c.in_ok-is_held.ensures.held one.now one.held own lists one.stand) ∙ c.if-branch.true)

pub returns-then-branch-clause-stand : goal.returns-then-branch-clause-stand
returns-then-branch-clause-stand g c = still_follow (g.F.Files.holds c.args.files.now) (g.F.Files.holds c.loop-i.files) (g.F.Files.holds c.is_held.new.files) c.args.trees.now c.loop-i.trees c.is_held.new.trees c.loop-i.invariant.stand c.in_ok-is_held.ensures.stand

pub loop-i-preserved : goal.loop-i-preserved
loop-i-preserved g c =
    let k = c.loop-i.invariant in
    let n = c.in_ok-is_held.ensures in
    record {
      none = λ m told own lists s.
          let one = k.stand m told own lists s in
          held_next c.args.defs.now c.args.pairs.now lists c.loop-i.i (k.none m told own lists s)
          (held_there c.args.defs.now c.args.pairs.now lists c.loop-i.i c.index-pairs-i.result _ c.loop-i-test.true c.index-pairs-i.is (n.held one.now one.held own lists one.stand) ∙ c.if-branch.false);
      stand = still_follow (g.F.Files.holds c.args.files.now) (g.F.Files.holds c.loop-i.files) (g.F.Files.holds c.is_held.new.files) c.args.trees.now c.loop-i.trees c.is_held.new.trees k.stand n.stand;
      places = n.places ∙ k.places;
      room = n.room ∙ k.room;
      others = others_follow (g.F.Files.holds c.args.files.now) (g.F.Files.holds c.loop-i.files) (g.F.Files.holds c.is_held.new.files) c.args.trees.now.cache.name c.loop-i.trees.cache.name k.name k.others n.others;
      name = n.name ∙ k.name;
      search = n.search;
      faults = let one = k.faults in let two = n.cause.later in omega (arith, one, two);
    }

pub returns-clause-held : goal.returns-clause-held
returns-clause-held g c = λ m told own lists s j less. c.loop-i.invariant.none m told own lists s j (omega (arith, less, c.loop-i-test.false))
