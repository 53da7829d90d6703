use Rattle.std.proofs.Common.{◌<◌, ◌≤◌, ◌∙◌, subst, sym}
use Rattle.std.specs.List.{AllByRecursion}
use Rattle.myi_repair.proofs.CallerLemmas.{all_more}
use Rattle.myi_saferepair.specs.Filling.{RootFits}
use Rattle.myi_saferepair.proofs.OpenLaws.{roots_more, roots_all}
use Rattle.myi_saferepair.proofs.new_files.roots_of.Goals as goal

pub loop-key-preserved : goal.loop-key-preserved
loop-key-preserved c = record {
  roots = roots_more c.args.trees.now.places c.loop-key.key c.place.result c.in_ok-root.root c.loop-key.roots.items c.push.new.self.items (subst (λ n. c.loop-key.key < n) c.count-key-end.ensures c.loop-key-test.true) c.place.ensures.place c.in_ok-root.ensures.same c.in_ok-push.ensures.items c.loop-key.invariant.roots;
  fits = subst (AllByRecursion RootFits) (sym c.in_ok-push.ensures.items) (all_more RootFits c.loop-key.roots.items c.in_ok-root.root c.loop-key.invariant.fits c.in_ok-root.ensures.fits);
}

pub returns-clause-roots : goal.returns-clause-roots
returns-clause-roots c = c.loop-key.invariant.roots ∙ roots_all c.args.trees.now.places c.loop-key.key (subst (λ n. n ≤ c.loop-key.key) c.count-key-end.ensures c.loop-key-test.false)
