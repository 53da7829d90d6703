use Rattle.std.proofs.Common.{Option, List, sym, subst, ◌∙◌}
use Rattle.myi_keylist.specs.declared.pair.Pair.{Pair}
use Rattle.myi_btree.specs.Nodes.{node_in}
use Rattle.myi_btree.specs.Walk.{Node}
use Rattle.myi_search.specs.Passing.{passes, best_of, Seeks}
use Rattle.myi_search.proofs.SeekLaws.{node_none, node_is, best_same}
use Rattle.myi_search.proofs.GatherLaws.{none_gathered, no_view, seeks_none, has_same}
use Rattle.myi_search.specs.Seeking.{node_shown}
use Rattle.myi_search.specs.Runs.{GathersLeaf}
use Rattle.myi_search.proofs.page.seek_in.Goals as goal

pub returns-in_default-clause-seeks : goal.returns-in_default-clause-seeks
returns-in_default-clause-seeks c = node_none (passes c.args.bound.now) c.args.rec_ref c.args.bytes.now _ _ (sym c.in_default.is ∙ c.read_page.ensures.shown)

pub returns-in_default-clause-run : goal.returns-in_default-clause-run
returns-in_default-clause-run c = λ on. none_gathered (node_in c.args.rec_ref c.args.bytes.now) (best_of c.args.reached.now) c.args.reached.now.run (no_view c.args.rec_ref c.args.bytes.now (sym c.in_default.is ∙ c.read_page.ensures.shown))

pub returns-then-not-all-clause-seeks : goal.returns-then-not-all-clause-seeks
returns-then-not-all-clause-seeks c = seeks_none (passes c.args.bound.now) (node_in c.args.rec_ref c.args.bytes.now) (best_of c.args.reached.now) (best_of c.gather_leaf.new.reached)
    (sym (node_is c.args.rec_ref c.args.bytes.now c.in-Some.view (sym c.in-Some.is ∙ c.read_page.ensures.shown)) ∙ c.in_ok-all.ensures.none c.if-not-all.true)

pub returns-then-not-all-clause-run : goal.returns-then-not-all-clause-run
returns-then-not-all-clause-run c = λ on. none_gathered (node_in c.args.rec_ref c.args.bytes.now) (best_of c.args.reached.now) c.gather_leaf.new.reached.run
    (sym (node_is c.args.rec_ref c.args.bytes.now c.in-Some.view (sym c.in-Some.is ∙ c.read_page.ensures.shown)) ∙ c.in_ok-all.ensures.none c.if-not-all.true)

pub returns-then-not-all-clause-code : goal.returns-then-not-all-clause-code
returns-then-not-all-clause-code c = has_same c.gather_leaf.new.reached c.args.reached.now c.gather_leaf.ensures.best c.gather_leaf.ensures.row c.requires.code

pub returns-clause-code : goal.returns-clause-code
returns-clause-code c = c.in_ok-way.ensures.code (has_same c.gather_leaf.new.reached c.args.reached.now c.gather_leaf.ensures.best c.gather_leaf.ensures.row c.requires.code)

pub returns-clause-seeks : goal.returns-clause-seeks
returns-clause-seeks c = subst (λ (b : Option Pair). Seeks (passes c.args.bound.now) (node_in c.args.rec_ref c.args.bytes.now) c.in_ok-way.way b (best_of c.seek_items.new.reached)) (best_same c.gather_leaf.new.reached c.args.reached.now c.gather_leaf.ensures.best c.gather_leaf.ensures.row)
    (subst (λ (o : Option Node). Seeks (passes c.args.bound.now) o c.in_ok-way.way (best_of c.gather_leaf.new.reached) (best_of c.seek_items.new.reached)) (node_is c.args.rec_ref c.args.bytes.now c.in-Some.view (sym c.in-Some.is ∙ c.read_page.ensures.shown)) c.in_ok-way.ensures.seeks)

pub returns-clause-run : goal.returns-clause-run
returns-clause-run c = λ on. subst (λ (o : Option Node). GathersLeaf o (best_of c.args.reached.now) c.seek_items.new.reached.run) (node_is c.args.rec_ref c.args.bytes.now c.in-Some.view (sym c.in-Some.is ∙ c.read_page.ensures.shown))
    (subst (λ (r : List Pair). GathersLeaf (node_shown c.in-Some.view) (best_of c.args.reached.now) r) (sym c.seek_items.ensures.run) (c.in_ok-all.ensures.run on))
