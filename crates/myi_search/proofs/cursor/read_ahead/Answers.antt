use Rattle.std.proofs.Common.{List, sym, ap, subst, ◌∙◌}
use Rattle.myi_keylist.specs.declared.pair.Pair.{Pair}
use Rattle.myi_search.specs.Passing.{passes}
use Rattle.myi_search.specs.Runs.{IsRun}
use Rattle.myi_search.proofs.RunLaws.{run_found, run_none}
use Rattle.myi_search.proofs.cursor.read_ahead.Goals as goal

pub returns-in-Some-clause-found : goal.returns-in-Some-clause-found
returns-in-Some-clause-found g c = λ m held current height pairs has parted.
    let r = subst (λ (t : List Pair). IsRun (passes c.args.bound.now) pairs t) (sym c.into_run-run.ensures) (c.in_ok-descend.ensures.run c.new-reached.ensures.gathers m held current height pairs has parted) in
    run_found (passes c.args.bound.now) pairs c.into_run-run.result c.in-Some.i r c.in-Some.ensures.kept

pub returns-in-None-clause-found : goal.returns-in-None-clause-found
returns-in-None-clause-found g c = λ m held current height pairs has parted.
    let r = subst (λ (t : List Pair). IsRun (passes c.args.bound.now) pairs t) (sym c.into_run-run.ensures) (c.in_ok-descend.ensures.run c.new-reached.ensures.gathers m held current height pairs has parted) in
    run_none (passes c.args.bound.now) pairs c.into_run-run.result r c.in-None.ensures.none
