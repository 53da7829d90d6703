use Rattle.std.proofs.Common.{◌∙◌, subst, map, arith}
use Rattle.std.proofs.lemmas.List.{length-map}
use Rattle.myi_parallel.specs.KeyPairs.{asked_from}
use Rattle.myi_parallel.specs.Shares.{asked_in, Deals}
use Rattle.myi_parallel.proofs.DealingLaws.{length-asked_from, still_dealt}
use Rattle.myi_parallel.proofs.workers.lay_all.Goals as goal

pub collect-requires-clause-dealt : goal.collect-requires-clause-dealt
collect-requires-clause-dealt g c =
    let all = asked_from 1 c.args.keys.items in
    (all, length-asked_from 1 c.args.keys.items ∙ omega (arith, c.len-count.ensures, c.args.keys.ok.0), subst (λ n. Deals n all (map asked_in c.work.new.shares.items)) (length-map c.work.new.shares.items asked_in) (still_dealt c.busy_workers.result all _ _ c.in_ok-shares.ensures c.work.ensures))

pub returns : goal.returns
returns g c =
    let all = asked_from 1 c.args.keys.items in
    c.collect.ensures all (length-asked_from 1 c.args.keys.items ∙ omega (arith, c.len-count.ensures, c.args.keys.ok.0)) (subst (λ n. Deals n all (map asked_in c.work.new.shares.items)) (length-map c.work.new.shares.items asked_in) (still_dealt c.busy_workers.result all _ _ c.in_ok-shares.ensures c.work.ensures))
