use Rattle.std.proofs.Common.{rules}
use Rattle.std.specs.Prelude.{nat_lt}
use Rattle.std.proofs.lemmas.List.Sorted.{IsPartitionPoint-from_clause}
use Rattle.myi_base.specs.Ranges.{Range}
use Rattle.myi_chain.proofs.NearLemmas.{is_parted, all_before}
use Rattle.myi_chain.proofs.ranges.count_before.Goals as goal

pub returns-clause-point : goal.returns-clause-point
returns-clause-point c =
    IsPartitionPoint-from_clause (λ (r : Range). nat_lt r.0 c.args.end) c.args.near.now _ c.partition_point.ensures.partitioned (is_parted c.args.end c.args.near.now c.requires.order) (λ x b f' k. search rules)

pub returns-then-near-count-clause-point : goal.returns-then-near-count-clause-point
returns-then-near-count-clause-point c = all_before c.args.end c.args.near.now _ c.requires.order c.if-near-count.true
