use Rattle.std.proofs.Common.{rules, ◌≡◌, ◌<◌, true, false, sym, length, arith}
use Rattle.std.specs.Prelude.{nat_le}
use Rattle.std.specs.List.Sorted.{IsPartitionPoint}
use Rattle.std.proofs.lemmas.List.Sorted.{IsPartitionPoint-from_clause}
use Rattle.myi_base.specs.Ranges.{Range}
use Rattle.myi_check.proofs.HeldLemmas.{is_parted, apart_behind, apart_next}
use Rattle.myi_check.proofs.held_bytes.is_apart.Goals as goal

pub returns-then-count-ranges : goal.returns-then-count-ranges
returns-then-count-ranges c =
    let at = c.args.at in
    let rs = c.args.ranges.now in
    let point : IsPartitionPoint (λ (r : Range). nat_le r.1 at ≡ true) (λ (r : Range). nat_le r.1 at ≡ false) rs c.partition_point-count.result = IsPartitionPoint-from_clause (λ (r : Range). nat_le r.1 at) rs _ c.partition_point-count.ensures.partitioned (is_parted at rs c.requires) (λ x b f' k. search rules) in
    sym (apart_behind at c.args.end 0 rs c.partition_point-count.result c.requires point c.if-count-ranges.true)

pub returns : goal.returns
returns c =
    let at = c.args.at in
    let rs = c.args.ranges.now in
    let point : IsPartitionPoint (λ (r : Range). nat_le r.1 at ≡ true) (λ (r : Range). nat_le r.1 at ≡ false) rs c.partition_point-count.result = IsPartitionPoint-from_clause (λ (r : Range). nat_le r.1 at) rs _ c.partition_point-count.ensures.partitioned (is_parted at rs c.requires) (λ x b f' k. search rules) in
    let lt : c.partition_point-count.result < length rs = omega (arith, c.partition_point-count.ensures.bound, c.if-count-ranges.false) in
    sym (apart_next at c.args.end 0 rs c.partition_point-count.result (0, 0) c.requires point lt)
