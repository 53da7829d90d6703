use Rattle.std.proofs.Common.{suc, nat_le, arith, rules}
use Rattle.std.proofs.lemmas.Bool.{leb-true, leb-false}
use Rattle.std.proofs.lemmas.List.Sorted.{IsPartitionPoint-from_clause, IsPartitionedBy-leb}
use Rattle.myi_defs.specs.declared.header.FieldItem.{FieldItem}
use Rattle.myi_defs.proofs.PlaceLemmas.{starts_rise, ends_before}
use Rattle.myi_defs.proofs.places.near.Goals as goal

pub returns-clause-before : goal.returns-clause-before
returns-clause-before c = λ k d less.
    let parted = IsPartitionedBy-leb (λ (f : FieldItem). f.start) c.args.fields.now c.args.place (starts_rise 0 c.args.fields.now c.requires.starts) in
    let point = IsPartitionPoint-from_clause (λ (f : FieldItem). nat_le f.start c.args.place) _ _ c.partition_point-to.ensures.partitioned parted (λ a r q called. search rules) in
    ends_before c.args.fields.now c.args.place k d c.requires.starts c.requires.some (omega arith) (leb-true _ _ (point.0 (suc (suc k)) d (omega arith) (omega arith)))

pub returns-clause-after : goal.returns-clause-after
returns-clause-after c = λ k d from inside.
    let parted = IsPartitionedBy-leb (λ (f : FieldItem). f.start) c.args.fields.now c.args.place (starts_rise 0 c.args.fields.now c.requires.starts) in
    let point = IsPartitionPoint-from_clause (λ (f : FieldItem). nat_le f.start c.args.place) _ _ c.partition_point-to.ensures.partitioned parted (λ a r q called. search rules) in
    leb-false _ _ (point.1 k d from inside)
