use Rattle.std.proofs.Common.{leb, arith, rules}
use Rattle.std.proofs.lemmas.List.Sorted.{IsPartitionPoint-from_clause, IsPartitionedBy-leb}
use Rattle.myi_defs.specs.declared.types.Field.{Field}
use Rattle.myi_data.proofs.PlaceLemmas.{starts_rise, counted, last_field}
use Rattle.myi_data.proofs.keys.field_at.Goals as goal

pub overflow_sub-result : goal.overflow_sub-result
overflow_sub-result c =
    let parted = IsPartitionedBy-leb (λ (f : Field). f.start) _ c.args.place (starts_rise c.args.fields.now c.requires.starts) in
    let point = IsPartitionPoint-from_clause (λ (f : Field). leb f.start c.args.place) _ _ c.partition_point.ensures.partitioned parted (λ a r q k. search rules) in
    omega (arith, (last_field c.args.fields.now c.args.place c.partition_point.result c.requires.starts c.requires.plain (counted _ _ _ c.partition_point.ensures.bound point)).0)

pub returns : goal.returns
returns c =
    let parted = IsPartitionedBy-leb (λ (f : Field). f.start) _ c.args.place (starts_rise c.args.fields.now c.requires.starts) in
    let point = IsPartitionPoint-from_clause (λ (f : Field). leb f.start c.args.place) _ _ c.partition_point.ensures.partitioned parted (λ a r q k. search rules) in
    let found = (last_field c.args.fields.now c.args.place c.partition_point.result c.requires.starts c.requires.plain (counted _ _ _ c.partition_point.ensures.bound point)).1 in
    record { inside = found.inside; plain = found.plain }
