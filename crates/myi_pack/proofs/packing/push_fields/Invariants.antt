use Rattle.std.proofs.Common.{◌≡◌, ◌≤◌, ◌+◌, ◌++◌, length, take, drop, true}
use Rattle.myi_defs.specs.declared.types.RowFormat.TheVariants.{Dynamic}
use Rattle.myi_pack.specs.Flags.{flag_count, with_flags}
use Rattle.myi_pack.specs.Spelling.{fits_fields, flags_of, spelled_fields}
use Rattle.myi_pack.proofs.packing.push_fields.Given as goal

abbrev pub invariant-loop-field : goal.invariant-loop-field
invariant-loop-field l = record {
  fits : fits_fields Dynamic (drop l.field-index l.fields) l.rest ≡ true;
  count : l.k + flag_count (drop l.field-index l.fields) ≡ flag_count l.fields;
  few : l.k ≤ l.field-index;
  long : length l.initial.out.items ≤ length l.out.items;
  same : with_flags (take (length l.initial.out.items) l.out.items) l.k (flags_of (drop l.field-index l.fields) l.rest) ++ (drop (length l.initial.out.items) l.out.items ++ spelled_fields Dynamic (drop l.field-index l.fields) l.rest)
      ≡ with_flags l.initial.out.items 0 (flags_of l.fields l.fn.values) ++ spelled_fields Dynamic l.fields l.fn.values;
}
