use Rattle.std.proofs.Common.{◌≡◌, ◌≤◌, ◌+◌, ◌*◌, ◌^◌, length, drop}
use Rattle.myi_defs.specs.declared.types.RowFormat.TheVariants.{Dynamic}
use Rattle.myi_pack.specs.Flags.{flag_bytes, flag_count}
use Rattle.myi_pack.specs.Spelling.{fits_fields, spelled_fields}
use Rattle.myi_pack.proofs.packing.packed_len.Given as goal

abbrev pub invariant-loop-field : goal.invariant-loop-field
invariant-loop-field l = record {
  fits : fits_fields Dynamic (drop l.field-index l.fields) l.rest ≡ fits_fields Dynamic l.fields l.fn.values;
  few : l.len ≤ 512 + (2 ^ 32 + 4) * l.field-index;
  same : l.len + length (spelled_fields Dynamic (drop l.field-index l.fields) l.rest) ≡ flag_bytes (flag_count l.fields) + length (spelled_fields Dynamic l.fields l.fn.values);
}
