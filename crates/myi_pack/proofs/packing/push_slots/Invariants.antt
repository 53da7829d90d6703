use Rattle.std.proofs.Common.{◌≡◌, ◌++◌, drop, true}
use Rattle.myi_defs.specs.declared.types.RowFormat.TheVariants.{Static}
use Rattle.myi_pack.specs.Spelling.{fits_fields, spelled_fields}
use Rattle.myi_pack.proofs.packing.push_slots.Given as goal

abbrev pub invariant-loop-field : goal.invariant-loop-field
invariant-loop-field l = record {
  fits : fits_fields Static (drop l.field-index l.fields) l.rest ≡ true;
  same : l.out.items ++ spelled_fields Static (drop l.field-index l.fields) l.rest ≡ l.initial.out.items ++ spelled_fields Static l.fields l.fn.values;
}
