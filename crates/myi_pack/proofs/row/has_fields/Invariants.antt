use Rattle.std.proofs.Common.{◌≡◌, ◌≤◌, drop}
use Rattle.std.specs.Option.{option_map}
use Rattle.myi_pack.specs.Unpacking.{fields_of}
use Rattle.myi_pack.proofs.row.has_fields.Given as goal

abbrev pub invariant-loop-field : goal.invariant-loop-field
invariant-loop-field l = record {
  same : option_map (λ r. r.1) (fields_of l.format (drop l.field-index l.fields) l.k l.flags l.rest) ≡ option_map (λ r. r.1) (fields_of l.format l.fields 0 l.flags l.fn.bytes);
  few : l.k ≤ l.field-index;
}
