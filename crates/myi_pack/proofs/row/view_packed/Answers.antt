use Rattle.std.proofs.Common.{◌+◌, ◌≤◌, sym, subst, arith, List, Some}
use Rattle.std.specs.Prelude.{All, length}
use Rattle.myi_defs.specs.declared.types.Field.{Field}
use Rattle.myi_defs.specs.Sound.{IsLengthOf, StartFrom}
use Rattle.myi_pack.proofs.PackedLemmas.{parted, packed_parts}
use Rattle.myi_pack.proofs.RowLaws.{view-packs}
use Rattle.myi_pack.proofs.row.view_packed.Goals as goal

pub unwrap-requires : goal.unwrap-requires
unwrap-requires c = parted c.args.defs.now c.args.bytes.now c.split.result c.split.ensures c.requires.packed

pub invariant_of-result : goal.invariant_of-result
invariant_of-result c = record {
  left = record {
    some = (packed_parts c.args.defs.now c.args.bytes.now c.as_slice.result.now c.split.result c.unwrap.result c.as_slice.ensures c.unwrap.ensures c.split.ensures c.requires.packed).0;
    lengths = subst (λ (fs : List Field). All (λ f. IsLengthOf c.args.defs.now.format f.kind f.length) fs) (sym c.as_slice.ensures) c.requires.sound.lengths;
    few = subst (λ (fs : List Field). 0 + length fs ≤ 4096) (sym c.as_slice.ensures) (omega (arith, c.requires.sound.few_fields));
  };
  starts = subst (λ (fs : List Field). StartFrom 0 fs) (sym c.as_slice.ensures) c.requires.sound.starts;
}

pub returns : goal.returns
returns c =
    let found = (packed_parts c.args.defs.now c.args.bytes.now c.as_slice.result.now c.split.result c.unwrap.result c.as_slice.ensures c.unwrap.ensures c.split.ensures c.requires.packed).1 in
    record {
      packs = view-packs c.args.defs.now c.args.bytes.now (Some _) c.requires.sound.lengths (λ i. omega (arith, c.type_inv.bytes i)) found;
      found = found;
    }
