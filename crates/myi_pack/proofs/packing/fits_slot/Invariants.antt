use Rattle.std.proofs.Common.{◌≡◌, drop}
use Rattle.myi_defs.specs.declared.types.RowFormat.TheVariants.{Static}
use Rattle.myi_pack.specs.Spelling.{fits_fields}
use Rattle.myi_pack.proofs.packing.fits_slot.Given as goal

abbrev pub invariant-loop-field : goal.invariant-loop-field
invariant-loop-field l = fits_fields Static (drop l.field-index l.fields) l.rest ≡ fits_fields Static l.fields l.fn.values
