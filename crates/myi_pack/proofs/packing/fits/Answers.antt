use Rattle.std.proofs.Common.{◌≡◌, ◌∙◌, true, sym, subst}
use Rattle.myi_defs.specs.declared.types.RowFormat.{RowFormat}
use Rattle.myi_pack.specs.Spelling.{fits_fields}
use Rattle.myi_pack.proofs.SpellingLemmas.{decides}
use Rattle.myi_pack.proofs.WidthLaws.{counted, decides-dynamic}
use Rattle.myi_pack.proofs.packing.fits.Goals as goal

pub returns-then-fits_slot : goal.returns-then-fits_slot
returns-then-fits_slot c = decides c.args.defs.now c.args.row.now c.as_slice-fields.result.now c.as_slice-values.result.now _ c.as_slice-fields.ensures c.as_slice-values.ensures c.in-Static.is c.requires.some_fields c.requires.lengths (cc (c.fits_slot.ensures, c.if-fits_slot.true, c.in-Static.is)) c.is_live.ensures

pub returns-in-Some : goal.returns-in-Some
returns-in-Some c =
    let fs = c.as_slice-fields.result.now in
    let vs = c.as_slice-values.result.now in
    let is = counted fs vs c.in-Some.len (sym c.in-Some.is ∙ c.packed_len.ensures) in
    decides-dynamic c.args.defs.now c.args.row.now fs vs c.in-Some.len c.as_slice-fields.ensures c.as_slice-values.ensures c.in-Dynamic.is (subst (λ (x : RowFormat). fits_fields x fs vs ≡ true) (sym c.in-Dynamic.is) is.0) is.1
