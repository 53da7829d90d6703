use Rattle.std.proofs.Common.{length, sym, ap, ◌∙◌, arith}
use Rattle.myi_pack.specs.Spelling.{field_bytes}
use Rattle.myi_pack.proofs.WidthLaws.{blob-width, blob-below}
use Rattle.myi_pack.proofs.packing.field_len.Goals as goal

pub blob_len-requires-clause-short : goal.blob_len-requires-clause-short
blob_len-requires-clause-short c = (blob-below c.args.field.now.kind c.args.field.now.length c.args.value.now c.in-Blob.is c.requires.length c.requires.fits).1

pub returns-in-Blob-clause-value : goal.returns-in-Blob-clause-value
returns-in-Blob-clause-value c =
    c.blob_len.ensures.value ∙ sym (blob-width c.args.field.now.length c.args.value.now)
    ∙ ap (λ k. length (field_bytes k c.args.field.now.length c.args.value.now)) (sym c.in-Blob.is)

pub returns-in-Blob-clause-few : goal.returns-in-Blob-clause-few
returns-in-Blob-clause-few c =
    let below = blob-below c.args.field.now.kind c.args.field.now.length c.args.value.now c.in-Blob.is c.requires.length c.requires.fits in
    omega (arith, below.0, below.1, c.blob_len.ensures.few)
