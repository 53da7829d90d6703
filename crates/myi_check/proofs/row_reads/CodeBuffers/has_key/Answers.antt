use Rattle.std.proofs.Common.{◌∙◌, sym}
use Rattle.std.proofs.lemmas.Bool.Decides.{Decides-eqb}
use Rattle.std.proofs.lemmas.Slice.Eq.{slice_eq-Decides}
use Rattle.myi_pack.proofs.CallerLemmas.{row-fits}
use Rattle.myi_keys.proofs.CallerLemmas.{one_key}
use Rattle.myi_check.proofs.row_reads.CodeBuffers.has_key.Goals as goal

pub write-requires-clause-row : goal.write-requires-clause-row
write-requires-clause-row c = row-fits c.args.defs.now c.in-Some.row c.args.bytes.now c.requires.sound c.in-Some.ensures.packs c.requires.few

pub returns : goal.returns
returns c = λ has.
    let same = (slice_eq-Decides Decides-eqb _ _ _ c.eq.ensures).0 has in
    (c.in-Some.row, c.in-Some.ensures.found, one_key _ _ (sym c.in_ok-write.ensures.written ∙ sym c.as_slice.ensures.value ∙ same ∙ c.code.ensures.value))
