use Rattle.std.proofs.Common.{◌∙◌, map, sym, ap, subst, arith}
use Rattle.std.proofs.lemmas.List.{take_all}
use Rattle.myi_defs.specs.Sound.{StartFrom}
use Rattle.myi_keys.specs.Limits.{IsKey}
use Rattle.myi_keys.specs.Codes.{key_code}
use Rattle.myi_data.specs.Keys.{AreValues, seg_of}
use Rattle.myi_data.proofs.KeyLemmas.{values_fit, key_whole, seg_short}
use Rattle.myi_data.proofs.keys.key_code_into.Goals as goal

pub append_seg-requires-clause-row : goal.append_seg-requires-clause-row
append_seg-requires-clause-row c =
    subst (AreValues c.as_slice-fields.result.now) (sym c.loop-segment.invariant.row) (subst (λ fs. AreValues fs c.args.row.now) (sym c.as_slice-fields.ensures) (c.args.defs.now.format, values_fit c.args.defs.now c.args.row.now c.requires.row))

pub append_seg-requires-clause-starts : goal.append_seg-requires-clause-starts
append_seg-requires-clause-starts c = subst (StartFrom 0) (sym c.as_slice-fields.ensures) c.requires.sound.starts

pub append_seg-requires-clause-short : goal.append_seg-requires-clause-short
append_seg-requires-clause-short c =
    let whole = key_whole c.args.defs.now c.args.row.now c.args.key c.as_slice-fields.result.now _ c.as_slice-segments.result.now c.index-as_slice-key.result c.requires.sound c.requires.row c.as_slice-fields.ensures c.as_slice.ensures c.requires.key c.index-as_slice-key.is (c.as_slice-segments.ensures ∙ ap (λ k. k.segments) (sym c.index-as_slice-key.is)) in
    seg_short c.as_slice-fields.result.now c.args.row.now _ c.as_slice-segments.result.now c.loop-segment.segment-index _ c.loop-segment.invariant.row whole.0 (omega arith)

pub returns-in_err-append_seg-clause-key : goal.returns-in_err-append_seg-clause-key
returns-in_err-append_seg-clause-key c =
    let whole = key_whole c.args.defs.now c.args.row.now c.args.key c.as_slice-fields.result.now _ c.as_slice-segments.result.now c.index-as_slice-key.result c.requires.sound c.requires.row c.as_slice-fields.ensures c.as_slice.ensures c.requires.key c.index-as_slice-key.is (c.as_slice-segments.ensures ∙ ap (λ k. k.segments) (sym c.index-as_slice-key.is)) in
    subst IsKey whole.1 whole.0

pub returns-clause-key : goal.returns-clause-key
returns-clause-key c =
    let whole = key_whole c.args.defs.now c.args.row.now c.args.key c.as_slice-fields.result.now _ c.as_slice-segments.result.now c.index-as_slice-key.result c.requires.sound c.requires.row c.as_slice-fields.ensures c.as_slice.ensures c.requires.key c.index-as_slice-key.is (c.as_slice-segments.ensures ∙ ap (λ k. k.segments) (sym c.index-as_slice-key.is)) in
    subst IsKey whole.1 whole.0

pub returns-clause-written : goal.returns-clause-written
returns-clause-written c =
    let whole = key_whole c.args.defs.now c.args.row.now c.args.key c.as_slice-fields.result.now _ c.as_slice-segments.result.now c.index-as_slice-key.result c.requires.sound c.requires.row c.as_slice-fields.ensures c.as_slice.ensures c.requires.key c.index-as_slice-key.is (c.as_slice-segments.ensures ∙ ap (λ k. k.segments) (sym c.index-as_slice-key.is)) in
    c.loop-segment.invariant.written
    ∙ ap (λ segs. key_code (map (seg_of c.as_slice-fields.result.now c.args.row.now) segs)) (take_all c.loop-segment.segment-index c.as_slice-segments.result.now (omega arith))
    ∙ ap key_code whole.1
