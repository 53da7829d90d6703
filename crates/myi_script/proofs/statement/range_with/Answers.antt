use Rattle.std.proofs.Common.{◌≡◌, ◌∙◌, ◌-◌, ap, sym, subst, All, List, get_or}
use Rattle.myi_defs.specs.declared.types.Segment.{Segment}
use Rattle.myi_defs.specs.Sound.{IsSoundSegment}
use Rattle.myi_script.specs.Grammar.{segments_of}
use Rattle.myi_script.proofs.SoundLemmas.{segments_sound, segments_are}
use Rattle.myi_script.proofs.statement.range_with.Goals as goal

pub range_over-requires-clause-sound : goal.range_over-requires-clause-sound
range_over-requires-clause-sound c =
    let e : c.as_slice-segments.result.now ≡ (get_or c.args.defs.now.keys (c.args.key - 1) c.index-as_slice-key.result).segments =
    c.as_slice-segments.ensures ∙ ap (λ q. (get_or q (c.args.key - 1) c.index-as_slice-key.result).segments) c.as_slice.ensures in
    let P : List Segment → Type 0 = λ q. All (IsSoundSegment c.args.defs.now.fields) q in
    (c.args.defs.now.fields, subst P (sym e) (segments_sound c.args.defs.now c.args.key c.index-as_slice-key.result c.requires.sound c.requires.low c.requires.high).sound)

pub returns : goal.returns
returns c =
    let e : segments_of c.args.defs.now c.args.key ≡ c.as_slice-segments.result.now =
    segments_are c.args.defs.now c.args.key c.index-as_slice-key.result c.requires.low c.requires.high
    ∙ sym (c.as_slice-segments.ensures ∙ ap (λ q. (get_or q (c.args.key - 1) c.index-as_slice-key.result).segments) c.as_slice.ensures) in
    rw e c.range_over.ensures
