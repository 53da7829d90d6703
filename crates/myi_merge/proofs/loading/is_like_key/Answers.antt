use Rattle.std.proofs.Common.{rules, ◌≡◌, sym}
use Rattle.std.proofs.lemmas.Slice.Eq.{slice_eq-Decides}
use Rattle.myi_defs.specs.declared.types.Segment.{Segment}
use Rattle.myi_merge.proofs.LikeLemmas.{key_decides, segment_decides}
use Rattle.myi_merge.proofs.loading.is_like_key.Goals as goal

pub returns-then-one-other-2 : goal.returns-then-one-other-2
returns-then-one-other-2 c =
    let one = c.args.one.now in
    let other = c.args.other.now in
    let unique : one.unique ≡ other.unique = search rules in
    let length : one.block_length ≡ other.block_length = search rules in
    let same = slice_eq-Decides (λ (a : Segment) (b : Segment). segment_decides _ a b (search rules)) c.as_slice.result.now c.as_slice-then-one-other-2.result.now c.eq.result c.eq.ensures in
    key_decides one other c.eq.result unique length (rw (sym c.as_slice.ensures, sym c.as_slice-then-one-other-2.ensures) same)
