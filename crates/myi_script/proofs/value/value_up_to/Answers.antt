use Rattle.std.proofs.Common.{◌≡◌, false, arith, refl, nat_le, ◌+◌}
use Rattle.std.proofs.lemmas.Bool.{lt-leb}
use Rattle.myi_deftext.specs.Text.{value}
use Rattle.myi_script.proofs.ReadingLemmas.{value_part, value_more}
use Rattle.myi_script.proofs.value.value_up_to.Goals as goal

pub returns-then-value-most-clause-value : goal.returns-then-value-most-clause-value
returns-then-value-most-clause-value c =
    let p = value_part (c.loop-byte.byte-index + 1) c.args.word.now in
    let m = value_more c.loop-byte.byte-index c.args.word.now (omega arith) in
    let above : nat_le (value c.args.word.now) c.args.most ≡ false = lt-leb _ _ (omega (arith, m, p, c.loop-byte.invariant.value, c.saturating_sub.ensures, c.if-value-most.true)) in
    rw above refl
