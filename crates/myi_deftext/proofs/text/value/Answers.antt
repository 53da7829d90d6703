use Rattle.std.proofs.Common.{◌≡◌, ◌≤◌, ◌<◌, ◌+◌, suc, arith, sym, ◌∙◌, ap, take, nat_le, refl}
use Rattle.std.proofs.lemmas.Bool.{lt-leb}
use Rattle.myi_deftext.specs.Text.{value}
use Rattle.myi_deftext.proofs.TextLemmas.{value-none, value-more, value-part}
use Rattle.myi_deftext.proofs.text.value.Goals as goal

pub loop-byte-init : goal.loop-byte-init
loop-byte-init c = record { few = omega arith; so_far = sym value-none }

pub returns-then-value-most-clause-value : goal.returns-then-value-most-clause-value
returns-then-value-most-clause-value c =
    let i = c.loop-byte.byte-index in
    let more = value-more c.args.word.now i (omega arith) in
    let part = value-part c.args.word.now (suc i) in
    let above : nat_le (value c.args.word.now) c.args.most ≡ Rattle.std.proofs.Common.false = lt-leb _ _ (omega (arith, more, part, c.loop-byte.invariant.so_far, c.saturating_sub.ensures, c.if-value-most.true)) in
    rw above refl

pub loop-byte-preserved : goal.loop-byte-preserved
loop-byte-preserved c =
    let i = c.loop-byte.byte-index in
    let more = value-more c.args.word.now i (omega arith) in
    let index : i + 1 ≡ suc i = omega arith in
    record {
      few = omega arith;
      so_far = omega (arith, more, c.loop-byte.invariant.so_far, c.saturating_sub.ensures, ap (λ n. value (take n c.args.word.now)) index);
    }
