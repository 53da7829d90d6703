use Rattle.std.proofs.Common.{◌≡◌, ◌+◌, sym, ap, ◌∙◌, arith, Err, true, []}
use Rattle.std.specs.Prelude.{nat_le}
use Rattle.std.proofs.lemmas.Bool.{lt-leb, le-leb}
use Rattle.myi_script.specs.Script.{most_lines, has_ended}
use Rattle.myi_script.proofs.ReadingLemmas.{next_line, late_step, nothing_step, other_step, outside_step, ended_step, said_step, no_lines}
use Rattle.myi_script.proofs.script.read_lines.Goals as goal

pub returns-then-number-gt-MOST_LINES-clause-outside : goal.returns-then-number-gt-MOST_LINES-clause-outside
returns-then-number-gt-MOST_LINES-clause-outside c = λ k e.
    let same : c.loop-text.number + 1 ≡ k = cc in
    late_step c.args.merge c.args.defs.now _ (c.loop-text.number + 1) _ _ _ _ _ (next_line (λ s. s.now) c.args.lines.now c.loop-text.text-index (record { ref_ptr = (0, 0); now = [] }) c.loop-text-test.true) (lt-leb _ _ (omega (arith, c.if-number-gt-MOST_LINES.true))) c.loop-text.invariant.so_far
    ∙ ap (λ q. Err q) same

pub returns-then-not-is_utf8-clause-outside : goal.returns-then-not-is_utf8-clause-outside
returns-then-not-is_utf8-clause-outside c = λ k e.
    let same : c.loop-text.number + 1 ≡ k = cc in
    let few : nat_le (c.loop-text.number + 1) most_lines ≡ true = le-leb _ _ (omega (arith, c.if-number-gt-MOST_LINES.false)) in
    other_step c.args.merge c.args.defs.now _ (c.loop-text.number + 1) _ _ _ _ _ (next_line (λ s. s.now) c.args.lines.now c.loop-text.text-index _ c.loop-text-test.true) few (sym c.does_nothing.ensures ∙ c.if-does_nothing.true) (sym c.is_utf8.ensures ∙ c.if-not-is_utf8.true) c.loop-text.invariant.so_far
    ∙ ap (λ q. Err q) same

pub loop-text-preserved-then-does_nothing : goal.loop-text-preserved-then-does_nothing
loop-text-preserved-then-does_nothing c = record {
  number = omega arith;
  few = omega (arith, c.if-number-gt-MOST_LINES.false);
  so_far = (
      let few : nat_le (c.loop-text.number + 1) most_lines ≡ true = le-leb _ _ (omega (arith, c.if-number-gt-MOST_LINES.false)) in
      nothing_step c.args.merge c.args.defs.now _ (c.loop-text.number + 1) _ _ _ _ _ (next_line (λ s. s.now) c.args.lines.now c.loop-text.text-index _ c.loop-text-test.true) few (sym c.does_nothing.ensures ∙ c.if-does_nothing.true) (sym c.is_utf8.ensures ∙ c.if-not-is_utf8.false) c.loop-text.invariant.so_far);
}

pub returns-in_default-clause-outside : goal.returns-in_default-clause-outside
returns-in_default-clause-outside c = λ k e.
    let same : c.loop-text.number + 1 ≡ k = cc in
    let few : nat_le (c.loop-text.number + 1) most_lines ≡ true = le-leb _ _ (omega (arith, c.if-number-gt-MOST_LINES.false)) in
    outside_step c.args.merge c.args.defs.now _ (c.loop-text.number + 1) _ _ _ _ _ (next_line (λ s. s.now) c.args.lines.now c.loop-text.text-index _ c.loop-text-test.true) few (sym c.does_nothing.ensures ∙ c.if-does_nothing.false) (sym c.in_ok-session.ensures ∙ c.in_default.is) c.loop-text.invariant.so_far
    ∙ ap (λ q. Err q) same

pub returns-then-has_ended-clause-outside : goal.returns-then-has_ended-clause-outside
returns-then-has_ended-clause-outside c = λ k e.
    let same : c.loop-text.number + 1 ≡ k = cc in
    let few : nat_le (c.loop-text.number + 1) most_lines ≡ true = le-leb _ _ (omega (arith, c.if-number-gt-MOST_LINES.false)) in
    ended_step c.args.merge c.args.defs.now _ (c.loop-text.number + 1) _ _ _ _ _ _ _ (next_line (λ s. s.now) c.args.lines.now c.loop-text.text-index _ c.loop-text-test.true) few (sym c.does_nothing.ensures ∙ c.if-does_nothing.false) (sym c.in_ok-session.ensures ∙ c.in-Some.is)
    (ap (has_ended c.in-Some.session) (sym c.deref.ensures.value) ∙ sym c.has_ended.ensures ∙ c.if-has_ended.true) c.loop-text.invariant.so_far
    ∙ ap (λ q. Err q) same

pub loop-text-preserved : goal.loop-text-preserved
loop-text-preserved c = record {
  number = omega arith;
  few = omega (arith, c.if-number-gt-MOST_LINES.false);
  so_far = (
      let few : nat_le (c.loop-text.number + 1) most_lines ≡ true = le-leb _ _ (omega (arith, c.if-number-gt-MOST_LINES.false)) in
      said_step c.args.merge c.args.defs.now _ _ (c.loop-text.number + 1) _ _ _ c.in-Some.session c.in-Some.act _ _ _ (next_line (λ s. s.now) c.args.lines.now c.loop-text.text-index _ c.loop-text-test.true) few (sym c.does_nothing.ensures ∙ c.if-does_nothing.false) (sym c.in_ok-session.ensures ∙ c.in-Some.is)
      (ap (has_ended c.in-Some.session) (sym c.deref.ensures.value) ∙ sym c.has_ended.ensures ∙ c.if-has_ended.false) c.in_ok-note_end.ensures c.in_ok-push.ensures.items c.loop-text.invariant.so_far);
}

pub returns-clause-said : goal.returns-clause-said
returns-clause-said c = no_lines (λ s. s.now) c.args.lines.now c.loop-text.text-index c.args.merge c.args.defs.now _ _ _ _ (omega arith) c.loop-text.invariant.so_far
