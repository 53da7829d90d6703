use Rattle.std.proofs.Common.{rules, ap, sym, ◌∙◌, nat_eq, ◌∷◌, ◌++◌, ◌+◌, ◌/◌, length}
use Rattle.std.specs.Slice.Iter.{chunks_rest}
use Rattle.std.specs.List.{starts_with}
use Rattle.myi_tail.specs.Rows.{words_of, word_of}
use Rattle.myi_tail.proofs.CallerLemmas.{words_of-chunk}
use Rattle.myi_spelling.proofs.WordLemmas.{not_begun, begins_on}
use Rattle.myi_spelling.proofs.words.begin_with_words_of.Goals as goal

pub returns-in_default : goal.returns-in_default
returns-in_default c =
    let steps = c.in-Some.ensures.steps in
    let inv = c.loop-eight.invariant in
    let chunk = c.in-Some.eight.now in
    let all = chunks_rest c.loop-eight.eight-iterator in
    let rest = chunks_rest c.next.new.self in
    let first = words_of-chunk all chunk rest steps.1.0 (rw inv.2 at steps.1.1) steps.1.2 in
    sym (not_begun c.loop-eight.left.now (word_of chunk ∷ words_of ((length rest + 7) / 8) rest) (λ back e.
    c.in_default.ensures (words_of ((length rest + 7) / 8) rest ++ back) (e ∙ ap (λ w. w ∷ (words_of ((length rest + 7) / 8) rest ++ back)) (sym c.le.ensures.value))))
    ∙ ap (starts_with nat_eq c.loop-eight.left.now) (sym first) ∙ inv.3

pub loop-eight-preserved : goal.loop-eight-preserved
loop-eight-preserved c =
    let steps = c.in-Some.ensures.steps in
    let inv = c.loop-eight.invariant in
    let chunk = c.in-Some.eight.now in
    let all = chunks_rest c.loop-eight.eight-iterator in
    let rest = chunks_rest c.next.new.self in
    let first = words_of-chunk all chunk rest steps.1.0 (rw inv.2 at steps.1.1) steps.1.2 in
    let left = c.in-Some-behind.rest.now in
    let words = words_of ((length rest + 7) / 8) rest in (
      search rules,
      tt,
      steps.0 ∙ inv.2,
      sym (begins_on (word_of chunk) left words)
          ∙ ap (λ l. starts_with nat_eq l (word_of chunk ∷ words)) (ap (λ w. w ∷ left) (sym c.le.ensures.value) ∙ sym c.in-Some-behind.ensures)
          ∙ ap (starts_with nat_eq c.loop-eight.left.now) (sym first) ∙ inv.3,
    )
