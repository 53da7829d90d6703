use Rattle.std.proofs.Common.{rules, ◌≡◌, ◌+◌, ◌/◌, [], ◌∷◌, ◌++◌, length, ap, sym, ◌∙◌, append_assoc, arith, length-append}
use Rattle.std.specs.Slice.Iter.{chunks_rest}
use Rattle.myi_tail.specs.Rows.{words_of, word_of}
use Rattle.myi_tail.specs.Seats.{Appending}
use Rattle.myi_tail.proofs.RowLemmas.{words_of-chunk, length-words_of}
use Rattle.myi_tail.proofs.appender.Appender.push_bytes.Goals as goal

pub loop-eight-preserved : goal.loop-eight-preserved
loop-eight-preserved c =
    let steps = c.in-Some.ensures.steps in
    let inv = c.loop-eight.invariant in
    let size = inv.2 in
    let chunk = c.in-Some.eight.now in
    let all = chunks_rest c.loop-eight.eight-iterator in
    let rest = chunks_rest c.next.new.self in
    let words = c.loop-eight.self.words in
    let first = words_of-chunk all chunk rest steps.1.0 (rw size at steps.1.1) steps.1.2 in
    let pushed : c.push_word.new.self.words ≡ words ++ word_of chunk ∷ [] = ap (λ (a : Appending). a.words) c.push_word.ensures ∙ ap (λ w. words ++ w ∷ []) c.le.ensures.value in
    let tail = ap (λ (a : Appending). a.tail.words) c.push_word.ensures in
    let more : length c.push_word.new.self.words ≡ length words + 1 = ap length pushed ∙ length-append words (word_of chunk ∷ []) in
    let count = ap length first in (
      search rules,
      tt,
      steps.0 ∙ size,
      omega (arith, length-words_of ((length all + 7) / 8) all, length-words_of ((length rest + 7) / 8) rest),
      search rules,
      ap (λ l. l ++ words_of ((length rest + 7) / 8) rest) pushed ∙ append_assoc words (word_of chunk ∷ []) (words_of ((length rest + 7) / 8) rest)
          ∙ ap (λ l. words ++ l) (sym first) ∙ inv.5,
    )
