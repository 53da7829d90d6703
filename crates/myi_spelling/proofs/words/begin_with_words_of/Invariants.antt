use Rattle.std.proofs.Common.{◌≡◌, ◌+◌, ◌/◌, length, nat_eq}
use Rattle.std.specs.Slice.Iter.{chunks_rest, chunks_size}
use Rattle.std.specs.List.{starts_with}
use Rattle.myi_tail.specs.Rows.{words_of}
use Rattle.myi_spelling.proofs.words.begin_with_words_of.Given as goal

abbrev pub invariant-loop-eight : goal.invariant-loop-eight
invariant-loop-eight l =
    (goal.iterator-loop-eight).can_next l.eight-iterator
    × (goal.iterator-loop-eight).is_finite l.eight-iterator
    × (chunks_size l.eight-iterator ≡ 8)
    × (starts_with nat_eq l.left (words_of ((length (chunks_rest l.eight-iterator) + 7) / 8) (chunks_rest l.eight-iterator))
    ≡ starts_with nat_eq l.words (words_of ((length l.row + 7) / 8) l.row))
