use Rattle.std.proofs.Common.{◌≡◌, ◌≤◌, ◌+◌, ◌/◌, ◌++◌, length}
use Rattle.std.specs.Slice.Iter.{chunks_rest, chunks_size}
use Rattle.myi_tail.specs.Rows.{words_of}
use Rattle.myi_tail.specs.Seats.{free_words}
use Rattle.myi_tail.proofs.appender.Appender.push_bytes.Given as goal

abbrev pub invariant-loop-eight : goal.invariant-loop-eight
invariant-loop-eight l =
    (goal.iterator-loop-eight).can_next l.eight-iterator
    × (goal.iterator-loop-eight).is_finite l.eight-iterator
    × (chunks_size l.eight-iterator ≡ 8)
    × ((length (chunks_rest l.eight-iterator) + 7) / 8 ≤ free_words l.self)
    × (l.self ≡ record l.fn.self { words = l.self.words })
    × (l.self.words ++ words_of ((length (chunks_rest l.eight-iterator) + 7) / 8) (chunks_rest l.eight-iterator)
    ≡ l.fn.self.words ++ words_of ((length l.row + 7) / 8) l.row)
