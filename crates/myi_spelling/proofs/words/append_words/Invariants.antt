use Rattle.std.proofs.Common.{◌≡◌, ◌++◌, take}
use Rattle.std.specs.Vec.{vec_capacity}
use Rattle.std.specs.List.{flat_map}
use Rattle.myi_base.specs.Numbers.{low_num_bytes}
use Rattle.myi_spelling.proofs.words.append_words.Given as goal

abbrev pub invariant-loop-word : goal.invariant-loop-word
invariant-loop-word l = (l.bytes.items ≡ l.fn.bytes.items ++ flat_map (low_num_bytes 8) (take l.word-index l.words)) × (vec_capacity l.bytes ≡ vec_capacity l.fn.bytes)
