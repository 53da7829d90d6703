use Rattle.std.proofs.Common.{ap, arith, length, length-append, take}
use Rattle.std.specs.List.{flat_map}
use Rattle.std.proofs.lemmas.List.{length-take-le}
use Rattle.myi_base.specs.Numbers.{low_num_bytes}
use Rattle.myi_spelling.proofs.WordLemmas.{length-words_bytes}
use Rattle.myi_spelling.proofs.words.append_words.Goals as goal

pub append_word-requires : goal.append_word-requires
append_word-requires c =
    let inv = c.loop-word.invariant in
    let bytes = flat_map (low_num_bytes 8) (take c.loop-word.word-index c.args.words.now) in
    let size = ap length inv.0 in
    let inside = c.loop-word-test.true in
    omega (arith, length-append c.args.bytes.now.items bytes, length-words_bytes (take c.loop-word.word-index c.args.words.now), length-take-le c.loop-word.word-index c.args.words.now (omega arith), inv.1, c.requires)
