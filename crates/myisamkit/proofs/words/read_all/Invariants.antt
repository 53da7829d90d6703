use Rattle.std.proofs.Common.{◌≡◌, map, drop, string_bytes}
use Rattle.myisamkit.specs.Reading.{read_words, read_none}
use Rattle.myisamkit.proofs.words.read_all.Given as goal

abbrev pub invariant-loop-word : goal.invariant-loop-word
invariant-loop-word l = read_words l.read (map (λ w. string_bytes w) (drop l.word-index l.words)) ≡ read_words read_none (map (λ w. string_bytes w) l.fn.words)
