use Rattle.std.proofs.Common.{◌≡◌, false, None, map, drop, string_bytes}
use Rattle.std.specs.Prelude.{option_map}
use Rattle.myisamkit.specs.Reading.{make_left}
use Rattle.myisamkit.proofs.words.three_words.Given as goal

abbrev pub invariant-loop-word : goal.invariant-loop-word
invariant-loop-word l = make_left l.ended (option_map (λ n. n.now) l.first) (option_map (λ n. n.now) l.second) (option_map (λ n. n.now) l.third) (map (λ w. string_bytes w) (drop l.word-index l.words)) ≡ make_left false None None None (map (λ w. string_bytes w) l.fn.words)
