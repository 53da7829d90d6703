use Rattle.std.proofs.Common.{◌≡◌, false, None, map, drop, string_bytes}
use Rattle.std.specs.Prelude.{option_map}
use Rattle.myisamkit.specs.Reading.{create_left}
use Rattle.myisamkit.proofs.words.two_names.Given as goal

abbrev pub invariant-loop-word : goal.invariant-loop-word
invariant-loop-word l = create_left l.ended (option_map (λ n. n.now) l.name) (option_map (λ n. n.now) l.file) (map (λ w. string_bytes w) (drop l.word-index l.words)) ≡ create_left false None None (map (λ w. string_bytes w) l.fn.words)
