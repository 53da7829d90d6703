use Rattle.std.proofs.Common.{◌≡◌, false, None, map, drop, string_bytes}
use Rattle.std.specs.Prelude.{option_map}
use Rattle.myisamkit.specs.Reading.{dump_left}
use Rattle.myisamkit.proofs.words.only_name.Given as goal

abbrev pub invariant-loop-word : goal.invariant-loop-word
invariant-loop-word l = dump_left l.ended (option_map (λ n. n.now) l.name) (map (λ w. string_bytes w) (drop l.word-index l.words)) ≡ dump_left false None (map (λ w. string_bytes w) l.fn.words)
