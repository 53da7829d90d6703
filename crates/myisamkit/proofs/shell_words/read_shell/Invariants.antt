use Rattle.std.proofs.Common.{◌≡◌, None, map, drop, string_bytes}
use Rattle.std.specs.Prelude.{option_map}
use Rattle.myisamkit.specs.ShellReading.{shell_left, shell_read_none}
use Rattle.myisamkit.proofs.shell_words.read_shell.Given as goal

abbrev pub invariant-loop-word : goal.invariant-loop-word
invariant-loop-word l = shell_left l.read (option_map (λ n. n.now) l.name) (option_map (λ n. n.now) l.script) (map (λ w. string_bytes w) (drop l.word-index l.words)) ≡ shell_left shell_read_none None None (map (λ w. string_bytes w) l.fn.words)
