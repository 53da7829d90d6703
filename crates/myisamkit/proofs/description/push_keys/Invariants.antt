use Rattle.std.proofs.Common.{◌≡◌, ◌+◌, ◌++◌, drop, string_bytes}
use Rattle.myisamkit.specs.Descriptions.{key_lines}
use Rattle.myisamkit.proofs.description.push_keys.Given as goal

abbrev pub invariant-loop-index : goal.invariant-loop-index
invariant-loop-index l = string_bytes l.text ++ key_lines l.fn.name (l.index + 1) (drop l.index l.keys) ≡ string_bytes l.fn.text ++ key_lines l.fn.name 1 l.fn.keys
