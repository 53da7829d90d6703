use Rattle.std.proofs.Common.{◌≡◌, map, drop}
use Rattle.myisamkit.specs.Options.{letter_flag}
use Rattle.myisamkit.specs.Reading.{seen_after}
use Rattle.myisamkit.proofs.words.seen_letters.Given as goal

abbrev pub invariant-loop-letter : goal.invariant-loop-letter
invariant-loop-letter l = seen_after l.seen (map letter_flag (drop l.letter-index l.letters)) ≡ seen_after l.fn.seen (map letter_flag l.fn.letters)
