use Rattle.std.proofs.Common.{take, drop, sym, ◌∙◌}
use Rattle.std.specs.Str.{bytes_eq}
use Rattle.std.proofs.lemmas.Bool.{cond-false}
use Rattle.myisamkit.specs.ShellOptions.{age_threshold, age_flag, concurrent_of}
use Rattle.myisamkit.proofs.PrefixLaws.{begins_otherwise}
use Rattle.myisamkit.proofs.shell_options.age_of.Goals as goal

pub returns-in-None : goal.returns-in-None
returns-in-None c =
    let word = c.args.word.now in
    c.concurrent_of.ensures ∙ sym (cond-false (bytes_eq (take 26 word) age_threshold) (age_flag (drop 26 word)) (concurrent_of word) (begins_otherwise 26 word age_threshold c.in-None.ensures.cases))
