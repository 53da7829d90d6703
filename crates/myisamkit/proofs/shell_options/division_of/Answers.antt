use Rattle.std.proofs.Common.{take, drop, sym, ◌∙◌}
use Rattle.std.specs.Str.{bytes_eq}
use Rattle.std.proofs.lemmas.Bool.{cond-false}
use Rattle.myisamkit.specs.ShellOptions.{division_limit, division_flag, age_of}
use Rattle.myisamkit.proofs.PrefixLaws.{begins_otherwise}
use Rattle.myisamkit.proofs.shell_options.division_of.Goals as goal

pub returns-in-None : goal.returns-in-None
returns-in-None c =
    let word = c.args.word.now in
    c.age_of.ensures ∙ sym (cond-false (bytes_eq (take 27 word) division_limit) (division_flag (drop 27 word)) (age_of word) (begins_otherwise 27 word division_limit c.in-None.ensures.cases))
