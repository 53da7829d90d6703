use Rattle.std.proofs.Common.{take, drop, sym, ◌∙◌}
use Rattle.std.specs.Str.{bytes_eq}
use Rattle.std.proofs.lemmas.Bool.{cond-false}
use Rattle.myisamkit.specs.ShellOptions.{cache_blocks, blocks_flag, division_of}
use Rattle.myisamkit.proofs.PrefixLaws.{begins_otherwise}
use Rattle.myisamkit.proofs.shell_options.shell_flag.Goals as goal

pub returns-in-None : goal.returns-in-None
returns-in-None c =
    let word = c.args.word.now in
    c.division_of.ensures ∙ sym (cond-false (bytes_eq (take 19 word) cache_blocks) (blocks_flag (drop 19 word)) (division_of word) (begins_otherwise 19 word cache_blocks c.in-None.ensures.cases))
