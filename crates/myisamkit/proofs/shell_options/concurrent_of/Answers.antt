use Rattle.std.proofs.Common.{take, drop, None, sym}
use Rattle.std.specs.Str.{bytes_eq}
use Rattle.std.proofs.lemmas.Bool.{cond-false}
use Rattle.myisamkit.specs.ShellOptions.{concurrent_insert, concurrent_flag}
use Rattle.myisamkit.proofs.PrefixLaws.{begins_otherwise}
use Rattle.myisamkit.proofs.shell_options.concurrent_of.Goals as goal

pub returns-in-None : goal.returns-in-None
returns-in-None c =
    let word = c.args.word.now in
    sym (cond-false (bytes_eq (take 20 word) concurrent_insert) (concurrent_flag (drop 20 word)) None (begins_otherwise 20 word concurrent_insert c.in-None.ensures.cases))
