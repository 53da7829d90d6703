use Rattle.std.proofs.Common.{take, drop, None, sym}
use Rattle.std.specs.Str.{bytes_eq}
use Rattle.std.proofs.lemmas.Bool.{cond-false}
use Rattle.myisamkit.specs.Options.{sort_records, sort_flag}
use Rattle.myisamkit.proofs.PrefixLaws.{begins_otherwise}
use Rattle.myisamkit.proofs.options.valued_flag.Goals as goal

pub returns-in-None : goal.returns-in-None
returns-in-None c =
    let name = c.args.name.now in
    sym (cond-false (bytes_eq (take 13 name) sort_records) (sort_flag (drop 13 name)) None (begins_otherwise 13 name sort_records c.in-None.ensures.cases))
