use Rattle.std.proofs.Common.{◌∙◌, map, string_bytes, sym, ap}
use Rattle.std.specs.Prelude.{option_map}
use Rattle.myisamkit.specs.Words.{dump}
use Rattle.myisamkit.proofs.DumpLaws.{request_named, dump_asked}
use Rattle.myisamkit.proofs.words.plan_dump.Goals as goal

pub returns-in-Some : goal.returns-in-Some
returns-in-Some c =
    let words = map (λ w. string_bytes w) c.args.words.now in
    ap dump c.table_name.ensures ∙ (ap request_named (sym (ap (option_map (λ n. n.now)) c.in-Some.is) ∙ c.only_name.ensures) ∙ dump_asked words)

pub returns-in-None : goal.returns-in-None
returns-in-None c =
    let words = map (λ w. string_bytes w) c.args.words.now in
    ap request_named (sym (ap (option_map (λ n. n.now)) c.in-None.is) ∙ c.only_name.ensures) ∙ dump_asked words
