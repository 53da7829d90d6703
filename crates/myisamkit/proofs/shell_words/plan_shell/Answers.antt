use Rattle.std.proofs.Common.{◌∙◌, map, string_bytes, sym, ap}
use Rattle.std.specs.Prelude.{option_map}
use Rattle.myisamkit.specs.Words.{shell}
use Rattle.myisamkit.specs.ShellReading.{shell_seen}
use Rattle.myisamkit.proofs.ShellWordLaws.{request_all, shell_asked}
use Rattle.myisamkit.proofs.shell_words.plan_shell.Goals as goal

pub returns-in-Some : goal.returns-in-Some
returns-in-Some c =
    let words = map (λ w. string_bytes w) c.args.words.now in
    ap (λ o. shell o c.table_name.result.now c.in-Some.script.now) c.options.ensures
    ∙ (ap (λ n. shell (shell_seen c.in-Some.seen) n c.in-Some.script.now) c.table_name.ensures
    ∙ (ap request_all (sym (ap (option_map (λ r. (r.0, r.1.now, r.2.now))) c.in-Some.is) ∙ c.read_shell.ensures) ∙ shell_asked words))

pub returns-in-None : goal.returns-in-None
returns-in-None c =
    let words = map (λ w. string_bytes w) c.args.words.now in
    ap request_all (sym (ap (option_map (λ r. (r.0, r.1.now, r.2.now))) c.in-None.is) ∙ c.read_shell.ensures) ∙ shell_asked words
