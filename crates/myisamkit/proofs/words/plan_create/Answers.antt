use Rattle.std.proofs.Common.{◌∙◌, map, string_bytes, sym, ap}
use Rattle.std.specs.Prelude.{option_map}
use Rattle.myisamkit.specs.Words.{create}
use Rattle.myisamkit.proofs.CreateWordLaws.{request_both, create_asked}
use Rattle.myisamkit.proofs.words.plan_create.Goals as goal

pub returns-in-Some : goal.returns-in-Some
returns-in-Some c =
    let words = map (λ w. string_bytes w) c.args.words.now in
    ap (λ n. create n c.in-Some.file.now) c.table_name.ensures ∙ (ap request_both (sym (ap (option_map (λ p. (p.0.now, p.1.now))) c.in-Some.is) ∙ c.two_names.ensures) ∙ create_asked words)

pub returns-in-None : goal.returns-in-None
returns-in-None c =
    let words = map (λ w. string_bytes w) c.args.words.now in
    ap request_both (sym (ap (option_map (λ p. (p.0.now, p.1.now))) c.in-None.is) ∙ c.two_names.ensures) ∙ create_asked words
