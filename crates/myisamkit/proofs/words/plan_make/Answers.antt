use Rattle.std.proofs.Common.{◌∙◌, map, string_bytes, sym, ap}
use Rattle.std.specs.Prelude.{option_map}
use Rattle.myisamkit.proofs.MakeWordLaws.{request_three, make_asked}
use Rattle.myisamkit.proofs.words.plan_make.Goals as goal

pub returns-in-Some : goal.returns-in-Some
returns-in-Some c =
    let words = map (λ w. string_bytes w) c.args.words.now in
    c.plan_rows.ensures ∙ (ap request_three (sym (ap (option_map (λ w. (w.0.now, w.1.now, w.2.now))) c.in-Some.is) ∙ c.three_words.ensures) ∙ make_asked words)

pub returns-in-None : goal.returns-in-None
returns-in-None c =
    let words = map (λ w. string_bytes w) c.args.words.now in
    ap request_three (sym (ap (option_map (λ w. (w.0.now, w.1.now, w.2.now))) c.in-None.is) ∙ c.three_words.ensures) ∙ make_asked words
