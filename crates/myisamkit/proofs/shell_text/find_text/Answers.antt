use Rattle.std.proofs.Common.{sym, ap, string_bytes, ◌∙◌}
use Rattle.std.specs.Prelude.{option_map}
use Rattle.myisamkit.proofs.ShellFoundLaws.{file_is, text_read}
use Rattle.myisamkit.proofs.shell_text.find_text.Goals as goal

pub returns-clause-read : goal.returns-clause-read
returns-clause-read g c m held =
    let measured = c.first_absent.ensures.holds ∙ held in
    let looked = c.length.ensures.holds ∙ measured in
    text_read c.args.script.now _ _ (m c.args.script.now) c.in_ok-text.text.items (sym (c.in_ok-line.ensures.line m held) ∙ ap (option_map (λ s. string_bytes s)) c.in_default.is) (sym (c.in_ok-said.ensures.said m looked) ∙ ap (option_map (λ s. string_bytes s)) c.in_default-3.is)
    (file_is c.args.script.now c.in_ok-text.text.items m c.in_ok-length.field-0 c.in-Some-2.length c.in-Some-2.is (c.in_ok-length.ensures.told m measured) (c.in_ok-text.ensures.told m (c.first_wrong.ensures.holds ∙ looked)))
