use Rattle.std.proofs.Common.{rules, ◌≡◌, ◌++◌, ℕ, List, append_assoc, ap, ◌∙◌}
use Rattle.std.proofs.lemmas.Result.{IfOk-weaker}
use Rattle.std.specs.Prelude.{IfOk, codes, decimal, string_bytes}
use Rattle.std.specs.List.{flat_map}
use Rattle.myisamkit.specs.Lines.{number_text, parts_line}
use Rattle.myisamkit.proofs.lines.push_parts.Goals as goal

-- what was pushed stands behind the others
shifted : (t n k d w f l : List ℕ) → ((t ++ (n ++ (k ++ (d ++ w)))) ++ f) ++ l ≡ t ++ (n ++ (k ++ (d ++ (w ++ (f ++ l)))))
shifted t n k d w f l =
    append_assoc (t ++ (n ++ (k ++ (d ++ w)))) f l
    ∙ (append_assoc t (n ++ (k ++ (d ++ w))) (f ++ l)
    ∙ ap (λ x. t ++ x) (append_assoc n (k ++ (d ++ w)) (f ++ l) ∙ ap (λ x. n ++ x) (append_assoc k (d ++ w) (f ++ l) ∙ ap (λ x. k ++ x) (append_assoc d w (f ++ l)))))

pub returns : goal.returns
unfolding parts_line
returns c =
    let line = c.args.name.now ++ (codes ": key " ++ (decimal c.args.parts.now.key ++ codes " rows per prefix")) in
    let numbers = flat_map number_text c.args.parts.now.per in
    let first : string_bytes c.write.new.self ≡ string_bytes c.args.text.now ++ line = search rules in
    let second : string_bytes c.push_numbers.new.text ≡ (string_bytes c.args.text.now ++ line) ++ numbers =
    c.in_ok-push_numbers.ensures ∙ (ap (λ xs. string_bytes c.write.new.self ++ flat_map number_text xs) c.as_slice.ensures ∙ ap (λ s. s ++ numbers) first) in
    let last : IfOk c.push.result (λ x. string_bytes c.push.new.self ≡ string_bytes c.push_numbers.new.text ++ codes "\n") = search rules in
    IfOk-weaker c.push.result _ _ (λ x e. e ∙ (ap (λ s. s ++ codes "\n") second ∙ shifted (string_bytes c.args.text.now) c.args.name.now (codes ": key ") (decimal c.args.parts.now.key) (codes " rows per prefix") numbers (codes "\n"))) last
