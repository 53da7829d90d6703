use Rattle.std.proofs.Common.{ℕ, List, [], ◌∷◌, ◌++◌, ◌≡◌, ◌∙◌, ap, refl, append_assoc, decimal, string_bytes}
use Rattle.myi_history.specs.Answers.{gets_text, puts_text}
use Rattle.myi_history.proofs.answers.write_counters.Goals as goal

joined : (old number gets puts : List ℕ) → ((old ++ (number ++ gets)) ++ puts) ++ 10 ∷ [] ≡ old ++ (number ++ ((gets ++ puts) ++ 10 ∷ []))
joined old number gets puts = simp append_assoc refl

pub returns : goal.returns
returns c =
    c.in_ok-push_str.ensures.bytes
    ∙ ap (λ bs. bs ++ 10 ∷ []) (c.in_ok-write_puts.ensures ∙ ap (λ bs. bs ++ puts_text c.args.counters.write_requests c.args.counters.writes) c.in_ok-write_gets.ensures)
    ∙ joined (string_bytes c.args.words.now) (decimal c.args.line) (gets_text c.args.counters.read_requests c.args.counters.reads) (puts_text c.args.counters.write_requests c.args.counters.writes)
