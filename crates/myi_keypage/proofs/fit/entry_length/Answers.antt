use Rattle.std.proofs.Common.{◌≡◌, ◌+◌, ◌-◌, ◌∙◌, ℕ, ap, length, drop, arith}
use Rattle.std.proofs.lemmas.List.{length-drop}
use Rattle.myi_keypage.proofs.fit.entry_length.Goals as goal
use Rattle.myi_keypage.specs.Page.{entry_with, entry_bytes, number_bytes}
use Rattle.myi_keypage.proofs.WriteLaws.{length-packed}

pub returns-clause-value : goal.returns-clause-value
returns-clause-value c = λ row.
    let l : length (entry_bytes c.args.rec_ref c.args.before.now (entry_with c.args.key.now row)) ≡ length (number_bytes c.shared_length-prefix.result) + length (number_bytes (length (drop c.shared_length-prefix.result c.args.key.now))) + length (drop c.shared_length-prefix.result c.args.key.now) + c.args.rec_ref =
    rw c.shared_length-prefix.ensures.value (length-packed c.args.rec_ref _ _ row) in
    let d = length-drop c.shared_length-prefix.result c.args.key.now in
    let same : length c.args.key.now - c.shared_length-prefix.result ≡ length (drop c.shared_length-prefix.result c.args.key.now) = omega (arith, d) in
    omega (arith, c.number_length.ensures.value, c.number_length-2.ensures.value ∙ ap (λ (n : ℕ). length (number_bytes n)) same, same)
