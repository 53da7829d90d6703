-- Words that do not begin with the name of an option.
use Rattle.std.proofs.Common.{◌≡◌, ◌≢◌, ℕ, ◌++◌, List, take, drop, false, sym, ap, ◌∙◌}
use Rattle.std.specs.Str.{bytes_eq}
use Rattle.std.proofs.lemmas.Bool.{false_from_ne_true}
use Rattle.std.proofs.lemmas.List.{take-append-drop}
use Rattle.std.proofs.lemmas.Slice.Eq.{bytes_eq-Decides}

-- a text that no prefix and rest make does not begin with the prefix
pub begins_otherwise : (n : ℕ) (word prefix : List ℕ) → ((rest : List ℕ) → word ≢ prefix ++ rest) → bytes_eq (take n word) prefix ≡ false
begins_otherwise n word prefix lacks =
    false_from_ne_true _ (λ same. lacks (drop n word) (sym (take-append-drop n word) ∙ ap (λ xs. xs ++ drop n word) ((bytes_eq-Decides (take n word) prefix).0 same)))
