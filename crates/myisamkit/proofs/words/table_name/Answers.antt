use Rattle.std.proofs.Common.{◌≡◌, ◌≢◌, ℕ, ◌-◌, ◌++◌, List, length, take, drop, false, sym, ap, ◌∙◌}
use Rattle.std.specs.Prelude.{nat_lt, codes}
use Rattle.std.specs.Str.{bytes_eq}
use Rattle.std.proofs.lemmas.Bool.{false_from_ne_true, and_right, cond-false}
use Rattle.std.proofs.lemmas.List.{take-append-drop}
use Rattle.std.proofs.lemmas.Slice.Eq.{bytes_eq-Decides}
use Rattle.myisamkit.specs.Words.{names_index}
use Rattle.myisamkit.proofs.words.table_name.Goals as goal

-- a text that no front and suffix make does not end with the suffix
ends_otherwise : (n : ℕ) (word suffix : List ℕ) → ((front : List ℕ) → word ≢ front ++ suffix) → bytes_eq (drop n word) suffix ≡ false
ends_otherwise n word suffix lacks =
    false_from_ne_true _ (λ same. lacks (take n word) (sym (take-append-drop n word) ∙ ap (λ ys. take n word ++ ys) ((bytes_eq-Decides (drop n word) suffix).0 same)))

pub returns-in-None : goal.returns-in-None
returns-in-None c =
    let word = c.args.word.now in
    let other : names_index word ≡ false = and_right (nat_lt 4 (length word)) _ (ends_otherwise (length word - 4) word (codes ".MYI") c.in-None.ensures.cases) in
    sym (cond-false (names_index word) (take (length word - 4) word) word other)
