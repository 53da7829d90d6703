-- The table of collation 8.
use Rattle.std.proofs.Common.{◌≡◌, ℕ, ◌-◌, ◌<◌, ◌≤◌, List, take, get_or, map, refl, sym, ap, ◌∙◌, arith}
use Rattle.std.specs.List.{range_with_len}
use Rattle.std.specs.Char.{to_ascii_uppercase}
use Rattle.std.proofs.lemmas.List.{get_or-take}
use Rattle.std.proofs.lemmas.List.FromFn.{get_or-map-range_with_len}
use Rattle.std.proofs.lemmas.Bool.{lt-ltb, le-ltb}
use Rattle.myi_keys.specs.declared.collations.TheConstants.{LATIN1_SWEDISH_CI}

pub low_part : take 0xC0 LATIN1_SWEDISH_CI ≡ map to_ascii_uppercase (range_with_len 0 0xC0)
low_part = refl

-- below C0 the weights are those of capital letters
pub low_weight : (b : ℕ) → b < 0xC0 → get_or LATIN1_SWEDISH_CI b 0 ≡ to_ascii_uppercase b
low_weight b inside =
    sym (get_or-take 0xC0 LATIN1_SWEDISH_CI b 0 inside) ∙ ap (λ (xs : List ℕ). get_or xs b 0) low_part ∙ get_or-map-range_with_len to_ascii_uppercase 0 0xC0 b b 0 inside (omega arith)

pub small_letter : (b : ℕ) → 0x61 ≤ b → b ≤ 0x7A → get_or LATIN1_SWEDISH_CI b 0 ≡ b - 0x20
small_letter b least most = low_weight b (omega arith) ∙ rw (le-ltb b 97 least, lt-ltb b 123 (omega arith)) refl

pub before_letters : (b : ℕ) → b < 0x61 → get_or LATIN1_SWEDISH_CI b 0 ≡ b
before_letters b less = low_weight b (omega arith) ∙ rw (lt-ltb b 97 less) refl

pub after_letters : (b : ℕ) → 0x7A < b → b < 0xC0 → get_or LATIN1_SWEDISH_CI b 0 ≡ b
after_letters b more less = low_weight b less ∙ rw (le-ltb b 97 (omega arith), le-ltb b 123 (omega arith)) refl
