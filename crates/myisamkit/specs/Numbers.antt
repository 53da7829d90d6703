-- Numbers among the words of a command: decimal digits, at most twenty (the form is this project's own).
use Rattle.std.specs.Prelude.{ℕ, List, length, nat_lt, nat_le, Option, None, Some, ◌&&◌, if◌then◌else◌}
use Rattle.std.specs.List.{list_all}
use Rattle.myi_deftext.specs.Text.{is_digit, value}

-- the number of a word, where it is from the one number to the other; zeros may stand before it
abbrev pub number_in : ℕ → ℕ → List ℕ → Option ℕ
number_in least most word =
    if (nat_lt 0 (length word) && nat_le (length word) 20) && (list_all is_digit word && (nat_le least (value word) && nat_le (value word) most)) then Some (value word) else None
