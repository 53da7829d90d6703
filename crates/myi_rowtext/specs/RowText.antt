-- The text of a row: its position, and its values in hexadecimal digits (the form is this project's own).
use Rattle.std.specs.Prelude.{◌+◌, ◌/◌, ◌%◌, nat_lt, ℕ, List, [], ◌∷◌, ◌++◌, if◌then◌else◌, codes, decimal}
use Rattle.std.specs.List.{flat_map}
use Rattle.myi_pack.specs.Packed.{Values}

-- a number below 16, as 0 to 9 and A to F
abbrev pub digit : ℕ → ℕ
digit n = if nat_lt n 10 then 48 + n else 55 + n

-- a byte, the high digit first
abbrev pub byte_text : ℕ → List ℕ
byte_text b = digit (b / 16) ∷ digit (b % 16) ∷ []

-- a value, and a dash where it has no bytes
abbrev pub value_text : List ℕ → List ℕ
value_text [] = codes "-"
value_text (b ∷ bs) = flat_map byte_text (b ∷ bs)

-- values, each behind a space
abbrev pub values_text : Values → List ℕ
values_text row = flat_map (λ v. codes " " ++ value_text v) row

-- the row at a place
abbrev pub row_text : ℕ → Values → List ℕ
row_text at row = decimal at ++ values_text row
