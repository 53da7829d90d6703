-- The collations that keys are taken in, by the numbers that segments name them by, and the weight of a byte in each
-- (MySQL Reference Manual, "Supported Character Sets and Collations", "The utf8mb3 Character Set", "The utf8mb4
-- Character Set"; the table of collation 8 is this project's own).
use Rattle.std.specs.Prelude.{ℕ, ◌==◌, List, [], ◌∷◌, ◌++◌, slice_index, Option, Some, None, if◌then◌else◌}
use Rattle.std.specs.Char.{to_ascii_uppercase}
use Rattle.myi_keys.specs.declared.collations.Collation.{Collation}
use Rattle.myi_keys.specs.declared.collations.Collation.TheVariants.{Latin1SwedishCi, AsciiGeneralCi, Utf8mb4Bin, Latin1Bin, Binary, AsciiBin, Utf8mb3Bin}
use Rattle.myi_keys.specs.declared.collations.TheConstants.{LATIN1_SWEDISH_CI}

-- the collation of a number
abbrev pub collation_of : ℕ → Option Collation
collation_of n =
    if n == 8 then Some Latin1SwedishCi
    else if n == 11 then Some AsciiGeneralCi
    else if n == 46 then Some Utf8mb4Bin
    else if n == 47 then Some Latin1Bin
    else if n == 63 then Some Binary
    else if n == 65 then Some AsciiBin
    else if n == 83 then Some Utf8mb3Bin
    else None

-- how many bytes of a segment's length stand for one character, where the length counts characters
abbrev pub character_width : Collation → Option ℕ
character_width Utf8mb4Bin = Some 4
character_width Utf8mb3Bin = Some 3
character_width _ = None

-- the weight of a byte: from the table, or that of the capital letter, or the byte itself
abbrev pub weight : Collation → ℕ → ℕ
weight Latin1SwedishCi b = slice_index LATIN1_SWEDISH_CI b
weight AsciiGeneralCi b = to_ascii_uppercase b
weight _ b = b

-- the weights of C0 to FF in collation 8: accents fall away, but for those of Swedish
abbrev pub letters_with_accents : List ℕ
letters_with_accents =
    (65 ∷ 65 ∷ 65 ∷ 65 ∷ 92 ∷ 91 ∷ 92 ∷ 67 ∷ 69 ∷ 69 ∷ 69 ∷ 69 ∷ 73 ∷ 73 ∷ 73 ∷ 73 ∷ [])
    ++ (68 ∷ 78 ∷ 79 ∷ 79 ∷ 79 ∷ 79 ∷ 93 ∷ 215 ∷ 216 ∷ 85 ∷ 85 ∷ 85 ∷ 89 ∷ 89 ∷ 222 ∷ 223 ∷ [])
    ++ (65 ∷ 65 ∷ 65 ∷ 65 ∷ 92 ∷ 91 ∷ 92 ∷ 67 ∷ 69 ∷ 69 ∷ 69 ∷ 69 ∷ 73 ∷ 73 ∷ 73 ∷ 73 ∷ [])
    ++ (68 ∷ 78 ∷ 79 ∷ 79 ∷ 79 ∷ 79 ∷ 93 ∷ 247 ∷ 216 ∷ 85 ∷ 85 ∷ 85 ∷ 89 ∷ 89 ∷ 222 ∷ 255 ∷ [])
