-- The lengths that stand before the content of a field (MySQL Internals Manual, "MyISAM Dynamic Data
-- File Layout"), as relations: a field has n bytes in the definitions, and the bytes p give the length k.
use Rattle.std.specs.Prelude.{◌≡◌, ◌≤◌, ◌<◌, ◌+◌, ◌/◌, ◌%◌, ◌^◌, ℕ, nat_le, if◌then◌else◌, List, [], ◌∷◌, ◌⊎◌}
use Rattle.myi_base.specs.Numbers.{num_bytes, low_num_bytes}

-- of the content of a SKIP_ENDSPACE or SKIP_PRESPACE field: one byte, or, in a field of more than 255
-- bytes, two with the low seven bits first
abbrev pub IsSkipLength : ℕ → ℕ → List ℕ → Type 0
IsSkipLength n k p =
    ((n ≤ 255 ⊎ (k < 128)) × (p ≡ k ∷ []))
    ⊎ ((255 < n) × (k < 32768) × (p ≡ (k % 128 + 128) ∷ (k / 128) ∷ []))

-- of a VARCHAR field in a dynamic table: one byte, or, in a field of more than 256 bytes, one byte below
-- 255 or 255 and two bytes, high byte first
abbrev pub IsVarcharLength : ℕ → ℕ → List ℕ → Type 0
IsVarcharLength n k p =
    ((n ≤ 256 ⊎ (k < 255)) × (p ≡ k ∷ []))
    ⊎ ((256 < n) × (k < 65536) × (p ≡ 255 ∷ num_bytes 2 k))

-- in w bytes, low byte first
abbrev pub IsLowLength : ℕ → ℕ → List ℕ → Type 0
IsLowLength w k p = (k < 256 ^ w) × (p ≡ low_num_bytes w k)

-- how many bytes of a VARCHAR field's length are those of its content's length
abbrev pub length_bytes : ℕ → ℕ
length_bytes n = if nat_le n 256 then 1 else 2
