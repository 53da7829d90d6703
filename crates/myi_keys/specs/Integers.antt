-- The number that the content of an integer segment is (MySQL Internals Manual, "MyISAM Record Structure").
use Rattle.std.specs.Prelude.{ℕ, ◌*◌, ◌^◌, List, length, nat_lt, ℤ, pos, ◌-ℤ◌, if◌then◌else◌}
use Rattle.myi_base.specs.Numbers.{low_num}
use Rattle.myi_defs.specs.declared.types.SegType.{SegType}
use Rattle.myi_defs.specs.declared.types.SegType.TheVariants.{ShortInt, LongInt, UshortInt, UlongInt, Longlong, Ulonglong, Int24, Uint24, Int8}

abbrev pub IsSigned : SegType → Type 0
IsSigned ShortInt = Unit {0}
IsSigned LongInt = Unit {0}
IsSigned Longlong = Unit {0}
IsSigned Int24 = Unit {0}
IsSigned Int8 = Unit {0}
IsSigned _ = ⊥

abbrev pub IsUnsigned : SegType → Type 0
IsUnsigned UshortInt = Unit {0}
IsUnsigned UlongInt = Unit {0}
IsUnsigned Ulonglong = Unit {0}
IsUnsigned Uint24 = Unit {0}
IsUnsigned _ = ⊥

-- what n bytes stand for in two's complement: the upper half of the numbers stands for the negative ones
abbrev pub twos_complement : ℕ → ℕ → ℤ
twos_complement n v = if nat_lt (2 * v) (256 ^ n) then pos v else pos v -ℤ pos (256 ^ n)

-- the number that the bytes spell, low byte first
abbrev pub unsigned_number : List ℕ → ℕ
unsigned_number content = low_num (length content) content

-- the number that the bytes spell low byte first, in two's complement
abbrev pub signed_number : List ℕ → ℤ
signed_number content = twos_complement (length content) (unsigned_number content)
