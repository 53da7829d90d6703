-- Which of a field's two forms is spelled in a dynamic row: that with the flag exactly where it is shorter than each
-- without (MySQL Internals Manual, "MyISAM Dynamic Data File Layout", for the forms; that the form without wins at
-- equal length is what servers write).
use Rattle.std.specs.Prelude.{◌≡◌, ◌≤◌, ◌<◌, ℕ, Bool, true, false, List, [], length, take, slice_index_or}
use Rattle.myi_defs.specs.declared.types.FieldKind.{FieldKind}
use Rattle.myi_defs.specs.declared.types.Field.{Field}
use Rattle.myi_defs.specs.declared.types.Defs.{Defs}
use Rattle.myi_defs.specs.Kinds.{has_flag}
use Rattle.myi_pack.specs.Flags.{flag_at, flag_count}
use Rattle.myi_pack.specs.Packed.{Values, PacksField}
use Rattle.myi_pack.specs.Spelling.{spelling}

-- a flag of this value stands for the form of a field that wins: with the flag it is shorter than each form without,
-- and without the flag no longer than any form with it
abbrev pub Wins : FieldKind → ℕ → List ℕ → Bool → Type 0
Wins kind n v true =
    (x : List ℕ) × PacksField kind n true v x
    × ((y : List ℕ) → PacksField kind n false v y → length x < length y)
Wins kind n v false =
    (x : List ℕ) × PacksField kind n false v x
    × ((y : List ℕ) → PacksField kind n true v y → length x ≤ length y)

-- the number of field i's flag: flags stand in the order of the fields that have one
abbrev pub flag_number : List Field → ℕ → ℕ
flag_number fs i = flag_count (take i fs)

-- the flag of field i in the spelled row, if the field has one, is that of the form that wins
abbrev pub WinsInRow : Defs → Values → ℕ → Field → Type 0
WinsInRow d row i f = has_flag f.kind ≡ true → Wins f.kind f.length (slice_index_or row i []) (flag_at (spelling d row) (flag_number d.fields i))
