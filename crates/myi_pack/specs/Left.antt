-- The values of the fields that a walk over a row has still before it (this project's own).
use Rattle.std.specs.Prelude.{◌≤◌, ◌+◌, ℕ, List, [], length, All, Option, Some, None, IsSome}
use Rattle.myi_defs.specs.declared.types.RowFormat.{RowFormat}
use Rattle.myi_defs.specs.declared.types.Field.{Field}
use Rattle.myi_defs.specs.Sound.{IsLengthOf, StartFrom}
use Rattle.myi_pack.specs.Packed.{Values}
use Rattle.myi_pack.specs.Unpacking.{fields_of}

abbrev pub values_of : Option (Values × List ℕ) → Values
values_of None = []
values_of (Some r) = r.0

-- the values of these fields in the bytes, where flag k is the first of theirs
abbrev pub values_left : RowFormat → List Field → ℕ → List ℕ → List ℕ → Values
values_left format fs k flags b = values_of (fields_of format fs k flags b)

-- the bytes have these fields in front
pub record IsLeft (format : RowFormat) (fs : List Field) (k : ℕ) (flags b : List ℕ) : Type 0 where
  pub some : IsSome (fields_of format fs k flags b)
  pub lengths : All (λ f. IsLengthOf format f.kind f.length) fs
  pub few : k + length fs ≤ 4096

-- the bytes have these fields in front, of which each starts where the fields before it end
pub record IsPlaced (format : RowFormat) (fs : List Field) (flags b : List ℕ) : Type 0 where
  pub left : IsLeft format fs 0 flags b
  pub starts : StartFrom 0 fs
