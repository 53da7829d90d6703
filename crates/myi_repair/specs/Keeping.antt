-- The rows that came so far, and what of them was written: of each row that comes a choice by its number, from 0, says whether
-- it is written. That rows can be stored is known where the files tell what they hold; the rest holds of any files.
use Rattle.std.specs.Prelude.{◌≡◌, ◌≤◌, ◌<◌, ◌+◌, ◌^◌, ℕ, Bool, true, false, List, [], ◌∷◌, ◌++◌, length, map, slice_index_or, Some}
use Rattle.std.specs.List.{AllByRecursion, range_with_len}
use Rattle.myi_base.specs.Holding.{Holding}
use Rattle.myi_defs.specs.declared.types.Defs.{Defs}
use Rattle.myi_pack.specs.Spelling.{fits, spelling}
use Rattle.myi_keylist.specs.Classes.{picked}
use Rattle.myi_data.specs.Stored.{SizedRow, stored_size, stored_file, block_count, IsStorable}
use Rattle.myi_pair.specs.KeyList.{pointer}
use Rattle.myi_repair.specs.declared.next_row.NextRow.{NextRow}
use Rattle.myi_repair.specs.declared.new_rows.NewRows.{NewRows}

-- ---- the row that comes next

-- the row was read and is spelled
pub record IsPrepared (d : Defs) (row : SizedRow) (next : NextRow) : Type 0 where
  pub fit : fits d row.values ≡ true
  pub bytes : next.bytes.items ≡ spelling d row.values
  pub sizes : next.sizes.items ≡ row.sizes

-- ---- the rows that came

-- the flag of a number, which is not set where there is none
abbrev pub is_chosen : List Bool → ℕ → Bool
is_chosen flags number = slice_index_or flags number false

-- what is chosen of so many rows
abbrev pub flags_by : (ℕ → Bool) → ℕ → List Bool
flags_by choose n = map choose (range_with_len 0 n)

-- the rows that are chosen
abbrev pub chosen : (ℕ → Bool) → List SizedRow → List SizedRow
chosen choose rows = picked (flags_by choose (length rows)) rows

-- the pointer of each row with a set flag, where these stand one after the other, the first at a place; 0 for the others
abbrev pub pointers_at : Defs → ℕ → List Bool → List SizedRow → List ℕ
pointers_at d at [] rows = []
pointers_at d at (b ∷ flags) [] = []
pointers_at d at (true ∷ flags) (row ∷ rows) = pointer d at ∷ pointers_at d (at + stored_size d row) flags rows
pointers_at d at (false ∷ flags) (row ∷ rows) = 0 ∷ pointers_at d at flags rows

-- all of these rows have the form that the definitions ask for
abbrev pub AreFit : Defs → List SizedRow → Type 0
AreFit d rows = AllByRecursion (λ (row : SizedRow). fits d row.values ≡ true) rows

-- all of these rows can be stored
abbrev pub AreStorable : Defs → List SizedRow → Type 0
AreStorable d rows = AllByRecursion (IsStorable d) rows

-- these rows came, and each has a pointer
pub record HaveCome (d : Defs) (rows : List SizedRow) (w : NewRows) : Type 0 where
  pub fit : AreFit d rows
  pub long : length w.pointers ≡ length rows
  pub near : AllByRecursion (λ p. p < 256 ^ d.rec_ref) w.pointers
  -- bounds
  pub few : w.kept ≤ length w.pointers
  pub less : w.split ≤ w.end
  pub short : w.end ≤ 2 ^ 40

-- the chosen ones were written
pub record AreStored (d : Defs) (choose : ℕ → Bool) (rows : List SizedRow) (w : NewRows) : Type 0 where
  pub kept : w.kept ≡ length (chosen choose rows)
  pub split : w.split ≡ block_count d (chosen choose rows)
  pub end : w.end ≡ length (stored_file d (chosen choose rows))
  pub pointers : w.pointers ≡ pointers_at d 0 (flags_by choose (length rows)) rows

-- these rows came, and the chosen ones were written if all can be stored
pub record HasWritten (d : Defs) (choose : ℕ → Bool) (rows : List SizedRow) (w : NewRows) : Type 0 where
  pub came : HaveCome d rows w
  pub stored : AreStorable d rows → AreStored d choose rows w

-- one more row has come, of which the choice was this
abbrev pub Adds : Defs → Bool → SizedRow → NewRows → NewRows → Type 0
Adds d b row k l = (choose : ℕ → Bool) (rows : List SizedRow) → choose (length rows) ≡ b → HasWritten d choose rows k → HasWritten d choose (rows ++ row ∷ []) l

-- a file that held the chosen rows, which can be stored, holds those that are chosen once the row has come
abbrev pub WritesIf : Defs → List ℕ → Bool → SizedRow → NewRows → Holding → Holding → Type 0
WritesIf d file b row k m n =
    (choose : ℕ → Bool) (rows : List SizedRow) → choose (length rows) ≡ b → HasWritten d choose rows k → AreStorable d rows
    → m file ≡ Some (stored_file d (chosen choose rows)) → n file ≡ Some (stored_file d (chosen choose (rows ++ row ∷ [])))
