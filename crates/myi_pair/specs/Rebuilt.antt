-- What a table of given rows is to be when its two files were made anew (the words are this project's own): for rows under
-- these definitions, the files (e, y).
use Rattle.std.specs.Prelude.{◌≡◌, ◌<◌, ◌^◌, ℕ, true, false, List, [], length, map, take, Ok}
use Rattle.std.specs.List.{AllByRecursion}
use Rattle.myi_base.specs.Numbers.{num_at, AreBytes}
use Rattle.myi_defs.specs.declared.types.Defs.{Defs}
use Rattle.myi_defs.specs.Addressable.{is_addressable}
use Rattle.myi_defs.specs.ReadDefs.{read_defs, AreDefs}
use Rattle.myi_defs.specs.Elsewhere.{AgreeOutsideState}
use Rattle.myi_header.specs.StateOf.{state_of}
use Rattle.myi_data.specs.Readable.{readable}
use Rattle.myi_data.specs.Stored.{SizedRow, values_in, stored_file, IsStorable}
use Rattle.myi_pair.specs.FirstRows.{AreDistinct}
use Rattle.myi_pair.specs.Clean.{values_of, IsClean}
use Rattle.myi_pair.specs.RebuiltBytes.{rebuilt_state}

-- of which rows a table can be made: definitions of a header of bytes, rows that can be stored and of which none repeats
-- another in a unique key, in a data file within their reach, at a time that is a number of eight bytes
pub record CanBeRebuilt (d : Defs) (rows : List SizedRow) (now : ℕ) : Type 0 where
  pub defined : AreDefs d
  pub header : AreBytes d.raw
  pub storable : AllByRecursion (IsStorable d) rows
  pub distinct : AreDistinct d [] (values_in rows)
  pub reached : is_addressable d (length (stored_file d rows)) ≡ true
  pub time : now < 2 ^ 64

-- the files (e, y) are a table of these rows, made at a time
pub record Rebuilt (d : Defs) (rows : List SizedRow) (now : ℕ) (e y : List ℕ) : Type 0 where
  -- exactly these rows, in their order
  pub read : map (values_of d) (readable d false e) ≡ values_in rows
  -- each stored anew, one directly after another
  pub laid : e ≡ stored_file d rows
  -- the same definitions, and no byte of the header changed that is neither state nor mark
  pub definitions : read_defs y ≡ Ok (record d { raw = take (num_at 6 2 d.raw) y })
  pub elsewhere : AgreeOutsideState d.raw y
  -- clean, with the state of such a table
  pub clean : IsClean e y
  pub state : state_of d y ≡ rebuilt_state d rows now
