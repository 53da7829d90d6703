-- What a repair leaves of a table (this project's own form of what the MySQL Reference Manual says of
-- myisamchk --recover), for a data file d under these definitions: the files (e, y).
use Rattle.std.specs.Prelude.{◌≡◌, ◌≤◌, ◌<◌, ◌^◌, ℕ, Bool, true, List, length}
use Rattle.myi_base.specs.Numbers.{AreBytes}
use Rattle.myi_defs.specs.declared.types.Defs.{Defs}
use Rattle.myi_defs.specs.Addressable.{is_addressable}
use Rattle.myi_defs.specs.ReadDefs.{AreDefs}
use Rattle.myi_pair.specs.RecoveredBytes.{kept}
use Rattle.myi_pair.specs.Rebuilt.{Rebuilt}

-- what can be repaired: definitions of a header of bytes, with a data file of bytes within their reach, at a time that is a
-- number of eight bytes
pub record IsRepairable (defs : Defs) (d : List ℕ) (now : ℕ) : Type 0 where
  pub defined : AreDefs defs
  pub header : AreBytes defs.raw
  pub bytes : AreBytes d
  pub reached : is_addressable defs (length d) ≡ true
  pub time : now < 2 ^ 64

-- a repair of the data file d at a time leaves the files (e, y)
pub record Recovered (defs : Defs) (extend : Bool) (d : List ℕ) (now : ℕ) (e y : List ℕ) : Type 0 where
  -- a table of exactly the kept rows, in their order
  pub rebuilt : Rebuilt defs (kept defs extend d) now e y
  pub shorter : length e ≤ length d
