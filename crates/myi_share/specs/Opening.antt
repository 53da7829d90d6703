-- Reader objects of files, as they are made.
use Rattle.std.specs.Prelude.{◌≡◌, ℕ, List, length, Option, Some}
use Rattle.myi_base.specs.Holding.{Holding, bytes_of}
use Rattle.myi_table.specs.Table.{OpenTable}

-- the file of a name is so long, and these are its bytes
pub record IsOpenedAs (name : List ℕ) (long : ℕ) (shown : Option (List ℕ)) (m : Holding) : Type 0 where
  pub length : long ≡ length (bytes_of name m)
  pub bytes : shown ≡ Some (bytes_of name m)

-- two reader objects tell of the two files of a table what these hold
abbrev pub AreOpened : OpenTable → Option Holding → Holding → Type 0
AreOpened table objects m = (n : Holding) × (objects ≡ Some n)
    × (bytes_of table.rows.rows.file.name n ≡ bytes_of table.rows.rows.file.name m) × (bytes_of table.rows.trees.cache.name n ≡ bytes_of table.rows.trees.cache.name m)
