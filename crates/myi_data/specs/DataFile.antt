-- What an object of a data file keeps: the file's name, the definitions of its table, and how far it is scanned.
use Rattle.std.specs.Prelude.{ℕ, List}
use Rattle.myi_defs.specs.declared.types.Defs.{Defs}

pub record TableFile : Type 0 where
  pub name : List ℕ
  pub defs : Defs
  pub length : ℕ
