-- What holds of each loaded table, whatever files tell: its rows and trees are those of its definitions and of its two files.
use Rattle.std.specs.Prelude.{◌≡◌, ◌≤◌, ℕ, List, length}
use Rattle.myi_defs.specs.declared.types.Defs.{Defs}
use Rattle.myi_defs.specs.ReadDefs.{AreDefs}
use Rattle.myi_header.specs.StateOf.{rest_length}
use Rattle.myi_opening.specs.Names.{rows_file, index_file}
use Rattle.myi_keycache.specs.Setup.{IsSetup}
use Rattle.myi_keyedrows.specs.KeyedRows.{IsFit}
use Rattle.myi_keyedrows.specs.Files.{AreOfKeys}
use Rattle.myi_table.specs.Table.{OpenTable, defs_in}

-- the definitions are those of the header that was read, and the index file is known by this name
pub record IsTied (t : OpenTable) (read : Defs) (file : List ℕ) : Type 0 where
  pub are : AreDefs read
  pub defs : defs_in t ≡ read
  pub fit : IsFit t.rows
  pub keys : AreOfKeys t.rows
  pub rows_named : t.rows.rows.file.name ≡ rows_file t.name
  pub index_named : t.rows.trees.cache.name ≡ index_file t.name
  pub index : file ≡ index_file t.name
  pub rest : length t.header.rest ≡ rest_length read
  pub setup : t.rows.trees.cache.setup ≡ t.setup
  pub allowed : IsSetup t.setup
  pub fewer : t.added.reads ≤ t.added.read_requests
