-- The rows on the way: a table that stands for the rows that were put so far, and its files behind them.
use Rattle.std.specs.Prelude.{◌≡◌, ◌+◌, ◌%◌, ◌==◌, ◌≤◌, ℕ, zero, suc, Bool, true, false, List, [], ◌∷◌, ◌++◌, length, replicate, Option, Some, Err}
use Rattle.std.specs.List.{AllByRecursion}
use Rattle.myi_base.specs.Holding.{Holding, OthersStay, bytes_of, overwritten}
use Rattle.myi_header.specs.StateOf.{state_of}
use Rattle.myi_opening.specs.Names.{rows_file, index_file}
use Rattle.myi_pack.specs.Packed.{Values}
use Rattle.myi_state.specs.State.{StoredRow, TableState, empty_table}
use Rattle.myi_state.specs.Changes.{insert}
use Rattle.myi_tablestate.specs.Keyed.{KeyedRefusal, keyed_step}
use Rattle.myi_table.specs.Table.{OpenTable, defs_in, HoldState, HoldsThen, IfHolds}
use Rattle.myi_repair.specs.Names.{names_for, KeepsBut}
use Rattle.myi_make.specs.MadeTable.{defs, header, next_number, row_of, row_block, damaged_file}
use Rattle.myi_make.specs.Again.{HasIndex}

-- ---- the data file before it is damaged

-- the blocks of so many rows behind row i, which has the number x
abbrev pub rows_behind : ℕ → ℕ → ℕ → List ℕ
rows_behind zero i x = []
rows_behind (suc k) i x = row_block (row_of (i + 1) (next_number x)) ++ rows_behind k (i + 1) (next_number x)

-- the place of a block and its length
abbrev pub Block : Type 0
Block = ℕ × ℕ

abbrev pub if_tenth : Bool → Block → List Block → List Block
if_tenth true block blocks = block ∷ blocks
if_tenth false block blocks = blocks

-- the blocks of every tenth of these rows, where the first of them stands at a place
abbrev pub tenths : ℕ → ℕ → ℕ → ℕ → List Block
tenths zero i x at = []
tenths (suc k) i x at =
    let size = length (row_block (row_of (i + 1) (next_number x))) in
    if_tenth ((i + 1) % 10 == 0) (at, size) (tenths k (i + 1) (next_number x) (at + size))

abbrev pub tenths_of : ℕ → ℕ → List Block
tenths_of count seed = tenths count 0 seed 0

-- a file with bytes FF over these blocks
abbrev pub damaged_over : List Block → List ℕ → List ℕ
damaged_over [] d = d
damaged_over (b ∷ bs) d = damaged_over bs (overwritten b.0 (replicate b.1 255) d)

-- ---- the table

-- the table has no rows, and was loaded so
pub record IsEmpty (t : OpenTable) (m : Holding) : Type 0 where
  pub header : t.header ≡ state_of defs header
  pub holds : HoldState t empty_table m
  pub bytes : bytes_of (rows_file t.name) m ≡ []

-- one of the first i rows
abbrev pub IsMadeRow : ℕ → StoredRow → Type 0
IsMadeRow i r = (j : ℕ) × (x : ℕ) × (j ≤ i) × (r.values ≡ row_of j x)

-- the table stands for the first i rows, nothing of it is deleted, and its data file has these bytes
pub record HoldsRows (t : OpenTable) (i : ℕ) (file : List ℕ) (m : Holding) : Type 0 where
  pub state : TableState
  pub holds : HoldState t state m
  pub rows : AllByRecursion (IsMadeRow i) state.rows
  pub none : state.space.holes ≡ []
  pub bytes : bytes_of (rows_file t.name) m ≡ file

-- all rows were put, and these are the blocks of every tenth one
pub record HasPut (count seed : ℕ) (blocks : List Block) (t : OpenTable) (n : Holding) : Type 0 where
  pub rows : HoldsRows t count (rows_behind count 0 seed) n
  pub tenths : blocks ≡ tenths_of count seed

-- the state behind a row
abbrev pub TakesRow : Values → Option Holding → Option Holding → OpenTable → OpenTable → Type 0
TakesRow row told next old new = IfHolds told old (λ m s. HoldsThen next new (keyed_step (defs_in old) s (insert row)).state)

-- where the table stands for a state the row is refused by the step
abbrev pub RefusesRow : Values → Option Holding → OpenTable → Type 0
RefusesRow row told old = IfHolds told old (λ m s. (r : KeyedRefusal) × ((keyed_step (defs_in old) s (insert row)).reply ≡ Err r))

-- ---- the files

-- the data file has the rows, none damaged, the index file the definitions of the table; these are the blocks of every tenth row; and
-- files of other names hold what they held
pub record HasFilled (name : List ℕ) (count seed : ℕ) (blocks : List Block) (m n : Holding) : Type 0 where
  pub rows : bytes_of (rows_file name) n ≡ rows_behind count 0 seed
  pub index : HasIndex defs (index_file name) n
  pub tenths : blocks ≡ tenths_of count seed
  pub others : KeepsBut (names_for name) m n

-- bytes FF stand over blocks of a file, and other names keep what they hold
pub record Damages (name : List ℕ) (blocks : List Block) (m n : Holding) : Type 0 where
  pub here : bytes_of name n ≡ damaged_over blocks (bytes_of name m)
  pub others : OthersStay name m n

-- the data file has the rows, damaged, and the index file the definitions of the table; files of other names hold what they held
pub record HasDamaged (name : List ℕ) (count seed : ℕ) (m n : Holding) : Type 0 where
  pub rows : n (rows_file name) ≡ Some (damaged_file count seed)
  pub index : HasIndex defs (index_file name) n
  pub others : KeepsBut (names_for name) m n
