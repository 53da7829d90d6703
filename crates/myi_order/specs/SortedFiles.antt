-- The two files of a table whose rows were sorted, by its data file before.
use Rattle.std.specs.Prelude.{◌≡◌, ℕ, List, length, Some}
use Rattle.myi_base.specs.Holding.{Holding}
use Rattle.myi_defs.specs.declared.types.Defs.{Defs}
use Rattle.myi_data.specs.Stored.{stored_file}
use Rattle.myi_pair.specs.RebuiltBytes.{rebuilt_index}
use Rattle.myi_repair.specs.declared.report.Report.{Report}
use Rattle.myi_repair.specs.Names.{FourNames, Holds}
use Rattle.myi_repair.specs.Finishing.{IsWhole}
use Rattle.myi_order.specs.Sorting.{rows_of}

-- both files are those of the rows in the order of the key, and this is said of it
abbrev pub SortsFiles : FourNames → Defs → ℕ → ℕ → ℕ → Report → Holding → Holding → Type 0
SortsFiles t d size k now said m n = (x : List ℕ) → m t.rows ≡ Some x → length x ≡ size
    → Holds t (stored_file d (rows_of d k x)) (rebuilt_index d (rows_of d k x) now) n
    × (said ≡ record { kept = length (rows_of d k x); repeats = 0; old_length = length x; new_length = length (stored_file d (rows_of d k x)) })

-- the files are the old ones, or the new data file has taken the old one's place
abbrev pub SortsPart : FourNames → Defs → ℕ → ℕ → ℕ → Holding → Holding → Type 0
SortsPart t d size k now m n = (x : List ℕ) → m t.rows ≡ Some x → length x ≡ size → IsWhole t (stored_file d (rows_of d k x)) (rebuilt_index d (rows_of d k x) now) m n
