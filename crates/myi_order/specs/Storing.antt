-- New numbers that are put into an index file, and what of the files changes then.
use Rattle.std.specs.Prelude.{◌≡◌, ◌≢◌, ℕ, List, [], ◌∷◌, Some, None, Ok}
use Rattle.myi_base.specs.Holding.{Holding, bytes_of, overwritten}
use Rattle.myi_defs.specs.declared.types.Defs.{Defs}
use Rattle.myi_defs.specs.ReadDefs.{read_defs}
use Rattle.myi_header.specs.declared.analysis.NewNumbers.{NewNumbers}
use Rattle.myi_order.specs.declared.counting.Counted.{Counted}
use Rattle.myi_header.specs.Analysis.{changed_place, with_numbers}
use Rattle.myi_order.specs.Numbers.{all_per}

-- a file with new numbers
abbrev pub with_new : NewNumbers → List ℕ → List ℕ
with_new numbers x = overwritten numbers.place numbers.bytes.items (overwritten changed_place (numbers.changed ∷ []) x)

-- the index file has new numbers, and the working file is gone
pub record Replaces (index working : List ℕ) (numbers : NewNumbers) (m n : Holding) : Type 0 where
  pub there : n index ≡ Some (with_new numbers (bytes_of index m))
  pub gone : n working ≡ None

-- the index file is as before
abbrev pub KeepsIndex : List ℕ → Holding → Holding → Type 0
KeepsIndex index m n = n index ≡ m index

-- files of other names hold what they held
abbrev pub OthersStayOf : List ℕ → List ℕ → Holding → Holding → Type 0
OthersStayOf index working m n = (q : List ℕ) → q ≢ index → q ≢ working → n q ≡ m q

-- the index file, where it begins with the header of these definitions, has the numbers of what was counted, and the working
-- file is gone
pub record Stores (index working : List ℕ) (d : Defs) (c : Counted) (m n : Holding) : Type 0 where
  pub stored : (x : List ℕ) → m index ≡ Some x → read_defs x ≡ Ok d → n index ≡ Some (with_numbers d c.rows (all_per c.parts.items) x)
  pub none : n working ≡ None
