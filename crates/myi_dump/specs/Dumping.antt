-- What the steps of a dump do: a row is read and its line waits, and what waits is written.
use Rattle.std.specs.Prelude.{◌≡◌, ◌<◌, ◌≤◌, ℕ, Bool, true, false, List, [], ◌∷◌, ◌++◌, codes, Option}
use Rattle.myi_base.specs.Holding.{Holding, IfTold}
use Rattle.myi_base.specs.Output.{Appends}
use Rattle.myi_defs.specs.declared.types.Defs.{Defs}
use Rattle.myi_pack.specs.Packed.{Values}
use Rattle.myi_chain.specs.Readable.{Row}
use Rattle.myi_data.specs.Scanning.{TableScan, rows_ahead}
use Rattle.myi_rowtext.specs.RowText.{row_text}
use Rattle.myi_dump.specs.RowLines.{row_line}

-- the line of the row at a place
abbrev pub line_of : ℕ → Values → List ℕ
line_of at row = row_text at row ++ codes "\n"

-- a row was read, the first that was left, and its line waits behind the others; the other rows are left
pub record Reads (d : Defs) (told : Option Holding) (s t : TableScan) (old new : List ℕ) : Type 0 where
  pub row : Row
  pub waits : new ≡ old ++ row_line d row
  pub rises : s.place < t.place
  pub within : t.place ≤ t.end
  pub first : IfTold told (λ m. rows_ahead s m ≡ row ∷ rows_ahead t m)

-- a row was read, or none was left
abbrev pub ReadsIf : Bool → Defs → Option Holding → TableScan → TableScan → List ℕ → List ℕ → Type 0
ReadsIf true d told s t old new = Reads d told s t old new
ReadsIf false d told s t old new = (new ≡ old) × IfTold told (λ m. rows_ahead s m ≡ [])

-- a front of what waited was written, and the rest waits
abbrev pub Moves : List ℕ → List ℕ → Option (List ℕ) → Option (List ℕ) → Type 0
Moves old new before after = (front : List ℕ) × (old ≡ front ++ new) × IfTold before (Appends front after)
