-- The positions of rows that a scan has ahead, noted one after the other.
use Rattle.std.specs.Prelude.{◌≡◌, ◌<◌, ◌≤◌, ℕ, Bool, true, false, ◌||◌, List, [], Option}
use Rattle.myi_base.specs.Holding.{Holding, IfTold}
use Rattle.myi_chain.specs.Readable.{Row}
use Rattle.myi_data.specs.Scanning.{TableScan, rows_ahead}
use Rattle.myi_blocks.specs.Places.{is_among, begins_at}

-- the positions among these and those of the rows ahead, together
abbrev pub is_met : ℕ → List ℕ → List Row → Bool
is_met p ps rows = is_among p ps || begins_at p rows

-- the next row's position was noted
pub record NotesOne (h : Option Holding) (old new : TableScan) (before after : List ℕ) : Type 0 where
  pub rises : old.place < new.place
  pub within : new.place ≤ new.end
  pub met : IfTold h (λ m. (p : ℕ) → is_met p after (rows_ahead new m) ≡ is_met p before (rows_ahead old m))

-- a row's position was noted, or no row was left
abbrev pub NotesIf : Bool → Option Holding → TableScan → TableScan → List ℕ → List ℕ → Type 0
NotesIf true h old new before after = NotesOne h old new before after
NotesIf false h old new before after = (after ≡ before) × IfTold h (λ m. rows_ahead old m ≡ [])

-- the positions of all rows were noted
abbrev pub NotesAll : TableScan → List ℕ → Holding → Type 0
NotesAll s ps m = (p : ℕ) → is_among p ps ≡ begins_at p (rows_ahead s m)
