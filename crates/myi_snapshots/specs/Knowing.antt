-- What contracts see of the rows that a reader knows.
use Rattle.std.specs.Prelude.{◌≡◌, ◌-◌, ◌^◌, min, ℕ, List}
use Rattle.std.specs.List.{take_while, prefix_len}
use Rattle.myi_defs.specs.declared.types.Defs.{Defs}
use Rattle.myi_defs.specs.Sound.{IsSound}
use Rattle.myi_snapshots.specs.Known.{is_row, end_with}
use Rattle.myi_snapshots.specs.declared.known.KnownRows.TheInside as known

-- the definitions of the table and where its data file ended at first; the whole rows that were read, and for how many words there
-- is memory
pub record Knowing : Type 0 where
  pub defs : Defs
  pub begin : ℕ
  pub whole : List (List ℕ)
  pub room : ℕ

-- the rows of the table: the first of those, up to one that is none
abbrev pub packed_of : Knowing → List (List ℕ)
packed_of k = take_while (is_row k.defs) k.whole

-- a place as it is told: none is past 2^64 - 1
abbrev pub told_place : ℕ → ℕ
told_place n = min n (2 ^ 64 - 1)

-- so many are rows of the table, and behind them the file ends there
pub record IsKnowing (k : known.Inside) : Type 0 where
  pub sound : IsSound k.defs
  pub counted : k.count ≡ prefix_len (is_row k.defs) k.whole.rows
  pub ends : k.end ≡ told_place (end_with k.defs k.begin (take_while (is_row k.defs) k.whole.rows))
