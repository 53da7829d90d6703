-- Why a change is refused, over any files: what holds where the answer says that no row stands at a position, that another row has
-- the key, or that there is no room, as `myi_rows` and `myi_rowtrees` say it.
use Rattle.std.specs.Prelude.{ℕ}
use Rattle.myi_table.specs.declared.fault.ChangeFault.{ChangeFault}
use Rattle.myi_table.specs.declared.fault.ChangeFault.TheVariants as fault

-- The refusal that no row stands at a position, that another row has the key of a number, or that there is no room comes only where
-- this holds, one for each; of the others nothing is said here.
abbrev pub ByCause : (ℕ → Type 0) → (ℕ → Type 0) → Type 0 → ChangeFault → Type 0
ByCause none held full (fault.Broken cause) = Unit {0}
ByCause none held full (fault.NoRow p) = none p
ByCause none held full (fault.Duplicate key p) = held key
ByCause none held full fault.Full = full
ByCause none held full (fault.Damaged p) = Unit {0}
ByCause none held full fault.File = Unit {0}
ByCause none held full fault.Memory = Unit {0}
