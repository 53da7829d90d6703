-- The faults of an analysis and of sorting: those of opening the table, and those that are no refusal.
use Rattle.std.specs.Prelude.{◌≡◌, ◌≢◌, ◌⊎◌, ◌<◌, ℕ, List, Option, None}
use Rattle.myi_base.specs.Holding.{Holding, Told}
use Rattle.myi_opening.specs.declared.fault.TableFault.{TableFault}
use Rattle.myi_opening.specs.declared.fault.TableFault.TheVariants as table
use Rattle.myi_repair.specs.Faults.{RoseAtMost}
use Rattle.myi_order.specs.declared.fault.OrderFault.{OrderFault}
use Rattle.myi_order.specs.declared.fault.OrderFault.TheVariants as order

-- the fault that one of opening the table is
abbrev pub order_fault : TableFault → OrderFault
order_fault (table.Absent f) = order.Absent f
order_fault (table.Def f) = order.Def f
order_fault table.File = order.File
order_fault table.Memory = order.Memory

-- a fault that is no refusal of the table
abbrev pub CutsOff : OrderFault → Type 0
CutsOff fault = (fault ≡ order.File) ⊎ (fault ≡ order.Memory)

-- no key is said to be missing
abbrev pub MissesNoKey : OrderFault → Type 0
MissesNoKey fault = (keys : ℕ) → fault ≢ order.NoKey keys

-- a key is said to be missing only where its number is none of so many, which begin with 1
abbrev pub LacksKey : ℕ → OrderFault → Type 0
LacksKey key fault = (keys : ℕ) → fault ≡ order.NoKey keys → (key ≡ 0) ⊎ (keys < key)

-- how many faults of the files an answer tells of
abbrev pub faults_told : OrderFault → ℕ
faults_told (order.Absent f) = 0
faults_told (order.Def f) = 0
faults_told (order.NoKey keys) = 0
faults_told (order.Damaged f) = 0
faults_told order.File = 1
faults_told order.Memory = 0

-- nothing changed, or no file has the working file's name
abbrev pub Clears : List ℕ → Holding → Holding → Type 0
Clears working m n = (n ≡ m) ⊎ (n working ≡ None)

-- Where no more calls failed than the error tells of, while the files' count of faults rose from the one number to the other,
-- the working file is not left.
abbrev pub IsCleared : List ℕ → Option Holding → Option Holding → ℕ → ℕ → OrderFault → Type 0
IsCleared working old new before now fault = RoseAtMost (faults_told fault) before now → Told old new (Clears working)
