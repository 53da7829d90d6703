-- The faults of a tree.
use Rattle.std.specs.Prelude.{◌≡◌, ◌⊎◌, ℕ}
use Rattle.myi_base.specs.HandsOn.{HandsOn}
use Rattle.myi_keycache.specs.declared.setup.CacheFault.{CacheFault}
use Rattle.myi_keycache.specs.declared.setup.CacheFault.TheVariants as cache
use Rattle.myi_btree.specs.declared.fault.TreeFault.{TreeFault}
use Rattle.myi_btree.specs.declared.fault.TreeFault.TheVariants as tree

-- a fault of the key cache is told so: a page that the file does not have is damage
abbrev pub IsToldAs : CacheFault → TreeFault → Type 0
IsToldAs e f = HandsOn (cache.File, tree.File) (cache.Memory, tree.Memory) e f ⊎ ((at : ℕ) × (e ≡ cache.Short at) × (f ≡ tree.Damaged at))

-- what holds of the place of the fault, where it is Damaged
abbrev pub DamagedAt : (ℕ → Type 0) → TreeFault → Type 0
DamagedAt P fault = (at : ℕ) → fault ≡ tree.Damaged at → P at

abbrev pub IsFileOrMemory : TreeFault → Type 0
IsFileOrMemory fault = (fault ≡ tree.File) ⊎ (fault ≡ tree.Memory)
