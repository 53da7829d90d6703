-- How an error of one layer is told by the layer above.
use Rattle.std.specs.Prelude.{◌≡◌, ◌⊎◌}

-- These two errors, of a layer and of the one above it, tell of the same: both of a call that failed, as the first pair
-- does, or both of want of memory, as the second does.
abbrev pub HandsOn : {E F : Type 0} → E × F → E × F → E → F → Type 0
HandsOn failed memory e f = ((e ≡ failed.0) × (f ≡ failed.1)) ⊎ ((e ≡ memory.0) × (f ≡ memory.1))
