-- Counts of calls, reads and faults.
use Rattle.std.specs.Prelude.{◌+◌, ◌-◌, ◌^◌, ℕ, min}

-- one more, up to the end of the type
abbrev pub raised : ℕ → ℕ
raised n = min (n + 1) (2 ^ 64 - 1)
