-- Which calls of an object in memory fail: those whose numbers, counted from 1, are listed.
use Rattle.std.specs.Prelude.{◌≡◌, ◌==◌, ℕ, Bool, true, false, if◌then◌else◌, List, Result, Err, IfErr}
use Rattle.std.specs.List.{list_any}
use Rattle.myi_io.specs.Counts.{raised}

-- the calls that are to fail, how many calls were made, and how many of them failed
pub record Failing : Type 0 where
  pub fail : List ℕ
  pub calls : ℕ
  pub faults : ℕ

-- the same of its three parts
abbrev pub failing : List ℕ → ℕ → ℕ → Failing
failing fail calls faults = record { fail = fail; calls = calls; faults = faults }

-- no call was made
abbrev pub fresh : List ℕ → Failing
fresh fail = failing fail 0 0

-- the call that comes next is to fail
abbrev pub is_next : Failing → Bool
is_next s = list_any (λ n. n == raised s.calls) s.fail

-- a call was counted, and a fault exactly where it is to fail
abbrev pub counted : Failing → Failing
counted s = failing s.fail (raised s.calls) (if is_next s then raised s.faults else s.faults)

-- a call was counted, and it failed exactly where it is to fail
pub record IsCall {T E : Type 0} (failed : E) (old : Failing) (result : Result T E) (new : Failing) : Type 0 where
  pub counts : new ≡ counted old
  pub fails : is_next old ≡ true → result ≡ Err failed
  pub goes : is_next old ≡ false → IfErr result (λ e. e ≡ failed → ⊥)
