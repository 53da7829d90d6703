-- Writes to one file that follow one another and are not done yet.
use Rattle.std.specs.Prelude.{ℕ, Bool, true, false, ◌-◌, ◌+◌, List, [], ◌∷◌, ◌++◌, length, take, drop, replicate, Option, Some, unwrap_or, if◌then◌else◌}
use Rattle.std.specs.Str.{bytes_eq}
use Rattle.myi_base.specs.Numbers.{AreBytes}
use Rattle.myi_base.specs.Holding.{Holding, HoldsBytes, bytes_of, resized, overwritten}
use Rattle.myi_base.proofs.CallerLemmas.{bytes-take, bytes-drop, bytes-append, bytes-zeros}

-- what the files hold with these bytes written at a place of one of them
abbrev pub written : List ℕ → ℕ → List ℕ → Holding → Holding
written name at bytes m q = if bytes_eq q name then Some (overwritten at bytes (bytes_of name m)) else m q

-- the same where there may be nothing to write
abbrev pub with_pending : List ℕ → ℕ → List ℕ → Holding → Holding
with_pending name at [] m = m
with_pending name at (b ∷ bytes) m = written name at (b ∷ bytes) m

-- what is held is bytes with the writes done, too

overwritten_bytes : (at : ℕ) (b x : List ℕ) → AreBytes b → AreBytes x → AreBytes (overwritten at b x)
overwritten_bytes at b x piece all =
    bytes-append (resized at x ++ b) (drop (at + length b) x)
    (bytes-append (resized at x) b (bytes-append (take at x) (replicate (at - length x) 0) (bytes-take at x all) (bytes-zeros (at - length x))) piece)
    (bytes-drop (at + length b) x all)

chosen : (c : Bool) (x : List ℕ) (o : Option (List ℕ)) → AreBytes x → AreBytes (unwrap_or o []) → AreBytes (unwrap_or (if c then Some x else o) [])
chosen true x o here other = here
chosen false x o here other = other

pub with_bytes : (name : List ℕ) (at : ℕ) (b : List ℕ) (m : Holding) → AreBytes b → HoldsBytes m → HoldsBytes (with_pending name at b m)
with_bytes name at [] m piece all = all
with_bytes name at (x ∷ b) m piece all = λ q. chosen (bytes_eq q name) (overwritten at (x ∷ b) (bytes_of name m)) (m q) (overwritten_bytes at (x ∷ b) (bytes_of name m) piece (all name)) (all q)
