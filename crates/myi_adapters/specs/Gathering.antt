-- What files with gathered writes hold.
use Rattle.std.specs.Prelude.{◌≡◌, ◌≢◌, ◌+◌, ℕ, List, [], length, Option, string_bytes}
use Rattle.std.specs.Option.{option_map}
use Rattle.myi_base.specs.Holding.{Holding, HoldsBytes}
use Rattle.myi_adapters.specs.declared.pending.Pending.{Pending}
use Rattle.myi_adapters.specs.Pending.{with_pending, with_bytes}

-- what files hold with the writes done
abbrev pub pending_done : Pending → Holding → Holding
pending_done p m = with_pending (string_bytes p.name) p.at p.bytes.items m

-- the same where it is told
abbrev pub pending_shown : Pending → Option Holding → Option Holding
pending_shown p told = option_map (pending_done p) told

-- the same is told with the writes done
abbrev pub SameShown : Pending → Option Holding → Pending → Option Holding → Type 0
SameShown p told q new = pending_shown q new ≡ pending_shown p told

-- this change of the writes does that to what is held with them done
abbrev pub Does : (Holding → Holding → Type 0) → Pending → Pending → Type 0
Does P p q = (m : Holding) → P (pending_done p m) (pending_done q m)

-- what is done to the files is done to what is held with the writes done, too
abbrev pub Carries : (Holding → Holding → Type 0) → Pending → Pending → Type 0
Carries P p q = (m n : Holding) → P m n → P (pending_done p m) (pending_done q n)

-- a file has no part in the writes
abbrev pub HasNone : Pending → List ℕ → Type 0
HasNone p name = (m : Holding) → pending_done p m name ≡ m name

-- nothing is to be written
abbrev pub IsDone : Pending → Type 0
IsDone p = p.bytes.items ≡ []

-- something is to be written
abbrev pub HasSome : Pending → Type 0
HasSome p = p.bytes.items ≢ []

-- some are to be written to this file
pub record IsFor (p : Pending) (name : List ℕ) : Type 0 where
  pub some : HasSome p
  pub file : string_bytes p.name ≡ name

-- bytes for this place go on where the writes end, where there are any
pub record IsNext (p : Pending) (name : List ℕ) (at : ℕ) : Type 0 where
  pub file : p.bytes.items ≢ [] → string_bytes p.name ≡ name
  pub end : p.bytes.items ≢ [] → p.at + length p.bytes.items ≡ at

-- what is held is bytes with the writes done, too
pub pending_bytes : (p : Pending) (m : Holding) → HoldsBytes m → HoldsBytes (pending_done p m)
pending_bytes p m bytes = with_bytes (string_bytes p.name) p.at p.bytes.items m p.are_bytes bytes
