-- What is seen of deleted blocks once headers are written one after another.
use Rattle.std.specs.Prelude.{◌≡◌, ◌≤◌, ℕ, ◌==◌, if◌then◌else◌, List, [], ◌∷◌, length, take, Option, Some, None}
use Rattle.myi_frames.specs.declared.head.Head.{Head}

-- a block that will be written is seen so
abbrev pub put_over : Head → (ℕ → Option Head) → ℕ → Option Head
put_over h seen p = if h.at == p then Some h else seen p

-- blocks that will be written one after another
abbrev pub over : List Head → (ℕ → Option Head) → (ℕ → Option Head)
over [] seen = seen
over (h ∷ heads) seen = over heads (put_over h seen)

-- so many of these headers, from the first on, are looked up by their places
pub record AreMapped (found : ℕ → Option Head) (count : ℕ) (heads : List Head) : Type 0 where
  pub few : count ≤ length heads
  pub last : (p : ℕ) → found p ≡ over (take count heads) (λ q. None) p
