-- On which bytes of an index file its definitions rest.
use Rattle.std.specs.Prelude.{◌≡◌, ◌≤◌, ◌+◌, ℕ, List, length, take, drop}
use Rattle.myi_base.specs.Numbers.{num_at}

-- Two index files agree outside the state and the mark: in the first 24 bytes, in the base section but for
-- its six unused bytes, and from there to the header's end.
pub record AgreeOutsideState (x y : List ℕ) : Type 0 where
  pub long : num_at 6 2 x ≤ length y
  pub front : take 24 y ≡ take 24 x
  pub base : take 94 (drop (num_at 12 2 x) y) ≡ take 94 (drop (num_at 12 2 x) x)
  pub back : drop (num_at 12 2 x + 100) (take (num_at 6 2 x) y) ≡ drop (num_at 12 2 x + 100) (take (num_at 6 2 x) x)
