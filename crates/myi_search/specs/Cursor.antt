-- A cursor in the pairs of a tree: the pair that it stands behind, and the pairs behind that one that it has read.
use Rattle.std.specs.Prelude.{◌≡◌, Bool, true, false, List, [], ◌∷◌, ◌++◌, Option, Some, None, if◌then◌else◌}
use Rattle.myi_keylist.specs.declared.pair.Pair.{Pair}
use Rattle.myi_search.specs.Path.{is_up_to}
use Rattle.myi_search.specs.Least.{IsLeastAbove}

-- the pair that a cursor stands behind, none where it stands before all, and pairs behind it that were read
pub record CursorAt : Type 0 where
  pub last : Option Pair
  pub ahead : List Pair

-- the pairs from the first one on that is not passed by
abbrev pub from_kept : (Pair → Bool) → List Pair → List Pair
from_kept passes [] = []
from_kept passes (p ∷ ps) = if passes p then from_kept passes ps else p ∷ ps

-- In this list the pairs that were read are the next ones behind the one that the cursor stands behind. Where none was read that is
-- so in each list.
abbrev pub StandsIn : List Pair → CursorAt → Type 0
StandsIn pairs c = (rest : List Pair) × (from_kept (is_up_to c.last) pairs ≡ c.ahead ++ rest)

-- the cursor stands behind the next pair of the list; or there is none, and it stands where it stood
abbrev pub Advances : List Pair → CursorAt → CursorAt → Bool → Type 0
Advances pairs old new false = IsLeastAbove old.last pairs None × (new ≡ old)
Advances pairs old new true = (p : Pair) × (new.last ≡ Some p) × IsLeastAbove old.last pairs (Some p) × StandsIn pairs new
