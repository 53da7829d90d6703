-- What a row takes of the deleted list, by the blocks that stand in the file.
use Rattle.std.specs.Prelude.{◌≡◌, ℕ, ◌+◌, ◌-◌, ◌%◌, ◌^◌, ◌<◌, ◌≤◌, Bool, true, false, List, [], ◌∷◌, ◌++◌, Option, None, Ok, Err, IfSome}
use Rattle.std.specs.List.{AllByRecursion}
use Rattle.myi_dellist.specs.declared.pieces.Piece.{Piece}
use Rattle.myi_dellist.specs.declared.taking.Taken.{Taken}
use Rattle.myi_dellist.specs.Areas.{Area, AreInside}
use Rattle.myi_dellist.specs.Releasing.{half_size, most_size}
use Rattle.myi_dellist.specs.Placing.{areas_of, room, take_from}
use Rattle.myi_dellist.specs.Standing.{first_or, last_or, IsPart}
use Rattle.myi_dellist.specs.Freeing.{hole_in, block_named, IsHoleIn}

-- a block that is not the last one of its row: it is filled
pub record IsFull (len : ℕ) (first : Bool) (left : ℕ) (p : Piece) : Type 0 where
  pub multiple : p.size % 4 ≡ 0
  pub least : 20 ≤ p.size
  pub most : p.size ≤ half_size + most_size
  pub taken : p.taken ≡ room len first p.size
  pub less : p.taken < left
  pub few : p.taken < 2 ^ 24

-- full blocks, behind which so many bytes are left
abbrev pub Run : ℕ → Bool → ℕ → List Piece → ℕ → Type 0
Run len first left [] rest = left ≡ rest
Run len first left (p ∷ ps) rest = IsFull len first left p × Run len false (left - p.taken) ps rest

-- blocks in a file of this length that a row of so many bytes fills, and the block behind them
pub record IsRun (end len : ℕ) (ps : List Piece) (t : Taken) : Type 0 where
  pub run : Run len true len ps t.left
  pub some : 0 < t.left
  pub less : t.left ≤ len
  pub inside : AreInside end (areas_of ps)
  pub aligned : AllByRecursion (λ p. p.at % 4 ≡ 0) ps
  pub next : IfSome t.next (IsHoleIn end)

-- a row of so many bytes takes these blocks of its own, and so many bytes are left
abbrev pub HasTaken : List Area → ℕ → List Piece → ℕ → Type 0
HasTaken own len ps left = ((take_from len true len own).pieces ≡ ps) × ((take_from len true len own).left ≡ left)

-- The first blocks of the list, each of which names the one before it: so many that a row fills behind blocks of its own, the
-- place that the last of them names, and how they are taken.
pub record Fills (own : List Area) (d : List ℕ) (head : Option ℕ) (len : ℕ) (ps : List Piece) (left : ℕ) (areas : List Area) (link : Option ℕ) : Type 0 where
  pub first : first_or areas link ≡ head
  pub linked : IsPart d None areas link
  pub pieces : (take_from len true len (own ++ areas)).pieces ≡ ps
  pub left_is : (take_from len true len (own ++ areas)).left ≡ left
  pub some : 0 < left

-- such blocks, and the one behind them, which names the last of them
pub record TakesFull (own : List Area) (d : List ℕ) (head : Option ℕ) (len : ℕ) (ps : List Piece) (t : Taken) : Type 0 where
  pub areas : List Area
  pub link : Option ℕ
  pub fills : Fills own d head len ps t.left areas link
  pub last : t.last ≡ last_or areas None
  pub names : block_named (hole_in d) t.last link ≡ Ok t.next

-- the block behind such blocks is not one that names the last of them
pub record MeetsBad (own : List Area) (d : List ℕ) (head : Option ℕ) (len at : ℕ) : Type 0 where
  pub ps : List Piece
  pub left : ℕ
  pub areas : List Area
  pub link : Option ℕ
  pub fills : Fills own d head len ps left areas link
  pub bad : block_named (hole_in d) (last_or areas None) link ≡ Err at
