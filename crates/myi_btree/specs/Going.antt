-- What a walk still meets, by the pages that it has open.
use Rattle.std.specs.Prelude.{◌≡◌, ℕ, zero, suc, ◌+◌, ◌≤◌, List, [], ◌∷◌, ◌++◌, length, Option, Some, None}
use Rattle.myi_btree.specs.Walk.{Node, Places}
use Rattle.myi_btree.specs.Visit.{IsDepth}
use Rattle.myi_btree.specs.Events.{Event, met_nothing, met_on, events, up_to_bad}

-- what is met below a page that has its leaves so many levels below it
abbrev pub below : Places → ℕ → ℕ → List Event
below read zero = met_nothing
below read (suc h) = events read h

-- what is still met of open pages, each the child of the one before, of which the last has its leaves so many levels
-- below it
abbrev pub left_of : Places → ℕ → List (ℕ × Node) → List Event
left_of read n [] = []
left_of read n (p ∷ path) = left_of read n path ++ met_on p.0 (below read (n + length path)) p.1.pairs p.1.children

-- what is met of the page that is gone into next
abbrev pub left_down : Places → ℕ → Option ℕ → List Event
left_down read n None = []
left_down read n (Some c) = below read n c

-- how many levels the leaves are below the last of the open pages: by their number where the first leaf was met, and else by the way down to it
abbrev pub IsHeight : ℕ → Places → List ℕ → Option ℕ → Option ℕ → List (ℕ × Node) → ℕ → Type 0
IsHeight block read met (Some height) down path n = n + length path ≡ height
IsHeight block read met None (Some c) path n = (h : ℕ) × (n ≡ suc h) × IsDepth block read h c met
IsHeight block read met None None path n = Unit {0}

-- these events are still met
pub record IsLeft (block : ℕ) (read : Places) (met : List ℕ) (height down : Option ℕ) (path : List (ℕ × Node)) (es : List Event) : Type 0 where
  pub level : ℕ
  pub height_is : IsHeight block read met height down path level
  pub is : es ≡ up_to_bad block met (left_down read level down ++ left_of read level path)

-- no more pages are open than the tree is high, and before the first leaf there is a next page to go into
abbrev pub Fits : Option ℕ → Option ℕ → List (ℕ × Node) → Type 0
Fits (Some height) down path = length path ≤ height
Fits None (Some c) path = Unit {0}
Fits None None path = path ≡ []
