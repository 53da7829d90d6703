-- The events of a tree's walk, as a list: its leaves are to stand as deep as the first one, which so many steps down the
-- first children lead to.
use Rattle.std.specs.Prelude.{◌≡◌, ◌+◌, ◌≤◌, ℕ, zero, suc, List, [], ◌∷◌, ◌++◌, Option, Some, None}
use Rattle.myi_btree.specs.Walk.{Node, Places}
use Rattle.myi_btree.specs.Visit.{entered}
use Rattle.myi_btree.specs.Events.{Event, events, up_to_bad}

-- one step more than below the first of these children
abbrev pub below_first : (ℕ → ℕ) → List ℕ → ℕ
below_first steps [] = 0
below_first steps (c ∷ cs) = suc (steps c)

abbrev pub below_page : (ℕ → ℕ) → Option Node → ℕ
below_page steps None = 0
below_page steps (Some node) = below_first steps node.children

-- how many steps down the first children lead to the first leaf, as far as there are new pages, and at most so many
abbrev pub first_depth : ℕ → ℕ → Places → ℕ → List ℕ → ℕ
first_depth zero block read place met = 0
first_depth (suc most) block read place met = below_page (λ child. first_depth most block read child (met ++ place ∷ [])) (entered block read place met)

-- what is met from a place of a file of that length on: its pages are no more than its bytes
unfoldable pub events_from : ℕ → ℕ → Places → ℕ → List Event
events_from len block read place = up_to_bad block [] (events read (first_depth len block read place []) place)

-- the events of a tree's walk: none where there is no root
abbrev pub tree_events : ℕ → ℕ → Places → Option ℕ → List Event
tree_events len block read None = []
tree_events len block read (Some root) = events_from len block read root

-- pages stand in the first so many bytes alone
abbrev pub AreWithin : ℕ → ℕ → Places → Type 0
AreWithin len block read = (place : ℕ) (node : Node) → read place ≡ Some node → place + block ≤ len
