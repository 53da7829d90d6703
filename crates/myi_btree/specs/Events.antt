-- What a walk of a tree meets, one after the other: the pages that it goes into, their pairs, and the first place on its
-- path where no page of the tree stands. The order is that of the walk: a page before what it holds, and a pair behind
-- all that stands below the child before it (MySQL Internals Manual, ".MYI").
use Rattle.std.specs.Prelude.{◌≡◌, ℕ, zero, suc, List, [], ◌∷◌, ◌++◌, Option, Some, None, if◌then◌else◌}
use Rattle.std.specs.List.{flat_map}
use Rattle.myi_keylist.specs.declared.pair.Pair.{Pair}
use Rattle.myi_btree.specs.Walk.{Node, Places, Walked}
use Rattle.myi_btree.specs.Visit.{is_new, IsDepth}

pub data Event : Type 0 where
  page : ℕ → Event
  pair : Pair → ℕ → Event
  bad : ℕ → Event

-- what a page has behind its first child, or behind its place where it is a leaf: each pair, and what is met below the
-- next child
abbrev pub met_on : ℕ → (ℕ → List Event) → List Pair → List ℕ → List Event
met_on place below [] children = flat_map below children
met_on place below (p ∷ ps) [] = pair p place ∷ met_on place below ps []
met_on place below (p ∷ ps) (c ∷ cs) = pair p place ∷ (below c ++ met_on place below ps cs)

-- no page stands below a leaf
abbrev pub met_nothing : ℕ → List Event
met_nothing place = bad place ∷ []

-- a leaf has no child
abbrev pub on_leaf : ℕ → Node → List ℕ → List Event
on_leaf place node [] = page place ∷ met_on place met_nothing node.pairs []
on_leaf place node (c ∷ cs) = bad place ∷ []

-- a node has some
abbrev pub on_node : ℕ → Node → (ℕ → List Event) → List ℕ → List Event
on_node place node below [] = bad place ∷ []
on_node place node below (c ∷ cs) = page place ∷ (below c ++ met_on place below node.pairs cs)

abbrev pub on_page : ℕ → Option Node → (Node → List Event) → List Event
on_page place None on = bad place ∷ []
on_page place (Some node) on = on node

-- what is met from a place on whose leaves are to stand so many levels below it
abbrev pub events : Places → ℕ → ℕ → List Event
events read zero place = on_page place (read place) (λ node. on_leaf place node node.children)
events read (suc h) place = on_page place (read place) (λ node. on_node place node (events read h) node.children)

-- up to the first place where no page stands, or one that has a byte of a page that was met before
abbrev pub up_to_bad : ℕ → List ℕ → List Event → List Event
up_to_bad block met [] = []
up_to_bad block met (page at ∷ es) = if is_new block at met then page at ∷ up_to_bad block (met ++ at ∷ []) es else bad at ∷ []
up_to_bad block met (pair p at ∷ es) = pair p at ∷ up_to_bad block met es
up_to_bad block met (bad at ∷ es) = bad at ∷ []

-- the events of the walk from a place: its leaves are to stand as deep as the first one
pub record Meets (block : ℕ) (read : Places) (place : ℕ) (es : List Event) : Type 0 where
  pub height : ℕ
  pub depth : IsDepth block read height place []
  pub is : es ≡ up_to_bad block [] (events read height place)

-- ---- what is read off the events

-- the first bad place
abbrev pub first_bad : List Event → Option ℕ
first_bad [] = None
first_bad (page at ∷ es) = first_bad es
first_bad (pair p at ∷ es) = first_bad es
first_bad (bad at ∷ es) = Some at

-- the pairs, each with the place of its page
abbrev pub pairs_in : List Event → List (Pair × ℕ)
pairs_in [] = []
pairs_in (page at ∷ es) = pairs_in es
pairs_in (pair p at ∷ es) = (p, at) ∷ pairs_in es
pairs_in (bad at ∷ es) = pairs_in es

-- the places of the pages
abbrev pub pages_in : List Event → List ℕ
pages_in [] = []
pages_in (page at ∷ es) = at ∷ pages_in es
pages_in (pair p at ∷ es) = pages_in es
pages_in (bad at ∷ es) = pages_in es

abbrev pub walked_in : List Event → Walked
walked_in es = record { pairs = pairs_in es; pages = pages_in es }

-- the events of a tree's walk: none where there is no root
abbrev pub MeetsTree : ℕ → Places → Option ℕ → List Event → Type 0
MeetsTree block read None es = es ≡ []
MeetsTree block read (Some root) es = Meets block read root es

-- the pairs of a tree whose walk meets no bad place, each with the place of its page
abbrev pub FindsPairs : ℕ → Places → Option ℕ → List (Pair × ℕ) → Type 0
FindsPairs block read root pairs = (es : List Event) × MeetsTree block read root es × (first_bad es ≡ None) × (pairs_in es ≡ pairs)

-- the first bad place that a tree's walk meets
abbrev pub FindsBad : ℕ → Places → Option ℕ → ℕ → Type 0
FindsBad block read root at = (es : List Event) × MeetsTree block read root es × (first_bad es ≡ Some at)
