-- Trees of one height, side by side on their pages, with a pair between each two: what a page and its children stand for, and
-- what a page becomes that is cut (the order of children and entries is that of MySQL Internals Manual, ".MYI").
use Rattle.std.specs.Prelude.{◌≡◌, ◌⊎◌, ℕ, zero, suc, List, [], ◌∷◌, ◌++◌, length, map, Some}
use Rattle.std.specs.List.{flat_map}
use Rattle.myi_keylist.specs.declared.pair.Pair.{Pair}
use Rattle.myi_btree.specs.Walk.{Places, Walked, each, walk_of, content}

abbrev pub contents : List Walked → List (List Pair)
contents ws = map content ws

abbrev pub all_pages : List Walked → List ℕ
all_pages ws = flat_map (λ (w : Walked). w.pages) ws

-- tree, pair, tree, .. , tree
abbrev pub weave : List (List Pair) → List Pair → List Pair
weave [] ps = []
weave (c ∷ cs) [] = c ++ weave cs []
weave (c ∷ cs) (p ∷ ps) = c ++ p ∷ weave cs ps

-- tree, pair, .. , tree, pair
abbrev pub lefts : List (List Pair) → List Pair → List Pair
lefts [] ps = []
lefts (c ∷ cs) [] = []
lefts (c ∷ cs) (p ∷ ps) = c ++ p ∷ lefts cs ps

-- pair, tree, .. , pair, tree
abbrev pub rights : List Pair → List (List Pair) → List Pair
rights [] cs = []
rights (p ∷ ps) [] = []
rights (p ∷ ps) (c ∷ cs) = (p ∷ c) ++ rights ps cs

-- trees of this height at these places, with a pair between each two, have together these pairs and these pages
pub record IsStrip (read : Places) (height : ℕ) (places : List ℕ) (separators xs : List Pair) (pages : List ℕ) : Type 0 where
  pub walks : List Walked
  pub are : each (walk_of read height) places ≡ Some walks
  pub content_is : weave (contents walks) separators ≡ xs
  pub pages_are : all_pages walks ≡ pages
  pub count : length places ≡ suc (length separators)

-- the same with a pair behind each tree
pub record IsLeft (read : Places) (height : ℕ) (places : List ℕ) (separators xs : List Pair) (pages : List ℕ) : Type 0 where
  pub walks : List Walked
  pub are : each (walk_of read height) places ≡ Some walks
  pub content_is : lefts (contents walks) separators ≡ xs
  pub pages_are : all_pages walks ≡ pages
  pub count : length places ≡ length separators

-- the same with a pair before each tree
pub record IsRight (read : Places) (height : ℕ) (places : List ℕ) (separators xs : List Pair) (pages : List ℕ) : Type 0 where
  pub walks : List Walked
  pub are : each (walk_of read height) places ≡ Some walks
  pub content_is : rights separators (contents walks) ≡ xs
  pub pages_are : all_pages walks ≡ pages
  pub count : length places ≡ length separators

-- what the pairs and children of one page, whose leaves stand so many levels below it, stand for, and the pages below it; the page
-- may have no pair
abbrev pub StandFor : Places → ℕ → List Pair → List ℕ → List Pair → List ℕ → Type 0
StandFor read zero pairs children xs pages = (children ≡ []) × (xs ≡ pairs) × (pages ≡ [])
StandFor read (suc height) pairs children xs pages = IsStrip read height children pairs xs pages

-- no children, or one more than pairs
abbrev pub Branches : List Pair → List ℕ → Type 0
Branches pairs children = (children ≡ []) ⊎ (length children ≡ suc (length pairs))
