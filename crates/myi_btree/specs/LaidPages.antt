-- The pages that building puts, level by level (this project's own). The lowest level has the pairs. A page takes from
-- the left as many of its level's entries as fit, but does not leave exactly one; the next entry is set aside, and the
-- next page begins behind it. The entries set aside are the level above, and the pages are its children.
use Rattle.std.specs.Prelude.{◌≡◌, ℕ, zero, suc, ◌+◌, ◌-◌, ◌*◌, ◌<◌, List, [], ◌∷◌, ◌++◌, length, map, take, drop, Bool, true, false, not, ◌&&◌, nat_lt, ◌==◌, Option, Some, None, if◌then◌else◌}
use Rattle.myi_keylist.specs.declared.pair.Pair.{Pair}
use Rattle.myi_btree.specs.Walk.{Node, node_with, Places, Walked, walk_of, content}

-- whether pairs fit into a page, with children or without
abbrev pub Fits : Type 0
Fits = Bool → List Pair → Bool

-- the greatest number up to n that passes, or 1
abbrev pub greatest : (ℕ → Bool) → ℕ → ℕ
greatest passes zero = 1
greatest passes (suc n) = if passes (suc n) then suc n else greatest passes n

-- how many entries the next page takes: the most that fit and behind which not exactly one is left
abbrev pub count_of : (List Pair → Bool) → List Pair → ℕ
count_of fits entries = greatest (λ c. fits (take c entries) && not (length entries - c == 1)) (length entries)

-- a level: its pages, and the entries that are set aside between them
pub record Level : Type 0 where
  pub pages : List Node
  pub separators : List Pair

abbrev pub with_page : Node → Pair → Level → Level
with_page page separator level = record { pages = page ∷ level.pages; separators = separator ∷ level.separators }

-- what stands behind a page of so many entries: nothing, or a separator and the other pages
abbrev pub after_page : (List Pair → List ℕ → Level) → ℕ → List Pair → List ℕ → List Pair → Level
after_page others count entries children [] = record { pages = node_with entries children ∷ []; separators = [] }
after_page others count entries children (separator ∷ rest) = with_page (node_with (take count entries) (take (suc count) children)) separator (others rest (drop (suc count) children))

-- a level of at most n + 1 pages; children are none in the lowest level, or one more than entries
abbrev pub level_of : ℕ → (List Pair → Bool) → List Pair → List ℕ → Level
level_of zero fits entries children = record { pages = node_with entries children ∷ []; separators = [] }
level_of (suc n) fits entries children =
    let count = count_of fits entries in
    after_page (level_of n fits) count entries children (drop count entries)

-- so many places, one behind the other, of pages of so many bytes
abbrev pub places_from : ℕ → ℕ → ℕ → List ℕ
places_from zero block first = []
places_from (suc n) block first = first ∷ places_from n block (first + block)

abbrev pub above : (Level → List Node) → Level → Bool → List Node
above upper level false = level.pages
above upper level true = level.pages ++ upper level

-- the pages of a level and of those above it, lowest first, at most n levels
abbrev pub levels_from : ℕ → Fits → ℕ → ℕ → Bool → List Pair → List ℕ → List Node
levels_from zero fits block first node entries children = []
levels_from (suc n) fits block first node entries children =
    let level = level_of (length entries) (fits node) entries children in
    above (λ l. levels_from n fits block (first + block * length l.pages) true l.separators (places_from (length l.pages) block first)) level (nat_lt 1 (length level.pages))

-- the pages of a tree with these pairs, from a place on, in the order of their places; the last one is the root
abbrev pub laid : Fits → ℕ → ℕ → List Pair → List Node
laid fits block first [] = []
laid fits block first (p ∷ ps) = levels_from (length (p ∷ ps)) fits block first false (p ∷ ps) []

-- one of so many places, one behind the other, of pages of so many bytes
abbrev pub IsLaidAt : ℕ → ℕ → ℕ → ℕ → Type 0
IsLaidAt block first total place = (i : ℕ) × (i < total) × (place ≡ first + block * i)

-- the pages stand one behind the other from a place on
abbrev pub Stands : Places → ℕ → ℕ → List Node → Type 0
Stands read block first [] = Unit {0}
Stands read block first (page ∷ pages) = (read first ≡ Some page) × Stands read block (first + block) pages

-- the last of so many pages is the root of a tree with these pairs
pub record IsRooted (read : Places) (block first total : ℕ) (pairs : List Pair) : Type 0 where
  pub before : ℕ
  pub last : total ≡ suc before
  pub height : ℕ
  pub walk : (w : Walked) × (walk_of read height (first + block * before) ≡ Some w) × (content w ≡ pairs)

-- the place of the root page: the last of these pages from a place on
abbrev pub root_of : ℕ → ℕ → List Node → Option ℕ
root_of block first [] = None
root_of block first (page ∷ pages) = Some (first + block * length pages)

-- a page whose children stand so many bytes further on
abbrev pub moved : ℕ → Node → Node
moved by node = node_with node.pairs (map (λ (child : ℕ). child + by) node.children)
