-- The walk of a tree: its pairs in order, each with its page. What stands at a place is told by a reading from places
-- to nodes. The order of children and entries is that of MySQL Internals Manual, ".MYI".
use Rattle.std.specs.Prelude.{◌≡◌, ℕ, zero, suc, ◌+◌, ◌<◌, List, [], ◌∷◌, ◌++◌, length, map, Option, Some, None, nat_lt, if◌then◌else◌}
use Rattle.std.specs.List.{flat_map, AllByRecursion}
use Rattle.myi_keylist.specs.declared.pair.Pair.{Pair}

infixl 10 ◌>>=◌
abbrev pub ◌>>=◌ : {A B : Type 0} → Option A → (A → Option B) → Option B
None >>= f = None
(Some x) >>= f = f x

-- what stands on a page: its pairs, and the places of its children, of which a leaf has none
pub record Node : Type 0 where
  pub pairs : List Pair
  pub children : List ℕ

abbrev pub node_with : List Pair → List ℕ → Node
node_with pairs children = record { pairs = pairs; children = children }

-- what stands at a place, where a page stands there
abbrev pub Places : Type 0
Places = ℕ → Option Node

-- the pairs of a tree, each with the place of its page, and the places of its pages in the order in which they are met
pub record Walked : Type 0 where
  pub pairs : List (Pair × ℕ)
  pub pages : List ℕ

-- child, pair, child, .. , child
abbrev pub between_pairs : ℕ → List (List (Pair × ℕ)) → List Pair → List (Pair × ℕ)
between_pairs place [] pairs = []
between_pairs place (c ∷ cs) [] = c ++ between_pairs place cs []
between_pairs place (c ∷ cs) (p ∷ ps) = c ++ (p, place) ∷ between_pairs place cs ps

abbrev pub each : {A B : Type 0} → (A → Option B) → List A → Option (List B)
each f [] = Some []
each f (x ∷ xs) = f x >>= λ y. each f xs >>= λ ys. Some (y ∷ ys)

abbrev pub at_node : ℕ → Node → List Walked → Walked
at_node place node ws = record { pairs = between_pairs place (map (λ (w : Walked). w.pairs) ws) node.pairs; pages = place ∷ flat_map (λ (w : Walked). w.pages) ws }

abbrev pub as_leaf : ℕ → Node → List ℕ → Option Walked
as_leaf place node [] = Some (record { pairs = map (λ p. (p, place)) node.pairs; pages = place ∷ [] })
as_leaf place node (c ∷ cs) = None

-- the tree at a place whose leaves stand so many levels below it: a leaf, or a node whose children are trees of one level less
abbrev pub walk_of : Places → ℕ → ℕ → Option Walked
walk_of read zero place = read place >>= λ node. as_leaf place node node.children
walk_of read (suc h) place = read place >>= λ node. each (walk_of read h) node.children >>= λ ws. if nat_lt 0 (length node.children) then Some (at_node place node ws) else None

-- the pairs of a walk, without their pages
abbrev pub content : Walked → List Pair
content w = map (λ (x : Pair × ℕ). x.0) w.pairs

-- two readings give the same at each of these places
abbrev pub Agree : Places → Places → List ℕ → Type 0
Agree one two pages = AllByRecursion (λ p. one p ≡ two p) pages

-- a page has a pair, and no children or one more than pairs
pub record IsNode (node : Node) : Type 0 where
  pub some : 0 < length node.pairs
  pub branching : 0 < length node.children → length node.children ≡ length node.pairs + 1

-- what a reading shows are such pages
abbrev pub AreNodes : Places → Type 0
AreNodes read = (place : ℕ) (node : Node) → read place ≡ Some node → IsNode node
