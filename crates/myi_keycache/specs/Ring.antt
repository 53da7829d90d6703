-- Nodes that are linked in a ring, and the two lists of a key cache in one.
use Rattle.std.specs.Prelude.{◌≡◌, ◌⊎◌, ◌<◌, ◌+◌, ◌-◌, ℕ, zero, suc, Bool, true, false, List, [], ◌∷◌, ◌++◌, length, map, reverse, slice_get, Some, unwrap_or}
use Rattle.std.specs.List.{AllByRecursion}
use Rattle.myi_keycache.specs.declared.lists.Link.{Link}

-- from a node one comes to these, one after the other, and then to another one
abbrev pub Follows : List ℕ → ℕ → List ℕ → ℕ → Type 0
Follows next from [] to = slice_get next from ≡ Some to
Follows next from (x ∷ xs) to = (slice_get next from ≡ Some x) × Follows next x xs to

-- a number is not among these
abbrev pub IsAbsent : ℕ → List ℕ → Type 0
IsAbsent n xs = AllByRecursion (λ (m : ℕ). m ≡ n → ⊥) xs

-- no number stands twice
abbrev pub AreOnce : List ℕ → Type 0
AreOnce [] = Unit {0}
AreOnce (x ∷ xs) = IsAbsent x xs × AreOnce xs

-- the first of these, or node 0
abbrev pub first_node : List ℕ → ℕ
first_node [] = 0
first_node (x ∷ xs) = x

abbrev pub behind_of : List Link → List ℕ
behind_of links = map (λ (l : Link). l.behind) links

abbrev pub before_of : List Link → List ℕ
before_of links = map (λ (l : Link). l.before) links

abbrev pub hot_of : List Link → List Bool
hot_of links = map (λ (l : Link). l.hot) links

-- the nodes behind node 0, up to it again, are these
pub record IsRing (links : List Link) (nodes : List ℕ) : Type 0 where
  pub behind : Follows (behind_of links) 0 nodes 0
  pub before : Follows (before_of links) 0 (reverse nodes) 0
  pub once : AreOnce (0 ∷ nodes)

-- a node that is not in the ring may be put into it, before this one
pub record CanLink (links : List Link) (node behind : ℕ) (front back : List ℕ) : Type 0 where
  pub ring : IsRing links (front ++ back)
  pub here : first_node back ≡ behind
  pub new : IsAbsent node (0 ∷ (front ++ back))
  pub there : node < length links

-- the indexes of the warm and of the hot pages, and how many pages there is room for
pub record Linked : Type 0 where
  pub warm : List ℕ
  pub hot : List ℕ
  pub room : ℕ

-- the node of an index
abbrev pub node_of : ℕ → ℕ
node_of index = index + 2

-- the nodes of both lists
abbrev pub ring_of : List ℕ → List ℕ → List ℕ
ring_of warm hot = map node_of warm ++ 1 ∷ map node_of hot

-- so many nodes behind one
abbrev pub walk : List ℕ → ℕ → ℕ → List ℕ
walk next zero from = []
walk next (suc n) from = let to = unwrap_or (slice_get next from) 0 in to ∷ walk next n to

-- the lists of so many pages that the links give
abbrev pub linked_by : List Link → ℕ → ℕ → Linked
linked_by links warm hot = record {
  warm = map (λ (n : ℕ). n - 2) (walk (behind_of links) warm 0);
  hot = map (λ (n : ℕ). n - 2) (walk (behind_of links) hot 1);
  room = length links - 2;
}

-- each of these pages is marked so
abbrev pub AreMarked : List Bool → Bool → List ℕ → Type 0
AreMarked marks hot indexes = AllByRecursion (λ (i : ℕ). slice_get marks (node_of i) ≡ Some hot) indexes

-- the links are those of the lists
pub record IsLinked (links : List Link) (warm hot : ℕ) (lists : Linked) : Type 0 where
  pub ring : IsRing links (ring_of lists.warm lists.hot)
  pub warm_long : length lists.warm ≡ warm
  pub hot_long : length lists.hot ≡ hot
  pub warm_marked : AreMarked (hot_of links) false lists.warm
  pub hot_marked : AreMarked (hot_of links) true lists.hot

-- the page of an index is on one of the lists
abbrev pub IsOn : Linked → ℕ → Type 0
IsOn lists index = ((front : List ℕ) × (back : List ℕ) × (lists.warm ≡ front ++ index ∷ back)) ⊎ ((front : List ℕ) × (back : List ℕ) × (lists.hot ≡ front ++ index ∷ back))

-- there is room for the page of an index, and it is on no list
pub record IsOff (lists : Linked) (index : ℕ) : Type 0 where
  pub there : index < lists.room
  pub warm : IsAbsent index lists.warm
  pub hot : IsAbsent index lists.hot
