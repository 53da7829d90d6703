-- The pages that a walk goes into: no byte of one belongs to another that was met before.
use Rattle.std.specs.Prelude.{◌≡◌, ℕ, zero, suc, ◌+◌, List, [], ◌∷◌, ◌++◌, map, Bool, true, Option, Some, None, if◌then◌else◌}
use Rattle.myi_base.specs.Ranges.{Range, is_apart, AreDisjoint}
use Rattle.myi_btree.specs.Walk.{Node, Places, Walked, walk_of}

-- the bytes of a page of so many bytes
abbrev pub page_range : ℕ → ℕ → Range
page_range block place = (place, place + block)

-- a page there has no byte of those that were met
abbrev pub is_new : ℕ → ℕ → List ℕ → Bool
is_new block place met = is_apart (page_range block place) (map (page_range block) met)

-- each of these pages is new, behind those that were met and those before it
abbrev pub AreNew : ℕ → List ℕ → List ℕ → Type 0
AreNew block met [] = Unit {0}
AreNew block met (place ∷ places) = (is_new block place met ≡ true) × AreNew block (met ++ place ∷ []) places

-- the node of a page that is gone into: one that is new
abbrev pub entered : ℕ → Places → ℕ → List ℕ → Option Node
entered block read place met = if is_new block place met then read place else None

abbrev pub HasFirst : (ℕ → Type 0) → List ℕ → Type 0
HasFirst P [] = ⊥
HasFirst P (c ∷ cs) = P c

-- so many steps down the first children lead past nodes to a leaf, as far as there are new pages
abbrev pub IsDepth : ℕ → Places → ℕ → ℕ → List ℕ → Type 0
IsDepth block read zero place met = (node : Node) → entered block read place met ≡ Some node → node.children ≡ []
IsDepth block read (suc h) place met = (node : Node) → entered block read place met ≡ Some node → HasFirst (λ child. IsDepth block read h child (met ++ place ∷ [])) node.children

-- the walk of a place, whose pages have no byte in common
pub record HasWalk (block : ℕ) (read : Places) (place : ℕ) (w : Walked) : Type 0 where
  pub height : ℕ
  pub walk : walk_of read height place ≡ Some w
  pub disjoint : AreDisjoint (map (page_range block) w.pages)
