-- Trees that are laid one behind the other.
use Rattle.std.specs.Prelude.{◌≡◌, ◌⊎◌, ◌+◌, ◌*◌, ◌≤◌, ℕ, List, [], length, take, drop, map, Some}
use Rattle.std.specs.List.{flat_map}
use Rattle.myi_base.specs.Holding.{Holding, bytes_of, OthersStay}
use Rattle.myi_btree.specs.Walk.{Places, Walked, each, walk_of, content}
use Rattle.myi_btree.specs.LaidPages.{places_from}
use Rattle.myi_treecopy.specs.declared.page.TreeCopy.{TreeCopy}
use Rattle.myi_treecopy.specs.LaidBytes.{all_laid, beginnings}
use Rattle.myi_treecopy.specs.Copying.{pairs_on, old_nodes, new_nodes, laying}

-- the pages of walks
abbrev pub pages_of : List Walked → List ℕ
pages_of ws = flat_map (λ (w : Walked). w.pages) ws

-- trees of this height with these walks stand anew at these places, one behind the other from a place on
pub record StandInTurn (block : ℕ) (old new : Places) (height first : ℕ) (places : List ℕ) (ws : List Walked) : Type 0 where
  pub walked : List Walked
  pub walks : each (walk_of new height) places ≡ Some walked
  pub laid : pages_of walked ≡ places_from (length (pages_of ws)) block first
  pub pages : map (pairs_on new) (pages_of walked) ≡ map (pairs_on old) (pages_of ws)
  pub pairs : map content walked ≡ map content ws

-- The trees below the first children, which stand at the former places, stand in the new file from one place on up to another. The
-- new file reaches no further, and holds before what it held.
pub record CopiesChildren (t : TreeCopy) (first end : ℕ) (former places : List ℕ) (m n : Holding) : Type 0 where
  pub long : (length (bytes_of t.new.now n) ≡ end) ⊎ ((former ≡ []) × (end ≡ first) × (length (bytes_of t.new.now n) ≤ end))
  pub kept : take (length (bytes_of t.new.now m)) (bytes_of t.new.now n) ≡ bytes_of t.new.now m
  pub others : OthersStay t.new.now m n
  pub ends : (height : ℕ) (ws : List Walked) → each (walk_of (old_nodes t m) height) former ≡ Some ws → end ≡ first + t.place.block_length * length (pages_of ws)
  pub bytes : (height : ℕ) (ws : List Walked) → each (walk_of (old_nodes t m) height) former ≡ Some ws → drop first (bytes_of t.new.now n) ≡ all_laid (laying t m height) former first
  pub begins : (height : ℕ) (ws : List Walked) → each (walk_of (old_nodes t m) height) former ≡ Some ws → places ≡ beginnings (laying t m height) former first
  pub anew : (height : ℕ) (ws : List Walked) → each (walk_of (old_nodes t m) height) former ≡ Some ws → StandInTurn t.place.block_length (old_nodes t m) (new_nodes t n) height first places ws
