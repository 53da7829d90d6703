-- A tree that stands anew in another file, each page before those below it and one page behind the other (as myisamchk lays an index
-- with --sort-index: MySQL Reference Manual, "Other myisamchk Options").
use Rattle.std.specs.Prelude.{◌≡◌, ◌≢◌, ◌⊎◌, ℕ, ◌+◌, ◌*◌, ◌≤◌, List, length, map, take, drop, option_map, Option, Some}
use Rattle.myi_base.specs.Holding.{Holding, bytes_of, OthersStay}
use Rattle.myi_keylist.specs.declared.pair.Pair.{Pair}
use Rattle.myi_btree.specs.Sizes.{IsPlaced}
use Rattle.myi_btree.specs.Walk.{Node, Places, Walked, walk_of, content}
use Rattle.myi_btree.specs.LaidPages.{places_from}
use Rattle.myi_btree.specs.Nodes.{node_at}
use Rattle.myi_treecopy.specs.LaidBytes.{Laying, tree_laid, whole_tree}
use Rattle.myi_treecopy.specs.declared.fault.CopyFault.{CopyFault}
use Rattle.myi_treecopy.specs.declared.fault.CopyFault.TheVariants as copy
use Rattle.myi_treecopy.specs.declared.page.TreeCopy.{TreeCopy}

-- the pairs on the page at a place, where one stands there
abbrev pub pairs_on : Places → ℕ → Option (List Pair)
pairs_on read place = option_map (λ (node : Node). node.pairs) (read place)

-- A tree of this height whose walk is w stands anew from a place on. The pages of the new walk stand one behind the other, in the
-- order in which both walks meet them, a page before those below it; each has the pairs that the old one has.
pub record StandsAnew (block : ℕ) (old new : Places) (height start : ℕ) (w : Walked) : Type 0 where
  pub walked : Walked
  pub walk : walk_of new height start ≡ Some walked
  pub places : walked.pages ≡ places_from (length w.pages) block start
  pub pages : map (pairs_on new) walked.pages ≡ map (pairs_on old) w.pages
  pub pairs : content walked ≡ content w

-- pages of a length that pages have, in files of two names
pub record IsMade (t : TreeCopy) : Type 0 where
  pub placed : IsPlaced t.place
  pub apart : t.old.now ≢ t.new.now

-- the nodes of the tree's pages in the old file, and in the new one
abbrev pub old_nodes : TreeCopy → Holding → Places
old_nodes t m = node_at t.place.rec_ref t.place.block_length (bytes_of t.old.now m)

abbrev pub new_nodes : TreeCopy → Holding → Places
new_nodes t m = node_at t.place.rec_ref t.place.block_length (bytes_of t.new.now m)

-- how trees of this height of the old file are laid
abbrev pub laying : TreeCopy → Holding → ℕ → Laying
laying t m height = tree_laid t.place.rec_ref t.place.block_length (bytes_of t.old.now m) height

-- the new file reaches no further than to a place
abbrev pub EndsBefore : TreeCopy → ℕ → Holding → Type 0
EndsBefore t start m = length (bytes_of t.new.now m) ≤ start

-- The tree below a place of the old file stands in the new one from one place on up to another. The new file ends there, and holds
-- before what it held.
pub record Copies (t : TreeCopy) (at start end : ℕ) (m n : Holding) : Type 0 where
  pub long : length (bytes_of t.new.now n) ≡ end
  pub kept : take (length (bytes_of t.new.now m)) (bytes_of t.new.now n) ≡ bytes_of t.new.now m
  pub others : OthersStay t.new.now m n
  pub ends : (height : ℕ) (w : Walked) → walk_of (old_nodes t m) height at ≡ Some w → end ≡ start + t.place.block_length * length w.pages
  pub bytes : (height : ℕ) (w : Walked) → walk_of (old_nodes t m) height at ≡ Some w → drop start (bytes_of t.new.now n) ≡ laying t m height at start
  pub anew : (height : ℕ) (w : Walked) → walk_of (old_nodes t m) height at ≡ Some w → StandsAnew t.place.block_length (old_nodes t m) (new_nodes t n) height start w

-- Where the tree below a place of the old file has a walk, whatever its height, the new file has from the start on exactly its bytes, as
-- it is laid from there on.
abbrev pub LaysWhole : TreeCopy → ℕ → ℕ → Holding → Holding → Type 0
LaysWhole t at start m n = (height : ℕ) (w : Walked) → walk_of (old_nodes t m) height at ≡ Some w → drop start (bytes_of t.new.now n) ≡ whole_tree t.place.rec_ref t.place.block_length (bytes_of t.old.now m) at start

-- no tree stands below the place whose pages all have room before the limit
abbrev pub NoTree : TreeCopy → ℕ → ℕ → Holding → Type 0
NoTree t at start m = (height : ℕ) (w : Walked) → walk_of (old_nodes t m) height at ≡ Some w → start + t.place.block_length * length w.pages ≤ t.limit → ⊥

-- no such tree stands there whose leaves are at most so many levels below the place
abbrev pub NoTreeWithin : TreeCopy → ℕ → ℕ → ℕ → Holding → Type 0
NoTreeWithin t levels at start m = (height : ℕ) (w : Walked) → height ≤ levels → walk_of (old_nodes t m) height at ≡ Some w → start + t.place.block_length * length w.pages ≤ t.limit → ⊥

-- the fault says that no page of the tree stands at that place
abbrev pub IsDamage : ℕ → CopyFault → Type 0
IsDamage at fault = fault ≡ copy.Damaged at

-- a fault that says nothing of the tree
abbrev pub CutsOff : CopyFault → Type 0
CutsOff fault = (fault ≡ copy.File) ⊎ (fault ≡ copy.Memory)

-- the call was cut off, or no page stands at some place, and then this holds of what the files tell
abbrev pub CutsOrLacks : (Holding → Type 0) → CopyFault → Type 0
CutsOrLacks never fault = CutsOff fault ⊎ ((at : ℕ) × IsDamage at fault × ((m : Holding) → never m))
